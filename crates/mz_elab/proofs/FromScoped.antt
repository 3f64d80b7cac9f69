-- A program that was read is as the walk of its bodies asks: each body is scoped where the parameters are bound, and the
-- declarations are lawful.
use Rattle.std.specs.Prelude.{IfSome}
use Rattle.std.proofs.Common.{◌≡◌, ◌⊎◌, inl, inr, ◌==◌, ℕ, zero, suc, ◌+◌, ◌<◌, ◌≤◌, cond, Bool, true, false, List, [], ◌∷◌, length, map, Option, Some, None, slice_get, refl, sym, ap, ◌∙◌, subst, arith}
use Rattle.std.specs.List.{list_any, range_with_len, filter}
use Rattle.std.proofs.lemmas.Bool.{cases_Bool}
use Rattle.std.proofs.lemmas.List.{length-map}
use Rattle.std.proofs.lemmas.List.Sums.{length-filter}
use Rattle.mz_tree.specs.Plain.{Ty, Atom, Atoms, Int_type, Unknown_type, Dynamic_type, Locked_type, Named_type, Function_type, Block_type, Lock_type, Has_atom, Same_atom, No_atoms, More_atoms}
use Rattle.mz_tree.specs.Code.{Op, Commands, Case, Cases, Body, Int_op, Unit_op, Fun_op, Copy_op, Arith_op, New_op, Read_op, Write_op, Retag_op, If_op, Match_op, Call_op, Give_op, Take_op, New_lock_op, Acquire_op, Release_op, Spawn_op, Print_op, The_command, No_commands, More_commands, The_case, No_cases, More_cases, The_body, case_list, con_of}
use Rattle.mz_tree.specs.Programs.{Variety, Need, Fun, Program}
use Rattle.mz_tree.specs.Scoped.{Each, Bound, Scope, IsBound, AreBound, names_below, names_after, after_commands, after_op, after_cases, case_cons, HasField, HasFields, IsConOf, FitsType, FitsAtom, FitsAtoms, IsAtomWithin, AreAtomsWithin, AreAll, function_in, bound_by, with_bound, IsBody, AreCommands, IsOp, AreCases, Scoped}
use Rattle.mz_decl.specs.Contents.{names_from}
use Rattle.mz_decl.specs.Declarations.{decls_of, clause_of, clause_in}
use Rattle.mz_modes.specs.Adopted.{Declared, At_declaration}
use Rattle.mz_modes.specs.Affine.{IsMutable, AffineAtom}
use Rattle.mz_perm.specs.Lists.{In}
use Rattle.mz_perm.specs.Occurrence.{in_type, in_atom, in_guarded}
use Rattle.mz_flow.specs.Branches.{cases_at}
use Rattle.mz_deriv.proofs.Membership.{in_get, in_names_from}
use Rattle.mz_deriv.proofs.WrittenBodies.{grows_body}
use Rattle.mz_deriv.proofs.WrittenNames.{either, is_same, same_is, any_number}
use Rattle.mz_elab.specs.Scoping.{AreCasesOf, IsCon, SpeakOf, ScopedBody, ScopedCommands, ScopedOp, ScopedCases, FunScoped}
use Rattle.mz_elab.specs.Scoping.{AreBound as AreListed, HasField as FieldOf, IsConOf as ConOf}
use Rattle.mz_elab.specs.Standing.{Lawful}

-- what holds of each member of a list holds of what is in it
each_in : {A : Type 0} (P : A → Type 0) (xs : List A) → Each (λ _ a. P a) xs → (a : A) → In a xs → P a
each_in P xs all a i = let g = in_get a xs i in all g.0 a g.1

-- ---- names that are bound, as a list

-- the names of a scope are in the list, and what is in the list is below the next core name
record Listed (scope : Scope) (names : List ℕ) (n : ℕ) : Type 0 where
  bound : (x : ℕ) → IsBound scope x → In x names
  below : (x : ℕ) → In x names → x < n

-- where more core names stand before
later : (scope : Scope) (names : List ℕ) (n m : ℕ) → n ≤ m → Listed scope names n → Listed scope names m
later scope names n m h l = record { bound = l.bound; below = λ x i. (let b = l.below x i in omega (arith, b, h)) }

-- with one name more
one_more : (scope : Scope) (names : List ℕ) (n to : ℕ) (f : Option ℕ) → n ≤ to → Listed scope names n → Listed (record { name = to; function = f } ∷ scope) (to ∷ names) (to + 1)
one_more scope names n to f h l = record {
  bound = λ x o. elim (either (to == x) (list_any (λ (b : Bound). b.name == x) scope) o) [ inl e ↦ inl (sym (is_same to x e)) | inr q ↦ inr (l.bound x q) ];
  below = λ x i. elim i [ inl e ↦ omega (arith, e) | inr j ↦ (let b = l.below x j in omega (arith, b, h)) ];
}

-- the parameters
from_first : (a n x : ℕ) → IsBound (map (λ m. record { name = m; function = None }) (range_with_len a n)) x → In x (names_from a n)
from_first a zero x o = absurd (cc)
from_first a (suc n) x o = elim (either (a == x) (list_any (λ (b : Bound). b.name == x) (map (λ m. record { name = m; function = None }) (range_with_len (a + 1) n))) o) [
  | inl e ↦ inl (sym (is_same a x e))
  | inr q ↦ inr (let e : a + 1 ≡ suc a = omega arith in subst (λ k. In x (names_from k n)) e (from_first (a + 1) n x q))
]

at_first : (n : ℕ) → Listed (names_below n) (names_from 0 n) n
at_first n = record { bound = from_first 0 n; below = λ x i. (let b = in_names_from x 0 n i in omega (arith, b)) }

-- ---- what occurs in a permission that fits is known

module _ (p : Program) (Known : ℕ → Type 0) where
  mutual
    known_in_type : (t : Ty ℕ) → FitsType p Known t → (m : ℕ) → in_type m t ≡ true → Known m
    known_in_type (Block_type con fields adopts) k m o = each_in Known fields k.1 m (any_number m fields o)
    known_in_type (Lock_type guarded) k m o = known_in_atoms guarded k.1 m o
    known_in_type (Named_type d) k m o = absurd (cc)
    known_in_type (Function_type s) k m o = absurd (cc)
    known_in_type Int_type k m o = absurd (cc)
    known_in_type Unknown_type k m o = absurd (cc)
    known_in_type Dynamic_type k m o = absurd (cc)
    known_in_type Locked_type k m o = absurd (cc)

    known_in : (a : Atom ℕ) → FitsAtom p Known a → (m : ℕ) → in_atom m a ≡ true → Known m
    known_in (Has_atom x t) k m o = elim (either (x == m) (in_type m t) o) [ inl e ↦ subst Known (is_same x m e) k.0 | inr q ↦ known_in_type t k.1 m q ]
    known_in (Same_atom x y) k m o = elim (either (x == m) (y == m) o) [ inl e ↦ subst Known (is_same x m e) k.0 | inr e ↦ subst Known (is_same y m e) k.1 ]

    known_in_atoms : (guarded : Atoms ℕ) → FitsAtoms p Known guarded → (m : ℕ) → in_guarded m guarded ≡ true → Known m
    known_in_atoms No_atoms k m o = absurd (cc)
    known_in_atoms (More_atoms a rest) k m o = elim (either (in_atom m a) (in_guarded m rest) o) [ inl e ↦ known_in a k.0 m e | inr e ↦ known_in_atoms rest k.1 m e ]

-- ---- the cases of a match

-- a case's constructor is one of the cases', and each of these is a case's
con_among : (cases : Cases) (k : Case) → In k (case_list cases) → In (con_of k) (case_cons cases)
con_among No_cases k i = absurd i
con_among (More_cases (The_case con body) rest) k (inl e) = inl (ap con_of e)
con_among (More_cases (The_case con body) rest) k (inr i) = inr (con_among rest k i)

-- as many as the constructor has among the constructors
cases_counted : (con : ℕ) (cases : Cases) → length (filter (λ k. k == con) (case_cons cases)) ≡ length (cases_at con (case_list cases))
cases_counted con No_cases = refl
cases_counted con (More_cases (The_case k body) rest) = by (k == con) (cases_counted con rest)
  where
    by : (b : Bool) → length (filter (λ k. k == con) (case_cons rest)) ≡ length (cases_at con (case_list rest))
        → length (cond b (k ∷ filter (λ k. k == con) (case_cons rest)) (filter (λ k. k == con) (case_cons rest))) ≡ length (cond b (The_case k body ∷ cases_at con (case_list rest)) (cases_at con (case_list rest)))
    by true e = omega (arith, e)
    by false e = e

-- what is among the cases of a constructor is a case of it
is_case : (con : ℕ) (cases : List Case) (k : Case) → In k (cases_at con cases) → In k cases × (con_of k ≡ con)
is_case con [] k i = absurd i
is_case con (c ∷ cases) k i = by (con_of c == con) refl (λ j. is_case con cases k j) i
  where
    by : (b : Bool) → (con_of c == con) ≡ b → (In k (cases_at con cases) → In k cases × (con_of k ≡ con)) → In k (cond b (c ∷ cases_at con cases) (cases_at con cases)) → In k (c ∷ cases) × (con_of k ≡ con)
    by true e more (inl s) = (inl s, ap con_of s ∙ is_same (con_of c) con e)
    by true e more (inr j) = let m = more j in (inr m.0, m.1)
    by false e more j = let m = more j in (inr m.0, m.1)

-- and a case is among those of its constructor
among_its : (cases : List Case) (con : ℕ) (k : Case) → con_of k ≡ con → In k cases → In k (cases_at con cases)
among_its [] con k e i = absurd i
among_its (c ∷ cases) con k e i = by (con_of c == con) refl (λ j. among_its cases con k e j) i
  where
    by : (b : Bool) → (con_of c == con) ≡ b → (In k cases → In k (cases_at con cases)) → In k (c ∷ cases) → In k (cond b (c ∷ cases_at con cases) (cases_at con cases))
    by true q more (inl s) = inl s
    by true q more (inr j) = inr (more j)
    by false q more (inl s) = absurd (let is : con_of c == con ≡ true = same_is (con_of c) con (sym e ∙ ap con_of s) in cc)
    by false q more (inr j) = more j

-- a list of one is what is in it, and something is
alone : {A : Type 0} (xs : List A) (x : A) → length xs ≡ 1 → In x xs → xs ≡ x ∷ []
alone [] x n i = absurd i
alone (y ∷ []) x n (inl e) = ap (λ z. z ∷ []) (sym e)
alone (y ∷ []) x n (inr i) = absurd i
alone (y ∷ z ∷ more) x n i = absurd (omega arith)

first_in : {A : Type 0} (xs : List A) → length xs ≡ 1 → (x : A) × In x xs
first_in [] n = absurd (omega arith)
first_in (x ∷ xs) n = (x, inl refl)

module _ (p : Program) where
  con_here : (d con : ℕ) → IsConOf p d con → ConOf (decls_of p) d con
  con_here d con k = record { made = k.found; is_con = k.declared; data_type = k.same }

  con_back : (d con : ℕ) → ConOf (decls_of p) d con → IsConOf p d con
  con_back d con k = record { found = k.made; declared = k.is_con; same = k.data_type }

  -- a constructor of the data type has one case
  one_case : (d con : ℕ) (cases : Cases) → AreAll p d (case_cons cases) → IsConOf p d con → length (cases_at con (case_list cases)) ≡ 1
  one_case d con cases all k = sym (cases_counted con cases) ∙ length-filter (λ k. k == con) (case_cons cases) ∙ all.once con k

  all_cases : (d : ℕ) (cases : Cases) → AreAll p d (case_cons cases) → AreCasesOf (decls_of p) d (case_list cases)
  all_cases d cases all = record {
    only = λ k i. con_here d (con_of k) (only k i);
    once = λ k i. alone (cases_at (con_of k) (case_list cases)) k (one_case d (con_of k) cases all (only k i)) (among_its (case_list cases) (con_of k) k refl i);
    all = λ con k.
        let f = first_in (cases_at con (case_list cases)) (one_case d con cases all (con_back d con k)) in
        let c = is_case con (case_list cases) f.0 f.1 in
        (f.0, c.0, c.1);
  }
    where
      only : (k : Case) → In k (case_list cases) → IsConOf p d (con_of k)
      only k i = each_in (IsConOf p d) (case_cons cases) all.only (con_of k) (con_among cases k i)

-- ---- bodies

-- bodies bind more and more names
mutual
  grows_op : (n : ℕ) (op : Op) → n ≤ after_op n op
  grows_op n (If_op test one two giving) = let h = grows_body n one in let k = grows_body (names_after n one) two in omega (arith, h, k)
  grows_op n (Match_op block d cases giving) = grows_cases n cases
  grows_op n op = omega arith

  grows_cases : (n : ℕ) (cases : Cases) → n ≤ after_cases n cases
  grows_cases n No_cases = omega arith
  grows_cases n (More_cases (The_case con body) rest) = let h = grows_body n body in let k = grows_cases (names_after n body) rest in omega (arith, h, k)

module _ (p : Program) where
  field_here : (con field : ℕ) → HasField p con field → FieldOf (decls_of p) con field
  field_here con field k = record { made = k.found; is_con = k.declared; within = k.within }

  is_con : (con count : ℕ) → HasFields p con count → IsCon (decls_of p) con
  is_con con count k = record { made = k.found; is_con = k.declared }

  -- names that are bound are in the list, and permissions speak of what is in it
  args_listed : (scope : Scope) (names : List ℕ) (n : ℕ) (ys : List ℕ) → Listed scope names n → AreBound scope ys → AreListed names ys
  args_listed scope names n ys l k y i = l.bound y (each_in (IsBound scope) ys k y i)

  speak : (most : ℕ) (scope : Scope) (names : List ℕ) (n : ℕ) (atoms : List (Atom ℕ)) → Listed scope names n → AreAtomsWithin p most scope atoms → SpeakOf names atoms
  speak most scope names n atoms l k a i m o = l.bound m (known_in p (IsBound scope) a (each_in (IsAtomWithin p most scope) atoms k a i).0 m o)

  module _ (spelling : List (List ℕ)) where
    mutual
      body_scoped : (scope : Scope) (names : List ℕ) (n : ℕ) (b : Body) → Listed scope names n → names_after n b ≤ 256 → IsBody p spelling scope n b → ScopedBody (decls_of p) names b
      body_scoped scope names n (The_body commands value place) l few k = commands_scoped scope names n value commands l few k

      commands_scoped : (scope : Scope) (names : List ℕ) (n value : ℕ) (commands : Commands) → Listed scope names n → after_commands n commands ≤ 256 → AreCommands p spelling scope n value commands → ScopedCommands (decls_of p) names value commands
      commands_scoped scope names n value No_commands l few k = l.bound value k
      commands_scoped scope names n value (More_commands (The_command to op place) rest) l few k =
          let is : to ≡ after_op n op = k.0.0 in
          let up = grows_op n op in
          let more : after_op n op + 1 ≤ after_commands (after_op n op + 1) rest = grows_body (after_op n op + 1) (The_body rest value place) in
          let new : n ≤ to = omega (arith, is, up) in (
            (omega (arith, is, more, few), λ i. (let b = l.below to i in omega (arith, b, new)), op_scoped scope names n to op l new (omega (arith, more, few)) k.0.1),
            commands_scoped (with_bound p spelling scope (The_command to op place)) (to ∷ names) (after_op n op + 1) value rest
                (subst (λ m. Listed (bound_by p spelling to op ∷ scope) (to ∷ names) (m + 1)) is (one_more scope names n to (function_in p spelling to op) new l)) few k.1,
          )

      op_scoped : (scope : Scope) (names : List ℕ) (n to : ℕ) (op : Op) → Listed scope names n → n ≤ to → after_op n op ≤ 256 → IsOp p spelling scope n to op → ScopedOp (decls_of p) names to op
      op_scoped scope names n to (Int_op v) l new few k = tt
      op_scoped scope names n to Unit_op l new few k = tt
      op_scoped scope names n to (Fun_op f) l new few k = let e = length-map p.funs (λ (g : Fun). g.sig) in omega (arith, e, k)
      op_scoped scope names n to (Copy_op y) l new few k = l.bound y k
      op_scoped scope names n to (Arith_op o y z) l new few k = (l.bound y k.0, l.bound z k.1)
      op_scoped scope names n to (New_op con ys) l new few k = args_listed scope names n ys l k.1
      op_scoped scope names n to (Read_op x con field) l new few k = (l.bound x k.0, field_here con field k.1)
      op_scoped scope names n to (Write_op x con field z) l new few k = (l.bound x k.0, field_here con field k.1, l.bound z k.2)
      op_scoped scope names n to (Retag_op x old other) l new few k = (l.bound x k.0, is_con old k.1.count k.1.before, is_con other k.1.count k.1.after)
      op_scoped scope names n to (If_op y one two giving) l new few k =
          let h = grows_body n one in
          let m = grows_body (names_after n one) two in (
            l.bound y k.0,
            body_scoped scope names n one l (omega (arith, m, few)) k.1,
            body_scoped scope names (names_after n one) two (later scope names n (names_after n one) h l) few k.2,
            speak 200 (record { name = to; function = None } ∷ scope) (to ∷ names) (to + 1) giving (one_more scope names n to None new l) k.3,
          )
      op_scoped scope names n to (Match_op y d cases giving) l new few k = (
        l.bound y k.0,
        all_cases p d cases k.2,
        cases_scoped scope names n cases l few k.3,
        speak 200 (record { name = to; function = None } ∷ scope) (to ∷ names) (to + 1) giving (one_more scope names n to None new l) k.4,
      )
      op_scoped scope names n to (Call_op g ys) l new few k = (l.bound g k.0, args_listed scope names n ys l k.1)
      op_scoped scope names n to (Give_op x y) l new few k = (l.bound x k.0, l.bound y k.1)
      op_scoped scope names n to (Take_op x y) l new few k = (l.bound x k.0, l.bound y k.1)
      op_scoped scope names n to (New_lock_op guarded) l new few k = speak 199 scope names n guarded l k.1
      op_scoped scope names n to (Acquire_op y) l new few k = l.bound y k
      op_scoped scope names n to (Release_op y) l new few k = l.bound y k
      op_scoped scope names n to (Spawn_op g y) l new few k = (l.bound g k.0, l.bound y k.1)
      op_scoped scope names n to (Print_op y) l new few k = l.bound y k

      cases_scoped : (scope : Scope) (names : List ℕ) (n : ℕ) (cases : Cases) → Listed scope names n → after_cases n cases ≤ 256 → AreCases p spelling scope n cases → ScopedCases (decls_of p) names cases
      cases_scoped scope names n No_cases l few k = tt
      cases_scoped scope names n (More_cases (The_case con body) rest) l few k =
          let h = grows_body n body in
          let m = grows_cases (names_after n body) rest in
          (body_scoped scope names n body l (omega (arith, m, few)) k.0, cases_scoped scope names (names_after n body) rest (later scope names n (names_after n body) h l) few k.1)

-- the body of each function of a scoped program is scoped, where its parameters are bound
pub fun_scoped : (p : Program) → Scoped p → (k : ℕ) (f : Fun) → slice_get p.funs k ≡ Some f → FunScoped p f
fun_scoped p s k f e =
    let z = s.funs k f e in
    let spelled = z.spelled in
    let most = z.few in
    let few : names_after z.sig.count f.body ≤ 256 = omega (arith, spelled, most) in
    record {
      sig = z.sig;
      signed = z.signed;
      body = body_scoped p f.spelling (names_below z.sig.count) (names_from 0 z.sig.count) z.sig.count f.body (at_first z.sig.count) few z.body;
      few = (s.sigs f.sig z.sig z.signed).few;
    }

-- ---- declarations

-- what occurs in a permission over the first names is below their number
below_first : (p : Program) (count : ℕ) (a : Atom ℕ) → IsAtomWithin p 200 (names_below count) a → (i : ℕ) → in_atom i a ≡ true → i < count
below_first p count a k i o = let l = at_first count in l.below i (l.bound i (known_in p (IsBound (names_below count)) a k.0 i o))

-- the declarations of a scoped program, whose modes can be told, are lawful
pub lawful : (p : Program) → Scoped p → Declared p → ((a : Atom ℕ) → AffineAtom (decls_of p) a ⊎ (AffineAtom (decls_of p) a → ⊥)) → Lawful (decls_of p)
lawful p s declared affine = record {
  affine = affine;
  closed = λ con made f i e j o. below_first p (length made.fields) f.content (each_in _ made.fields (s.cons con made e).fields f j).content i o;
  needs = λ k sig n i e j o. below_first p sig.count n.atom (each_in (λ (m : Need). IsAtomWithin p 200 (names_below sig.count) m.atom) sig.needs (s.sigs k sig e).needs n j) i o;
  gives = λ k sig a i e j o. below_first p (sig.count + 1) a (each_in (IsAtomWithin p 200 (names_below (sig.count + 1))) sig.gives (s.sigs k sig e).gives a j) i o;
  adopts = λ d u e. adopted d u (slice_get p.varieties d) refl e;
}
  where
    within : (xs : List Variety) (u : ℕ) → u < length xs → (v : Variety) × (slice_get xs u ≡ Some v)
    within [] u h = absurd (omega (arith, h))
    within (x ∷ xs) zero h = (x, refl)
    within (x ∷ xs) (suc u) h = within xs u (omega (arith, h))

    -- what a data type adopts is declared
    in_range : (o : Option ℕ) (u : ℕ) → o ≡ Some u → IfSome o (λ x. x < length p.varieties) → u < length p.varieties
    in_range None u e k = absurd (cc)
    in_range (Some x) u e k = subst (λ n. n < length p.varieties) (let same : x ≡ u = cc in same) k

    adopted : (d u : ℕ) (o : Option Variety) → slice_get p.varieties d ≡ o → clause_of (decls_of p) d ≡ Some u → IsMutable (decls_of p) u
    adopted d u None z e = absurd (let none : clause_of (decls_of p) d ≡ None = ap clause_in z in cc)
    adopted d u (Some v) z e =
        let here : v.adopts ≡ Some u = sym (ap clause_in z) ∙ e in
        let w = within p.varieties u (in_range v.adopts u here (s.varieties d v z).adopts) in
        elim (cases_Bool w.0.mutable) [
          | inl m ↦ record { variety = w.0; declared = w.1; mutable = m }
          | inr m ↦ absurd (declared.exclusive v.place (At_declaration d (record { variety = v; declared = z; adopted = u; adopts = here; immutable = record { variety = w.0; declared = w.1; immutable = m }; here = refl })))
        ]
