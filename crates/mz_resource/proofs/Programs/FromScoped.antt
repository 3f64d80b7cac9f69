-- A program that was read, and is declared, is as the proofs ask.
use Rattle.std.specs.Prelude.{count_by, IfSome, cond}
use Rattle.std.proofs.Common.{◌≡◌, ◌≢◌, ◌⊎◌, inl, inr, ◌&&◌, ◌==◌, ℕ, zero, suc, ◌+◌, ◌<◌, ◌≤◌, nat_eq, Bool, true, false, List, [], ◌∷◌, length, map, Option, Some, None, slice_get, codes, refl, sym, ap, ◌∙◌, subst, arith}
use Rattle.std.specs.List.{list_any, range_with_len, fold}
use Rattle.std.specs.Str.{bytes_eq}
use Rattle.std.proofs.lemmas.Bool.{cases_Bool}
use Rattle.mz_tree.specs.Plain.{Ty, Atom, Atoms, Int_type, Unknown_type, Dynamic_type, Locked_type, Named_type, Function_type, Block_type, Lock_type, Has_atom, Same_atom, No_atoms, More_atoms}
use Rattle.mz_tree.specs.Scoped.{Each, Bound, Scope, IsBound, AreBound, names_below, names_after, after_commands, after_command, after_op, after_cases, after_case, case_cons, IsType, IsAtom, AreGuarded, IsAtomWithin, AreAtomsWithin, AreAll, with_bound, bound_by, IsBody, AreCommands, IsOp, AreCases, IsField, Scoped}
use Rattle.mz_tree.specs.Main.{has_no_param}
use Rattle.mz_tree.specs.Programs.{Variety, Con, Field, Need, Sig, Fun, Program}
use Rattle.mz_tree.specs.Code.{Op, Command, Commands, Case, Cases, Body, Int_op, Unit_op, Fun_op, Copy_op, Arith_op, New_op, Read_op, Write_op, Retag_op, If_op, Match_op, Call_op, Give_op, Take_op, New_lock_op, Acquire_op, Release_op, Spawn_op, Print_op, The_command, No_commands, More_commands, The_case, No_cases, More_cases, The_body, case_list}
use Rattle.mz_decl.specs.Declarations.{decls_of, only_of, only_con_in, only_in, clause_of, clause_in}
use Rattle.mz_decl.specs.Declarations.{At_declaration as On_declaration}
use Rattle.mz_perm.specs.Occurrence.{in_atom, in_type, in_guarded}
use Rattle.mz_modes.specs.Affine.{IsMutable}
use Rattle.mz_modes.specs.Adopted.{Declared}
use Rattle.mz_modes.specs.Adopted.{At_declaration as Adopted_declaration}
use Rattle.mz_named.specs.Bodies.{body_for, body_in}
use Rattle.mz_resource.specs.Names.{IsArg, AreArgs, Covers, CoreBody, CoreChain, CoreOp, CoreCases}
use Rattle.mz_resource.proofs.Facts.{some_inj, none_some}
use Rattle.mz_resource.proofs.Programs.Proper.{IsClosed, AreClosed, AreFieldsClosed, AreNeedsClosed, ProperDecls, ProperBodies}
use Rattle.mz_resource.proofs.Meaning.Names.{eq_is}
use Rattle.mz_resource.proofs.Meaning.Spending.{or_either, true_false}
use Rattle.mz_resource.proofs.OpeningIsHeld.{MainIsPlain}

-- a count, from the front
fold_from : {A : Type 0} (f : A → ℕ) (xs : List A) (n : ℕ) → fold (λ a x. a + f x) n xs ≡ n + fold (λ a x. a + f x) 0 xs
fold_from f [] n = omega arith
fold_from f (x ∷ xs) n = let a = fold_from f xs (n + f x) in let b = fold_from f xs (0 + f x) in omega arith

pub count_next : {A : Type 0} (P : A → Bool) (x : A) (xs : List A) → count_by P (x ∷ xs) ≡ cond (P x) 1 0 + count_by P xs
count_next P x xs = let a = fold_from (λ y. cond (P y) 1 0) xs (0 + cond (P x) 1 0) in omega arith

-- ---- names that are bound are below a number

abbrev pub AllBelow : Scope → ℕ → Type 0
AllBelow scope n = (x : ℕ) → IsBound scope x → x < n

below_from : (a n : ℕ) (x : ℕ) → IsBound (map (λ m. record { name = m; function = None }) (range_with_len a n)) x → (a ≤ x) × (x < a + n)
below_from a zero x o = absurd (true_false o refl)
below_from a (suc n) x o = elim (or_either (nat_eq a x) (list_any (λ (b : Bound). b.name == x) (map (λ m. record { name = m; function = None }) (range_with_len (a + 1) n))) o) [
  | inl e ↦ (let q = eq_is a x e in (omega arith, omega arith))
  | inr q ↦ (let r = below_from (a + 1) n x q in let s = r.0 in let t = r.1 in (omega arith, omega arith))
]

pub first_below : (n : ℕ) → AllBelow (names_below n) n
first_below n x o = let r = below_from 0 n x o in let s = r.1 in omega arith

pub more_below : (scope : Scope) (n m : ℕ) → n ≤ m → AllBelow scope n → AllBelow scope m
more_below scope n m le all x o = let l = all x o in omega arith

pub with_below : (scope : Scope) (n to : ℕ) (f : Option ℕ) → n ≤ to → AllBelow scope n → AllBelow (record { name = to; function = f } ∷ scope) (to + 1)
with_below scope n to f le all x o = elim (or_either (nat_eq to x) (list_any (λ (b : Bound). b.name == x) scope) o) [ inl e ↦ (let q = eq_is to x e in omega arith) | inr q ↦ (let l = all x q in omega arith) ]

any_bound : (scope : Scope) (xs : List ℕ) (x : ℕ) → AreBound scope xs → list_any (λ n. nat_eq n x) xs ≡ true → IsBound scope x
any_bound scope [] x all o = absurd (true_false o refl)
any_bound scope (y ∷ xs) x all o = elim (or_either (nat_eq y x) (list_any (λ n. nat_eq n x) xs) o) [
  | inl e ↦ subst (λ n. IsBound scope n) (eq_is y x e) (all 0 y refl)
  | inr q ↦ any_bound scope xs x (λ k a e. all (suc k) a e) q
]

module _ (p : Program) where
  mutual
    type_closed : (scope : Scope) (n : ℕ) (t : Ty ℕ) → AllBelow scope n → IsType p scope t → (x : ℕ) → in_type x t ≡ true → x < n
    type_closed scope n Int_type all k x o = absurd (true_false o refl)
    type_closed scope n Unknown_type all k x o = absurd (true_false o refl)
    type_closed scope n Dynamic_type all k x o = absurd (true_false o refl)
    type_closed scope n Locked_type all k x o = absurd (true_false o refl)
    type_closed scope n (Named_type d) all k x o = absurd (true_false o refl)
    type_closed scope n (Function_type s) all k x o = absurd (true_false o refl)
    type_closed scope n (Block_type con ys u) all k x o = all x (any_bound scope ys x k.1 o)
    type_closed scope n (Lock_type q) all k x o = guarded_closed scope n q all k.1 x o

    atom_closed : (scope : Scope) (n : ℕ) (a : Atom ℕ) → AllBelow scope n → IsAtom p scope a → IsClosed n a
    atom_closed scope n (Has_atom y t) all k x o = elim (or_either (nat_eq y x) (in_type x t) o) [ inl e ↦ subst (λ m. m < n) (eq_is y x e) (all y k.0) | inr q ↦ type_closed scope n t all k.1 x q ]
    atom_closed scope n (Same_atom y z) all k x o = elim (or_either (nat_eq y x) (nat_eq z x) o) [ inl e ↦ subst (λ m. m < n) (eq_is y x e) (all y k.0) | inr e ↦ subst (λ m. m < n) (eq_is z x e) (all z k.1) ]

    guarded_closed : (scope : Scope) (n : ℕ) (q : Atoms ℕ) → AllBelow scope n → AreGuarded p scope q → (x : ℕ) → in_guarded x q ≡ true → x < n
    guarded_closed scope n No_atoms all k x o = absurd (true_false o refl)
    guarded_closed scope n (More_atoms a q) all k x o = elim (or_either (in_atom x a) (in_guarded x q) o) [ inl e ↦ atom_closed scope n a all k.0 x e | inr e ↦ guarded_closed scope n q all k.1 x e ]

  fields_closed : (n m : ℕ) (fields : List Field) → Each (λ _ f. IsField p m f) fields → n ≡ m → AreFieldsClosed n fields
  fields_closed n m [] all e = tt
  fields_closed n m (f ∷ fields) all e = (subst (λ k. IsClosed k f.content) (sym e) (atom_closed (names_below m) m f.content (first_below m) (all 0 f refl).content.0), fields_closed n m fields (λ k a q. all (suc k) a q) e)

  needs_closed : (n : ℕ) (needs : List Need) → Each (λ _ (x : Need). IsAtomWithin p 200 (names_below n) x.atom) needs → AreNeedsClosed n needs
  needs_closed n [] all = tt
  needs_closed n (x ∷ needs) all = (atom_closed (names_below n) n x.atom (first_below n) (all 0 x refl).0, needs_closed n needs (λ k a q. all (suc k) a q))

  gives_closed : (n : ℕ) (gives : List (Atom ℕ)) → AreAtomsWithin p 200 (names_below n) gives → AreClosed n gives
  gives_closed n [] all = tt
  gives_closed n (x ∷ gives) all = (atom_closed (names_below n) n x (first_below n) (all 0 x refl).0, gives_closed n gives (λ k a q. all (suc k) a q))

  -- ---- data types

  only_one : (cons : List ℕ) (con k : ℕ) → only_in cons ≡ Some con → count_by (λ n. n == k) cons ≡ 1 → k ≡ con
  only_one [] con k e c = absurd (none_some refl e)
  only_one (a ∷ []) con k e c = elim (cases_Bool (a == k)) [ inl y ↦ sym (eq_is a k y) ∙ some_inj e | inr n ↦ absurd (zero_one (a == k) n (sym (count_next (λ n. n == k) a []) ∙ c)) ]
    where
      zero_one : (b : Bool) → b ≡ false → cond b 1 0 + 0 ≡ 1 → ⊥
      zero_one true e c = true_false refl e
      zero_one false e c = omega (arith, c)
  only_one (a ∷ b ∷ cons) con k e c = absurd (none_some refl e)

  pub lawful : Scoped p → Declared p → ProperDecls (decls_of p)
  lawful s d = record {
    fields = λ k c e. fields_closed (length c.fields) (length c.fields) c.fields (s.cons k c e).fields refl;
    sigs = λ k g e. (let z = s.sigs k g e in record { few = z.few; needs = needs_closed g.count g.needs z.needs; gives = gives_closed (g.count + 1) g.gives z.gives });
    only = λ d con k c e q v. only d con k c e q v (slice_get p.varieties d) refl;
    adopts = λ d u e. adopts d u e (slice_get p.varieties d) refl;
  }
    where
      only : (d con k : ℕ) (c : Con) → only_of (decls_of p) d ≡ Some con → slice_get p.cons k ≡ Some c → c.variety ≡ d → (o : Option Variety) → slice_get p.varieties d ≡ o → k ≡ con
      only d con k c e q v None z = absurd (none_some (ap only_con_in z) e)
      only d con k c e q v (Some w) z = only_one w.cons con k (sym (ap only_con_in z) ∙ e) ((s.varieties d w z).once k (record { found = c; declared = q; same = v }))

      mutable_of : (u : ℕ) (o : Option Variety) → slice_get p.varieties u ≡ o → u < length p.varieties → ((v : Variety) → slice_get p.varieties u ≡ Some v → v.mutable ≡ false → ⊥) → IsMutable (decls_of p) u
      mutable_of u None e l h = absurd (past p.varieties u l e)
        where
          past : (xs : List Variety) (k : ℕ) → k < length xs → slice_get xs k ≡ None → ⊥
          past [] k l e = omega (arith, l)
          past (x ∷ xs) zero l e = none_some e refl
          past (x ∷ xs) (suc k) l e = past xs k (omega arith) e
      mutable_of u (Some v) e l h = elim (cases_Bool v.mutable) [ inl y ↦ record { variety = v; declared = e; mutable = y } | inr n ↦ absurd (h v e n) ]

      in_range : (xs : List Variety) (k : ℕ) (v : Variety) → slice_get xs k ≡ Some v → k < length xs
      in_range [] k v e = absurd (none_some refl e)
      in_range (x ∷ xs) zero v e = omega arith
      in_range (x ∷ xs) (suc k) v e = let l = in_range xs k v e in omega arith

      if_some : (o : Option ℕ) (u : ℕ) → o ≡ Some u → IfSome o (λ x. x < length p.varieties) → u < length p.varieties
      if_some None u e k = absurd (none_some refl e)
      if_some (Some x) u e k = subst (λ n. n < length p.varieties) (some_inj e) k

      adopts : (d u : ℕ) → clause_of (decls_of p) d ≡ Some u → (o : Option Variety) → slice_get p.varieties d ≡ o → IsMutable (decls_of p) d × IsMutable (decls_of p) u
      adopts k u e None z = absurd (none_some (ap clause_in z) e)
      adopts k u e (Some v) z =
          let a : v.adopts ≡ Some u = sym (ap clause_in z) ∙ e in (
            mutable_of k (Some v) z (in_range p.varieties k v z) (λ w q n. d.on_mutable w.place (On_declaration k (record { variety = w; declared = q; immutable = n; adopted = u; adopts = subst (λ (y : Variety). y.adopts ≡ Some u) (some_inj (sym z ∙ q)) a; here = refl }))),
            mutable_of u (slice_get p.varieties u) refl (if_some v.adopts u a (s.varieties k v z).adopts) (λ w q n. d.exclusive v.place (Adopted_declaration k (record { variety = v; declared = z; adopted = u; adopts = a; immutable = record { variety = w; declared = q; immutable = n }; here = refl }))),
          )

  -- ---- bodies

  mutual
    pub body_up : (n : ℕ) (b : Body) → n ≤ names_after n b
    body_up n (The_body commands value place) = commands_up n commands

    pub commands_up : (n : ℕ) (cs : Commands) → n ≤ after_commands n cs
    commands_up n No_commands = omega arith
    commands_up n (More_commands c rest) = let a = command_up n c in let b = commands_up (after_command n c) rest in omega arith

    pub command_up : (n : ℕ) (c : Command) → n < after_command n c
    command_up n (The_command to op place) = let a = op_up n op in omega arith

    pub op_up : (n : ℕ) (op : Op) → n ≤ after_op n op
    op_up n (If_op y one two giving) = let a = body_up n one in let b = body_up (names_after n one) two in omega arith
    op_up n (Match_op y d cases giving) = cases_up n cases
    op_up n (Int_op a) = omega arith
    op_up n Unit_op = omega arith
    op_up n (Fun_op a) = omega arith
    op_up n (Copy_op a) = omega arith
    op_up n (Arith_op o x y) = omega arith
    op_up n (New_op con ys) = omega arith
    op_up n (Read_op y con i) = omega arith
    op_up n (Write_op y con i z) = omega arith
    op_up n (Retag_op y a b) = omega arith
    op_up n (Call_op g ys) = omega arith
    op_up n (Give_op x y) = omega arith
    op_up n (Take_op x y) = omega arith
    op_up n (New_lock_op g) = omega arith
    op_up n (Acquire_op l) = omega arith
    op_up n (Release_op l) = omega arith
    op_up n (Spawn_op g y) = omega arith
    op_up n (Print_op x) = omega arith

    pub cases_up : (n : ℕ) (cs : Cases) → n ≤ after_cases n cs
    cases_up n No_cases = omega arith
    cases_up n (More_cases c rest) = let a = case_up n c in let b = cases_up (after_case n c) rest in omega arith

    pub case_up : (n : ℕ) (c : Case) → n ≤ after_case n c
    case_up n (The_case con body) = body_up n body

  -- a constructor that has a case has a body
  has_case : (con : ℕ) (cases : Cases) → count_by (λ k. k == con) (case_cons cases) ≢ 0 → (body : Body) × (body_for con (case_list cases) ≡ Some body)
  has_case con No_cases n = absurd (n refl)
  has_case con (More_cases (The_case m b) rest) n = by (m == con) refl (λ k. has_case con rest k)
    where
      by : (z : Bool) → (m == con) ≡ z → ((count_by (λ k. k == con) (case_cons rest) ≢ 0) → (body : Body) × (body_for con (case_list rest) ≡ Some body)) → (body : Body) × (body_for con (case_list (More_cases (The_case m b) rest)) ≡ Some body)
      by true e again = (b, ap (λ z. body_in z b (body_for con (case_list rest))) e)
      by false e again = let r = again (λ q. n (count_next (λ k. k == con) m (case_cons rest) ∙ ap (λ z. cond z 1 0 + count_by (λ k. k == con) (case_cons rest)) e ∙ omega (arith, q))) in (r.0, ap (λ z. body_in z b (body_for con (case_list rest))) e ∙ r.1)

  all_covered : (d : ℕ) (cases : Cases) → AreAll p d (case_cons cases) → Covers (decls_of p) d (case_list cases)
  all_covered d cases all k c e v = has_case k cases (λ z. let o = all.once k (record { found = c; declared = e; same = v }) in omega (arith, z, o))

  module _ (spelling : List (List ℕ)) where
    arg : (scope : Scope) (n to x : ℕ) → AllBelow scope n → n ≤ to → to < 256 → IsBound scope x → IsArg to x
    arg scope n to x all le few o = let l = all x o in (omega arith, λ e. omega (arith, e, l, le))

    args : (scope : Scope) (n to : ℕ) (xs : List ℕ) → AllBelow scope n → n ≤ to → to < 256 → AreBound scope xs → AreArgs to xs
    args scope n to [] all le few o = tt
    args scope n to (x ∷ xs) all le few o = (arg scope n to x all le few (o 0 x refl), args scope n to xs all le few (λ k a e. o (suc k) a e))

    mutual
      body_core : (low : ℕ) (scope : Scope) (n : ℕ) (b : Body) → low ≤ n → AllBelow scope n → names_after n b ≤ 256 → IsBody p spelling scope n b → CoreBody (decls_of p) low b
      body_core low scope n (The_body commands value place) le all few k = commands_core low scope n value commands le all few k

      commands_core : (low : ℕ) (scope : Scope) (n value : ℕ) (cs : Commands) → low ≤ n → AllBelow scope n → after_commands n cs ≤ 256 → AreCommands p spelling scope n value cs → CoreChain (decls_of p) low cs × (value < 256)
      commands_core low scope n value No_commands le all few k = (tt, let l = all value k in omega arith)
      commands_core low scope n value (More_commands (The_command to op place) rest) le all few k =
          let up = op_up n op in
          let more = commands_up (after_op n op + 1) rest in
          let to_is = k.0.0 in
          let few_op : after_op n op ≤ 256 = omega arith in
          let core = op_core low scope n to op le all (omega arith) (omega arith) few_op k.0.1 in
          let r = commands_core low (with_bound p spelling scope (The_command to op place)) (after_op n op + 1) value rest (omega arith) (subst (λ m. AllBelow (with_bound p spelling scope (The_command to op place)) (m + 1)) to_is (with_below scope n to (bound_by p spelling to op).function (omega arith) all)) few k.1 in
          (((omega arith, omega arith, core), r.0), r.1)

      op_core : (low : ℕ) (scope : Scope) (n to : ℕ) (op : Op) → low ≤ n → AllBelow scope n → n ≤ to → to < 256 → after_op n op ≤ 256 → IsOp p spelling scope n to op → CoreOp (decls_of p) low to op
      op_core low scope n to (Int_op a) le all up few most k = tt
      op_core low scope n to Unit_op le all up few most k = tt
      op_core low scope n to (Fun_op a) le all up few most k = tt
      op_core low scope n to (Copy_op x) le all up few most k = arg scope n to x all up few k
      op_core low scope n to (Arith_op o x y) le all up few most k = (arg scope n to x all up few k.0, arg scope n to y all up few k.1)
      op_core low scope n to (New_op con ys) le all up few most k = args scope n to ys all up few k.1
      op_core low scope n to (Read_op y con i) le all up few most k = arg scope n to y all up few k.0
      op_core low scope n to (Write_op y con i z) le all up few most k = (arg scope n to y all up few k.0, arg scope n to z all up few k.2)
      op_core low scope n to (Retag_op y a b) le all up few most k = arg scope n to y all up few k.0
      op_core low scope n to (If_op y one two giving) le all up few most k =
          let a = body_up n one in
          let b = body_up (names_after n one) two in
          (arg scope n to y all up few k.0, body_core low scope n one le all (omega arith) k.1, body_core low scope (names_after n one) two (omega arith) (more_below scope n (names_after n one) a all) most k.2)
      op_core low scope n to (Match_op y d cases giving) le all up few most k = (arg scope n to y all up few k.0, all_covered d cases k.2, cases_core low scope n cases le all most k.3)
      op_core low scope n to (Call_op g ys) le all up few most k = (arg scope n to g all up few k.0, args scope n to ys all up few k.1)
      op_core low scope n to (Give_op x y) le all up few most k = (arg scope n to x all up few k.0, arg scope n to y all up few k.1)
      op_core low scope n to (Take_op x y) le all up few most k = (arg scope n to x all up few k.0, arg scope n to y all up few k.1)
      op_core low scope n to (New_lock_op g) le all up few most k = tt
      op_core low scope n to (Acquire_op l) le all up few most k = arg scope n to l all up few k
      op_core low scope n to (Release_op l) le all up few most k = arg scope n to l all up few k
      op_core low scope n to (Spawn_op g y) le all up few most k = (arg scope n to g all up few k.0, arg scope n to y all up few k.1)
      op_core low scope n to (Print_op x) le all up few most k = arg scope n to x all up few k

      cases_core : (low : ℕ) (scope : Scope) (n : ℕ) (cs : Cases) → low ≤ n → AllBelow scope n → after_cases n cs ≤ 256 → AreCases p spelling scope n cs → CoreCases (decls_of p) low cs
      cases_core low scope n No_cases le all few k = tt
      cases_core low scope n (More_cases (The_case con body) rest) le all few k =
          let a = body_up n body in
          let b = cases_up (names_after n body) rest in
          (body_core low scope n body le all (omega arith) k.0, cases_core low scope (names_after n body) rest (omega arith) (more_below scope n (names_after n body) a all) few k.1)

  pub core : Scoped p → ProperBodies p
  core s k f sig e g =
      let z = s.funs k f e in
      let same : z.sig ≡ sig = some_inj (sym z.signed ∙ g) in
      let few = z.few in
      let long = z.spelled in
      subst (λ (x : Sig). CoreBody (decls_of p) x.count f.body) same (body_core f.spelling z.sig.count (names_below z.sig.count) z.sig.count f.body (omega arith) (first_below z.sig.count) (omega arith) z.body)

  -- ---- `main`

  count_none : (P Q : Fun → Bool) (xs : List Fun) → count_by P xs ≡ 0 → list_any (λ f. P f && Q f) xs ≡ true → ⊥
  count_none P Q [] c o = true_false o refl
  count_none P Q (x ∷ xs) c o = by (P x) (Q x) (count_by P xs) (sym (count_next P x xs) ∙ c) (or_either (P x && Q x) (list_any (λ f. P f && Q f) xs) o) (λ a b. count_none P Q xs a b)
    where
      by : (a b : Bool) (n : ℕ) → cond a 1 0 + n ≡ 0 → ((a && b) ≡ true) ⊎ (list_any (λ f. P f && Q f) xs ≡ true) → (n ≡ 0 → list_any (λ f. P f && Q f) xs ≡ true → ⊥) → ⊥
      by true b n c o again = omega (arith, c)
      by false b n c (inl e) again = true_false e refl
      by false b n c (inr e) again = again (omega (arith, c)) e

  pub not_among : (P : Fun → Bool) (xs : List Fun) (k : ℕ) (f : Fun) → count_by P xs ≡ 0 → slice_get xs k ≡ Some f → P f ≡ true → ⊥
  not_among P [] k f c e y = none_some refl e
  not_among P (x ∷ xs) zero f c e y = let q : P x ≡ true = ap P (some_inj e) ∙ y in positive (P x) (count_by P xs) q (sym (count_next P x xs) ∙ c)
    where
      positive : (b : Bool) (n : ℕ) → b ≡ true → cond b 1 0 + n ≡ 0 → ⊥
      positive true n e c = omega (arith, c)
      positive false n e c = true_false e refl
  not_among P (x ∷ xs) (suc k) f c e y = not_among P xs k f (rest (P x) (count_by P xs) (sym (count_next P x xs) ∙ c)) e y
    where
      rest : (b : Bool) (n : ℕ) → cond b 1 0 + n ≡ 0 → n ≡ 0
      rest true n c = absurd (omega (arith, c))
      rest false n c = omega (arith, c)

  pub the_one : (P Q : Fun → Bool) (xs : List Fun) (k : ℕ) (f : Fun) → count_by P xs ≡ 1 → list_any (λ g. P g && Q g) xs ≡ true → slice_get xs k ≡ Some f → P f ≡ true → Q f ≡ true
  the_one P Q [] k f c o e y = absurd (none_some refl e)
  the_one P Q (x ∷ xs) zero f c o e y = subst (λ g. Q g ≡ true) (some_inj e) (by (P x) (Q x) (count_by P xs) (ap P (some_inj e) ∙ y) (sym (count_next P x xs) ∙ c) (or_either (P x && Q x) (list_any (λ g. P g && Q g) xs) o) (λ z q. count_none P Q xs z q))
    where
      by : (a b : Bool) (n : ℕ) → a ≡ true → cond a 1 0 + n ≡ 1 → ((a && b) ≡ true) ⊎ (list_any (λ g. P g && Q g) xs ≡ true) → (n ≡ 0 → list_any (λ g. P g && Q g) xs ≡ true → ⊥) → b ≡ true
      by true b n e c (inl q) others = q
      by true b n e c (inr q) others = absurd (others (omega (arith, c)) q)
      by false b n e c q others = absurd (true_false e refl)
  the_one P Q (x ∷ xs) (suc k) f c o e y = by (P x) refl (λ z q. the_one P Q xs k f z q e y)
    where
      by : (a : Bool) → P x ≡ a → (count_by P xs ≡ 1 → list_any (λ g. P g && Q g) xs ≡ true → Q f ≡ true) → Q f ≡ true
      by true q again = absurd (not_among P xs k f (let z = ap (λ b. cond b 1 0 + count_by P xs) (sym q) ∙ sym (count_next P x xs) ∙ c in omega (arith, z)) e y)
      by false q again = again (let z = ap (λ b. cond b 1 0 + count_by P xs) (sym q) ∙ sym (count_next P x xs) ∙ c in omega (arith, z)) (elim (or_either (P x && Q x) (list_any (λ g. P g && Q g) xs) o) [ inl z ↦ absurd (true_false z (ap (λ b. b && Q x) q)) | inr z ↦ z ])

  pub main_is_plain : Scoped p → MainIsPlain p
  main_is_plain s k f sig e named signed =
      let q = the_one (λ g. bytes_eq g.name (codes "main")) (λ g. has_no_param (slice_get p.sigs g.sig)) p.funs k f s.one_main s.begins e named in
      eq_is sig.count 0 (sym (ap has_no_param signed) ∙ q)
