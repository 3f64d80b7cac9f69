-- The steps from a type to one that is alike: each name, one after the other, is put for the one that it equals.
use Rattle.std.proofs.Common.{◌≡◌, inl, inr, ℕ, zero, suc, ◌+◌, arith, List, [], ◌∷◌, ◌++◌, length, map, Option, Some, slice_get, slice_set, append-nil, refl, sym, ap, ◌∙◌, subst}
use Rattle.mz_tree.specs.Plain.{Ty, Atom, Atoms, Int_type, Unknown_type, Dynamic_type, Locked_type, Named_type, Function_type, Block_type, Lock_type, Has_atom, Same_atom, No_atoms, More_atoms}
use Rattle.mz_decl.specs.Declarations.{Decls}
use Rattle.mz_modes.specs.Affine.{AffineAtom}
use Rattle.mz_perm.specs.Lists.{In}
use Rattle.mz_perm.specs.Using.{UsesUp}
use Rattle.mz_perm.specs.Joining.{Joined}
use Rattle.mz_perm.proofs.Lists.{in_front, in_end}
use Rattle.mz_perm.proofs.Orders.{perm_refl, perm_is, takes_before}
use Rattle.mz_view.specs.Equations.{equations}
use Rattle.mz_view.specs.Spots.{names_in, names_in_atom, names_in_type, nameless, nameless_atom, nameless_type, Puts}
use Rattle.mz_view.specs.Steps.{Step, Drop_step, Field_step, Lock_step}
use Rattle.mz_view.specs.Rules.{View}
use Rattle.mz_view.proofs.Named.{named_unique}
use Rattle.mz_index.specs.Classes.{AllJoined, AreAlike, AreAlikeAtoms, AreAlikeGuarded}
use Rattle.mz_goal.specs.Leads.{Leads}
use Rattle.mz_goal.proofs.Frames.{takes_end, perm_beside, leads_none, leads_one, leads_then, leads_front, leads_same, beside_leads, Known, drops_lead}
use Rattle.mz_goal.proofs.Paths.{path_leads, named_leads}

-- as many names
pub joined_long : (R : List (Atom ℕ)) (ys zs : List ℕ) → AllJoined R ys zs → length zs ≡ length ys
joined_long R [] [] j = refl
joined_long R [] (z ∷ zs) j = absurd j
joined_long R (y ∷ ys) [] j = absurd j
joined_long R (y ∷ ys) (z ∷ zs) j = ap suc (joined_long R ys zs j.1)

-- and so they are the same without the names
units : (l ys : List ℕ) → length l ≡ length ys → map {A = ℕ} {B = Unit {0}} (λ _. tt) l ≡ map (λ _. tt) ys
units [] [] e = refl
units [] (y ∷ ys) e = absurd (omega (arith, e))
units (x ∷ l) [] e = absurd (omega (arith, e))
units (x ∷ l) (y ∷ ys) e = let h : suc (length l) ≡ suc (length ys) = e in ap (λ m. tt ∷ m) (units l ys (omega (arith, h)))

-- names one after the other
joined_both : (R : List (Atom ℕ)) (ys zs vs ws : List ℕ) → AllJoined R ys zs → AllJoined R vs ws → AllJoined R (ys ++ vs) (zs ++ ws)
joined_both R [] [] vs ws j k = k
joined_both R [] (z ∷ zs) vs ws j k = absurd j
joined_both R (y ∷ ys) [] vs ws j k = absurd j
joined_both R (y ∷ ys) (z ∷ zs) vs ws j k = (j.0, joined_both R ys zs vs ws j.1 k)

-- the types are one but for their names, and these are joined place by place
pub record Alike (R : List (Atom ℕ)) (t u : Ty ℕ) : Type 0 where
  pub rest : nameless_type u ≡ nameless_type t
  pub names : AllJoined R (names_in_type t) (names_in_type u)

pub record AlikeAtoms (R : List (Atom ℕ)) (a b : Atom ℕ) : Type 0 where
  pub rest : nameless_atom b ≡ nameless_atom a
  pub names : AllJoined R (names_in_atom a) (names_in_atom b)

pub record AlikeGuarded (R : List (Atom ℕ)) (p q : Atoms ℕ) : Type 0 where
  pub rest : nameless q ≡ nameless p
  pub names : AllJoined R (names_in p) (names_in q)

mutual
  pub alike : (R : List (Atom ℕ)) (t u : Ty ℕ) → AreAlike R t u → Alike R t u
  alike R Int_type Int_type a = record { rest = refl; names = tt }
  alike R Unknown_type Unknown_type a = record { rest = refl; names = tt }
  alike R Dynamic_type Dynamic_type a = record { rest = refl; names = tt }
  alike R Locked_type Locked_type a = record { rest = refl; names = tt }
  alike R (Named_type d) (Named_type c) a = record { rest = ap (λ n. Named_type n) (sym a); names = tt }
  alike R (Function_type s) (Function_type u) a = record { rest = ap (λ n. Function_type n) (sym a); names = tt }
  alike R (Block_type con ys clause) (Block_type other zs another) a =
      let con_is : con ≡ other = a.0 in
      let clause_is : clause ≡ another = a.2 in
      let names : map {A = ℕ} {B = Unit {0}} (λ _. tt) zs ≡ map (λ _. tt) ys = units zs ys (joined_long R ys zs a.1) in
      record { rest = cc; names = a.1 }
  alike R (Lock_type p) (Lock_type q) a = let g = alike_guarded R p q a in record { rest = ap Lock_type g.rest; names = g.names }
  alike R _ _ a = absurd a

  alike_atoms : (R : List (Atom ℕ)) (a b : Atom ℕ) → AreAlikeAtoms R a b → AlikeAtoms R a b
  alike_atoms R (Has_atom x t) (Has_atom y u) a = let i = alike R t u a.1 in record { rest = ap (Has_atom tt) i.rest; names = (a.0, i.names) }
  alike_atoms R (Same_atom x y) (Same_atom z w) a = record { rest = refl; names = (a.0, (a.1, tt)) }
  alike_atoms R _ _ a = absurd a

  alike_guarded : (R : List (Atom ℕ)) (p q : Atoms ℕ) → AreAlikeGuarded R p q → AlikeGuarded R p q
  alike_guarded R No_atoms No_atoms a = record { rest = refl; names = tt }
  alike_guarded R (More_atoms b p) (More_atoms c q) a =
      let f = alike_atoms R b c a.0 in
      let g = alike_guarded R p q a.1 in
      record { rest = ap (λ x. More_atoms x (nameless q)) f.rest ∙ ap (More_atoms (nameless_atom b)) g.rest; names = joined_both R (names_in_atom b) (names_in_atom c) (names_in p) (names_in q) f.names g.names }
  alike_guarded R _ _ a = absurd a

-- all the equations at once
equations_lead : (D : Decls) (R : List (Atom ℕ)) (ys zs : List ℕ) → AllJoined R ys zs → (p : List Step) × Leads D R p (R ++ equations ys zs)
equations_lead D R [] [] j = ([], leads_none D R (R ++ []) (perm_is R (R ++ []) (sym (append-nil R))))
equations_lead D R [] (z ∷ zs) j = absurd j
equations_lead D R (y ∷ ys) [] j = absurd j
equations_lead D R (y ∷ ys) (z ∷ zs) j =
    let v = path_leads D R y z j.0 in
    let w = equations_lead D R ys zs j.1 in
    (_, leads_then D R (R ++ Same_atom y z ∷ []) (R ++ Same_atom y z ∷ equations ys zs) v.0 w.0 v.1 (beside_leads D R R (equations ys zs) (Same_atom y z) w.0 w.1))

-- a list in the middle of whose names another is put
get_seam : (done : List ℕ) (y : ℕ) (ys : List ℕ) → slice_get (done ++ y ∷ ys) (length done) ≡ Some y
get_seam [] y ys = refl
get_seam (d ∷ done) y ys = get_seam done y ys

set_seam : (done : List ℕ) (y z : ℕ) (ys : List ℕ) → slice_set (done ++ y ∷ ys) (length done) z ≡ done ++ z ∷ ys
set_seam [] y z ys = refl
set_seam (d ∷ done) y z ys = ap (λ l. d ∷ l) (set_seam done y z ys)

seam : (done : List ℕ) (z : ℕ) (ys : List ℕ) → (done ++ z ∷ []) ++ ys ≡ done ++ z ∷ ys
seam [] z ys = refl
seam (d ∷ done) z ys = ap (λ l. d ∷ l) (seam done z ys)

-- the name of one field
field_leads : (D : Decls) (k : Known D) (Q : List (Atom ℕ)) (x con : ℕ) (c : Option ℕ) (done : List ℕ) (y z : ℕ) (ys : List ℕ) → In (Same_atom y z) Q → (p : List Step) × Leads D (Q ++ Has_atom x (Block_type con (done ++ y ∷ ys) c) ∷ []) p (Q ++ Has_atom x (Block_type con (done ++ z ∷ ys) c) ∷ [])
field_leads D k Q x con c done y z ys held =
    let a = Has_atom x (Block_type con (done ++ y ∷ ys) c) in
    let b = Has_atom x (Block_type con (done ++ z ∷ ys) c) in
    let R = Q ++ a ∷ [] in
    let s = Field_step a (length done) z in
    let is : Has_atom x (Block_type con (slice_set (done ++ y ∷ ys) (length done) z) c) ≡ b = ap (λ l. Has_atom x (Block_type con l c)) (set_seam done y z ys) in
    elim (k.affine a) [
      | inl f ↦ (
          let view : View D R s (Q ++ b ∷ []) = record { name = y; is_name = get_seam done y ys; equal = in_front (Same_atom y z) Q (a ∷ []) held; changes = record { rest = Q; used = inl (f, takes_end a Q); new = ap (λ d. Q ++ d ∷ []) (sym is) } } in
          (s ∷ [], leads_one D R (Q ++ b ∷ []) s tt view))
      | inr f ↦ (
          let view : View D R s (R ++ b ∷ []) = record { name = y; is_name = get_seam done y ys; equal = in_front (Same_atom y z) Q (a ∷ []) held; changes = record { rest = R; used = inr (f, in_end a Q, refl); new = ap (λ d. R ++ d ∷ []) (sym is) } } in
          let gone : Leads D (R ++ b ∷ []) (Drop_step a ∷ []) (Q ++ b ∷ []) = leads_one D (R ++ b ∷ []) (Q ++ b ∷ []) (Drop_step a) tt (takes_before a R Q (b ∷ []) (takes_end a Q)) in
          (s ∷ Drop_step a ∷ [], leads_then D R (R ++ b ∷ []) (Q ++ b ∷ []) (s ∷ []) (Drop_step a ∷ []) (leads_one D R (R ++ b ∷ []) s tt view) gone))
    ]

-- and of each
fields_lead : (D : Decls) (k : Known D) (R Q : List (Atom ℕ)) (x con : ℕ) (c : Option ℕ) (done ys zs : List ℕ) → AllJoined R ys zs → ((a : Atom ℕ) → In a (equations ys zs) → In a Q) → (p : List Step) × Leads D (Q ++ Has_atom x (Block_type con (done ++ ys) c) ∷ []) p (Q ++ Has_atom x (Block_type con (done ++ zs) c) ∷ [])
fields_lead D k R Q x con c done [] [] j held =
    let P = Q ++ Has_atom x (Block_type con (done ++ []) c) ∷ [] in
    ([], leads_none D P P (perm_refl P))
fields_lead D k R Q x con c done [] (z ∷ zs) j held = absurd j
fields_lead D k R Q x con c done (y ∷ ys) [] j held = absurd j
fields_lead D k R Q x con c done (y ∷ ys) (z ∷ more) j held =
    let one = field_leads D k Q x con c done y z ys (held (Same_atom y z) (inl refl)) in
    let two = fields_lead D k R Q x con c (done ++ z ∷ []) ys more j.1 (λ a i. held a (inr i)) in
    let next : Leads D (Q ++ Has_atom x (Block_type con (done ++ z ∷ ys) c) ∷ []) two.0 (Q ++ Has_atom x (Block_type con (done ++ z ∷ more) c) ∷ []) =
    subst (λ l. Leads D (Q ++ Has_atom x (Block_type con l c) ∷ []) two.0 (Q ++ Has_atom x (Block_type con (done ++ z ∷ more) c) ∷ [])) (seam done z ys) (subst (λ l. Leads D (Q ++ Has_atom x (Block_type con ((done ++ z ∷ []) ++ ys) c) ∷ []) two.0 (Q ++ Has_atom x (Block_type con l c) ∷ [])) (seam done z more) two.1) in
    (one.0 ++ two.0, leads_then D (Q ++ Has_atom x (Block_type con (done ++ y ∷ ys) c) ∷ []) (Q ++ Has_atom x (Block_type con (done ++ z ∷ ys) c) ∷ []) (Q ++ Has_atom x (Block_type con (done ++ z ∷ more) c) ∷ []) one.0 two.0 one.1 next)

-- other names for what a lock guards, as many
split_at : (l : List ℕ) (a b : ℕ) → length l ≡ a + b → (f : List ℕ) × (g : List ℕ) × (l ≡ f ++ g) × (length f ≡ a) × (length g ≡ b)
split_at l zero b e = ([], l, refl, refl, omega (arith, e))
split_at [] (suc a) b e = absurd (omega (arith, e))
split_at (x ∷ l) (suc a) b e = let h : suc (length l) ≡ suc a + b = e in let r = split_at l a b (omega (arith, h)) in (x ∷ r.0, r.1, ap (λ m. x ∷ m) r.2, ap suc r.3, r.4)

none_of : (l : List ℕ) → length l ≡ 0 → [] ≡ l
none_of [] e = refl
none_of (x ∷ l) e = absurd (omega (arith, e))

long_both : (xs ys : List ℕ) → length (xs ++ ys) ≡ length xs + length ys
long_both [] ys = omega arith
long_both (x ∷ xs) ys = let h : length (xs ++ ys) ≡ length xs + length ys = long_both xs ys in omega (arith, h)

mutual
  refill_type : (t : Ty ℕ) (l : List ℕ) → length l ≡ length (names_in_type t) → (u : Ty ℕ) × (names_in_type u ≡ l) × (nameless_type u ≡ nameless_type t)
  refill_type Int_type l e = (Int_type, none_of l e, refl)
  refill_type Unknown_type l e = (Unknown_type, none_of l e, refl)
  refill_type Dynamic_type l e = (Dynamic_type, none_of l e, refl)
  refill_type Locked_type l e = (Locked_type, none_of l e, refl)
  refill_type (Named_type d) l e = (Named_type d, none_of l e, refl)
  refill_type (Function_type s) l e = (Function_type s, none_of l e, refl)
  refill_type (Block_type con ys c) l e = (Block_type con l c, refl, ap (λ f. Block_type con f c) (units l ys e))
  refill_type (Lock_type p) l e = let r = refill p l e in (Lock_type r.0, r.1, ap Lock_type r.2)

  refill_atom : (a : Atom ℕ) (l : List ℕ) → length l ≡ length (names_in_atom a) → (b : Atom ℕ) × (names_in_atom b ≡ l) × (nameless_atom b ≡ nameless_atom a)
  refill_atom (Has_atom x t) [] e = absurd (omega (arith, e))
  refill_atom (Has_atom x t) (y ∷ l) e = let h : suc (length l) ≡ suc (length (names_in_type t)) = e in let r = refill_type t l (omega (arith, h)) in (Has_atom y r.0, ap (λ m. y ∷ m) r.1, ap (λ u. Has_atom tt u) r.2)
  refill_atom (Same_atom x y) [] e = absurd (omega (arith, e))
  refill_atom (Same_atom x y) (z ∷ []) e = absurd (omega (arith, e))
  refill_atom (Same_atom x y) (z ∷ w ∷ []) e = (Same_atom z w, refl, refl)
  refill_atom (Same_atom x y) (z ∷ w ∷ v ∷ l) e = absurd (omega (arith, e))

  refill : (p : Atoms ℕ) (l : List ℕ) → length l ≡ length (names_in p) → (q : Atoms ℕ) × (names_in q ≡ l) × (nameless q ≡ nameless p)
  refill No_atoms l e = (No_atoms, none_of l e, refl)
  refill (More_atoms a p) l e =
      let s = split_at l (length (names_in_atom a)) (length (names_in p)) (e ∙ long_both (names_in_atom a) (names_in p)) in
      let b = refill_atom a s.0 s.3 in
      let q = refill p s.1 s.4 in
      (More_atoms b.0 q.0, ap (λ m. m ++ names_in q.0) b.1 ∙ ap (λ m. s.0 ++ m) q.1 ∙ sym s.2, ap (λ m. More_atoms m (nameless q.0)) b.2 ∙ ap (More_atoms (nameless_atom a)) q.2)

-- the k-th name of a lock
lock_leads : (D : Decls) (Q : List (Atom ℕ)) (x : ℕ) (p q : Atoms ℕ) (done : List ℕ) (y z : ℕ) (ys : List ℕ) → names_in p ≡ done ++ y ∷ ys → names_in q ≡ done ++ z ∷ ys → nameless q ≡ nameless p → In (Same_atom y z) Q → (s : List Step) × Leads D (Q ++ Has_atom x (Lock_type p) ∷ []) s (Q ++ Has_atom x (Lock_type q) ∷ [])
lock_leads D Q x p q done y z ys before after rest held =
    let a = Has_atom x (Lock_type p) in
    let b = Has_atom x (Lock_type q) in
    let R = Q ++ a ∷ [] in
    let s = Lock_step a (length done) z in
    let puts : Puts (length done) z p q = record { names = after ∙ sym (ap (λ l. slice_set l (length done) z) before ∙ set_seam done y z ys); rest = rest } in
    let view : View D R s (R ++ b ∷ []) = record { held = in_end a Q; name = y; is_name = ap (λ l. slice_get l (length done)) before ∙ get_seam done y ys; equal = in_front (Same_atom y z) Q (a ∷ []) held; guarded = q; puts = puts; new = refl } in
    let gone : Leads D (R ++ b ∷ []) (Drop_step a ∷ []) (Q ++ b ∷ []) = leads_one D (R ++ b ∷ []) (Q ++ b ∷ []) (Drop_step a) tt (takes_before a R Q (b ∷ []) (takes_end a Q)) in
    (s ∷ Drop_step a ∷ [], leads_then D R (R ++ b ∷ []) (Q ++ b ∷ []) (s ∷ []) (Drop_step a ∷ []) (leads_one D R (R ++ b ∷ []) s tt view) gone)

-- and each
locks_lead : (D : Decls) (R Q : List (Atom ℕ)) (x : ℕ) (p q : Atoms ℕ) (done ys zs : List ℕ) → names_in p ≡ done ++ ys → names_in q ≡ done ++ zs → nameless q ≡ nameless p → AllJoined R ys zs → ((a : Atom ℕ) → In a (equations ys zs) → In a Q) → (s : List Step) × Leads D (Q ++ Has_atom x (Lock_type p) ∷ []) s (Q ++ Has_atom x (Lock_type q) ∷ [])
locks_lead D R Q x p q done [] (z ∷ zs) before after rest j held = absurd j
locks_lead D R Q x p q done (y ∷ ys) [] before after rest j held = absurd j
locks_lead D R Q x p q done [] [] before after rest j held =
    let same : p ≡ q = named_unique 0 p q (before ∙ sym after) (sym rest) in
    let P = Q ++ Has_atom x (Lock_type p) ∷ [] in
    ([], subst (λ r. Leads D P [] (Q ++ Has_atom x (Lock_type r) ∷ [])) same (leads_none D P P (perm_refl P)))
locks_lead D R Q x p q done (y ∷ ys) (z ∷ more) before after rest j held =
    let long : length (done ++ z ∷ ys) ≡ length (names_in p) = long_both done (z ∷ ys) ∙ sym (ap length before ∙ long_both done (y ∷ ys)) in
    let r = refill p (done ++ z ∷ ys) long in
    let one = lock_leads D Q x p r.0 done y z ys before r.1 r.2 (held (Same_atom y z) (inl refl)) in
    let two = locks_lead D R Q x r.0 q (done ++ z ∷ []) ys more (r.1 ∙ sym (seam done z ys)) (after ∙ sym (seam done z more)) (rest ∙ sym r.2) j.1 (λ a i. held a (inr i)) in
    (_, leads_then D (Q ++ Has_atom x (Lock_type p) ∷ []) (Q ++ Has_atom x (Lock_type r.0) ∷ []) (Q ++ Has_atom x (Lock_type q) ∷ []) one.0 two.0 one.1 two.1)

-- a type is its names and all but the names
pub type_unique : (t u : Ty ℕ) → names_in_type t ≡ names_in_type u → nameless_type t ≡ nameless_type u → t ≡ u
type_unique t u names rest = let same : More_atoms (Has_atom 0 t) No_atoms ≡ More_atoms (Has_atom 0 u) No_atoms = named_unique 0 (More_atoms (Has_atom 0 t) No_atoms) (More_atoms (Has_atom 0 u) No_atoms) (ap (λ l. (0 ∷ l) ++ []) names) (ap (λ v. More_atoms (Has_atom tt v) No_atoms) rest) in cc

no_names : (R : List (Atom ℕ)) (zs : List ℕ) → AllJoined R [] zs → [] ≡ zs
no_names R [] j = refl
no_names R (z ∷ zs) j = absurd j

-- a type without names that is alike is the same
bare_leads : (D : Decls) (R Q : List (Atom ℕ)) (x : ℕ) (u t : Ty ℕ) → names_in_type u ≡ [] → Alike R u t → (p : List Step) × Leads D (Q ++ Has_atom x u ∷ []) p (Q ++ Has_atom x t ∷ [])
bare_leads D R Q x u t none a =
    let same : u ≡ t = type_unique u t (none ∙ no_names R (names_in_type t) (subst (λ l. AllJoined R l (names_in_type t)) none a.names)) (sym a.rest) in
    let P = Q ++ Has_atom x u ∷ [] in
    ([], subst (λ v. Leads D P [] (Q ++ Has_atom x v ∷ [])) same (leads_none D P P (perm_refl P)))

pub lock_of : (p : Atoms ℕ) (t : Ty ℕ) → nameless_type t ≡ Lock_type (nameless p) → (q : Atoms ℕ) × (t ≡ Lock_type q)
lock_of p Int_type e = absurd (cc)
lock_of p Unknown_type e = absurd (cc)
lock_of p Dynamic_type e = absurd (cc)
lock_of p Locked_type e = absurd (cc)
lock_of p (Named_type d) e = absurd (cc)
lock_of p (Function_type s) e = absurd (cc)
lock_of p (Block_type con ys c) e = absurd (cc)
lock_of p (Lock_type q) e = (q, refl)

pub lock_rest : (p q : Atoms (Unit {0})) → Lock_type p ≡ Lock_type q → p ≡ q
lock_rest p q e = cc

-- from a type to one that is alike, where the equations of their names stand
type_leads : (D : Decls) (k : Known D) (R Q : List (Atom ℕ)) (x : ℕ) (u t : Ty ℕ) → Alike R u t → ((a : Atom ℕ) → In a (equations (names_in_type u) (names_in_type t)) → In a Q) → (p : List Step) × Leads D (Q ++ Has_atom x u ∷ []) p (Q ++ Has_atom x t ∷ [])
type_leads D k R Q x Int_type t a held = bare_leads D R Q x Int_type t refl a
type_leads D k R Q x Unknown_type t a held = bare_leads D R Q x Unknown_type t refl a
type_leads D k R Q x Dynamic_type t a held = bare_leads D R Q x Dynamic_type t refl a
type_leads D k R Q x Locked_type t a held = bare_leads D R Q x Locked_type t refl a
type_leads D k R Q x (Named_type d) t a held = bare_leads D R Q x (Named_type d) t refl a
type_leads D k R Q x (Function_type s) t a held = bare_leads D R Q x (Function_type s) t refl a
type_leads D k R Q x (Block_type con ys c) t a held =
    let zs = names_in_type t in
    let same : Block_type con zs c ≡ t = type_unique (Block_type con zs c) t refl (ap (λ l. Block_type con l c) (units zs ys (joined_long R ys zs a.names)) ∙ sym a.rest) in
    let w = fields_lead D k R Q x con c [] ys zs a.names held in
    (w.0, subst (λ v. Leads D (Q ++ Has_atom x (Block_type con ys c) ∷ []) w.0 (Q ++ Has_atom x v ∷ [])) same w.1)
type_leads D k R Q x (Lock_type p) t a held =
    let l = lock_of p t a.rest in
    let q = l.0 in
    let rest : nameless q ≡ nameless p = lock_rest (nameless q) (nameless p) (sym (ap nameless_type l.1) ∙ a.rest) in
    let names : AllJoined R (names_in p) (names_in q) = subst (λ v. AllJoined R (names_in p) (names_in_type v)) l.1 a.names in
    let w = locks_lead D R Q x p q [] (names_in p) (names_in q) refl refl rest names (λ b i. held b (subst (λ v. In b (equations (names_in p) (names_in_type v))) (sym l.1) i)) in
    (w.0, subst (λ v. Leads D (Q ++ Has_atom x (Lock_type p) ∷ []) w.0 (Q ++ Has_atom x v ∷ [])) (sym l.1) w.1)

in_back : (b : Atom ℕ) (xs ys : List (Atom ℕ)) → In b ys → In b (xs ++ ys)
in_back b [] ys i = i
in_back b (x ∷ xs) ys i = inr (in_back b xs ys i)

-- a permission of a name of the class, at a type that is alike, becomes the one that is wanted
pub like_leads : (D : Decls) (k : Known D) (R S : List (Atom ℕ)) (x y : ℕ) (u t : Ty ℕ) → Joined R x y → AreAlike R u t → UsesUp (AffineAtom D) (Has_atom y u) R S → (p : List Step) × Leads D R p (S ++ Has_atom x t ∷ [])
like_leads D k R S x y u t j are used =
    let a = alike R u t are in
    let E = equations (names_in_type u) (names_in_type t) in
    let old = Has_atom x u ∷ [] in
    let new = Has_atom x t ∷ [] in
    let first = equations_lead D R (names_in_type u) (names_in_type t) a.names in
    let second = named_leads D R S x y u j used in
    let beside : Leads D (R ++ E) second.0 ((S ++ E) ++ old) = leads_same D (R ++ E) ((S ++ old) ++ E) ((S ++ E) ++ old) second.0 (leads_front D R (S ++ old) E second.0 second.1) (perm_beside S old E) in
    let third = type_leads D k R (S ++ E) x u t a (λ b i. in_back b S E i) in
    let turned : Leads D ((S ++ E) ++ old) third.0 ((S ++ new) ++ E) = leads_same D ((S ++ E) ++ old) ((S ++ E) ++ new) ((S ++ new) ++ E) third.0 third.1 (perm_beside S E new) in
    let last = drops_lead D (S ++ new) E in
    (_, leads_then D R (R ++ E) (S ++ new) first.0 _ first.1 (leads_then D (R ++ E) ((S ++ E) ++ old) (S ++ new) second.0 _ beside (leads_then D ((S ++ E) ++ old) ((S ++ new) ++ E) (S ++ new) third.0 last.0 turned last.1)))
