-- Constructors whose data types are declared, one by one, and what declarations keep of it.
use Rattle.std.proofs.Common.{◌≡◌, inl, inr, ℕ, zero, suc, [], ◌∷◌, ◌+◌, ◌<◌, ◌≤◌, List, length, map, Some, slice_get, get_or, refl, sym, ap, ◌∙◌, subst, arith}
use Rattle.std.proofs.lemmas.Bool.{cases_eq}
use Rattle.std.proofs.lemmas.List.{length-map}
use Rattle.std.proofs.lemmas.Option.{slice_get-get_or, slice_get_within}
use Rattle.mz_tree.specs.Programs.{Con, Program}
use Rattle.mz_tree.specs.Scoped.{Scoped}
use Rattle.mz_tree.specs.View.{plain_con, plain_variety, plain_sig, plain_fun, plain_program}
use Rattle.mz_tree.specs.declared.program.Con.{Con as CodeCon}
use Rattle.mz_tree.specs.declared.program.Program.{Program as CodeProgram}
use Rattle.mz_decl.specs.Declarations.{AreBelow, IsNumbered}
use Rattle.mz_decl.specs.View.{plain_decls}
use Rattle.mz_decl.specs.declared.decls.Decls.{Decls as CodeDecls}
use Rattle.mz_decl.proofs.Adopters.{some_is, get_map}

-- the first i constructors have data types with numbers below n
abbrev pub AreBelowUntil : ℕ → List CodeCon → ℕ → Type 0
AreBelowUntil n all i = (k : ℕ) (c : CodeCon) → k < i → slice_get all k ≡ Some c → c.variety < n

-- an item that is indexed stands at its place
pub item_at : {A : Type 0} (xs : List A) (i : ℕ) (x : A) → i < length xs → x ≡ get_or xs i x → slice_get xs i ≡ Some x
item_at xs i x h e = slice_get-get_or xs i x h ∙ ap Some (sym e)

-- what an image has at a place is the image of what the list has there
pub got : {A B : Type 0} (f : A → B) (xs : List A) (k : ℕ) (y : B) → slice_get (map f xs) k ≡ Some y → (x : A) × (slice_get xs k ≡ Some x) × (f x ≡ y)
got f xs k y e =
    let h : k < length xs = omega (arith, slice_get_within (map f xs) k y e, length-map xs f) in
    item f xs k y h e
  where
    item : {A B : Type 0} (f : A → B) (xs : List A) (k : ℕ) (y : B) → k < length xs → slice_get (map f xs) k ≡ Some y → (x : A) × (slice_get xs k ≡ Some x) × (f x ≡ y)
    item f [] k y h e = absurd (omega (arith, h))
    item f (x ∷ xs) zero y h e = (x, refl, some_is (f x) y e)
    item f (x ∷ xs) (suc k) y h e = item f xs k y (omega (arith, h)) e

-- one more constructor
pub below_next : (n : ℕ) (all : List CodeCon) (i : ℕ) (x : CodeCon) → i < length all → x ≡ get_or all i x → x.variety < n → AreBelowUntil n all i → AreBelowUntil n all (i + 1)
below_next n all i x h e b before = λ k c s g. elim (cases_eq k i) [
  | inl p ↦ subst (λ (y : CodeCon). y.variety < n) (some_is x c (sym (item_at all i x h e) ∙ ap (slice_get all) (sym p) ∙ g)) b
  | inr p ↦ before k c (omega (arith, s)) g
]

-- all of them
pub numbered_all : (p : CodeProgram) (n : ℕ) (all : List CodeCon) (i : ℕ) → all ≡ p.cons → n ≡ length p.varieties → length all ≤ i → n ≤ 1000 → length all ≤ 1000 → length p.sigs ≤ 1000 → length p.funs ≤ 1000 → AreBelowUntil n all i → IsNumbered (plain_program p)
numbered_all p n all i s v h nv nc ns nf below = record {
  few_varieties = omega (arith, nv, v, length-map p.varieties plain_variety);
  few_cons = omega (arith, nc, ap length s, length-map p.cons plain_con);
  few_sigs = omega (arith, ns, length-map p.sigs plain_sig);
  few_funs = omega (arith, nf, length-map p.funs plain_fun);
  numbered = λ k c g. of_code k c (got plain_con p.cons k c g);
}
  where
    of_code : (k : ℕ) (c : Con) → (x : CodeCon) × (slice_get p.cons k ≡ Some x) × (plain_con x ≡ c) → c.variety < length (map plain_variety p.varieties)
    of_code k c g =
        let e : slice_get all k ≡ Some g.0 = ap (λ l. slice_get l k) s ∙ g.1 in
        let b : g.0.variety < n = below k g.0 (omega (arith, slice_get_within all k g.0 e, h)) e in
        let same : g.0.variety ≡ c.variety = ap (λ (x : Con). x.variety) g.2 in
        omega (arith, b, same, v, length-map p.varieties plain_variety)

-- a constructor whose data type isn't declared
pub not_numbered : (p : CodeProgram) (n : ℕ) (all : List CodeCon) (i : ℕ) (x : CodeCon) → all ≡ p.cons → n ≡ length p.varieties → i < length all → x ≡ get_or all i x → n ≤ x.variety → IsNumbered (plain_program p) → ⊥
not_numbered p n all i x s v h e b r =
    let below = r.numbered i (plain_con x) (get_map plain_con p.cons i x (ap (λ l. slice_get l i) (sym s) ∙ item_at all i x h e)) in
    omega (arith, below, b, v, length-map p.varieties plain_variety)

-- the numbers of a scoped program can be declarations
pub numbered_of : (p : Program) → Scoped p → IsNumbered p
numbered_of p scoped = record {
  few_varieties = omega (arith, scoped.few_types);
  few_cons = scoped.few_cons;
  few_sigs = omega (arith, scoped.few_types);
  few_funs = scoped.few_funs;
  numbered = λ k con here. (scoped.cons k con here).variety;
}

-- declarations keep it
pub decls_numbered : (d : CodeDecls) → AreBelow (length (plain_decls d).varieties) (plain_decls d).cons
decls_numbered d = subst (λ n. AreBelow n (map plain_con d.cons)) (sym (length-map d.varieties plain_variety)) d.numbered
