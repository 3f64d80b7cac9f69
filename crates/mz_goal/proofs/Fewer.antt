-- Each fold leaves fewer unused blocks, and no goal makes new ones.
use Rattle.std.proofs.Common.{◌≡◌, inl, inr, ℕ, zero, suc, ◌+◌, ◌<◌, ◌≤◌, arith, List, [], ◌∷◌, ◌++◌, Option, Some, slice_get, slice_set, refl, sym, ap, ◌∙◌}
use Rattle.std.specs.List.{remove}
use Rattle.mz_tree.specs.Plain.{Atom, Dynamic_type, Named_type, Block_type, Has_atom}
use Rattle.mz_decl.specs.Declarations.{Decls}
use Rattle.mz_decl.specs.Contents.{contents}
use Rattle.mz_goal.specs.Goals.{Mark, Unused, Used, Entry, unused, Opened, Closed, Meets, Same_met, Unknown_met, Alike_kept, Alike_taken, Dynamic_met, Fold_met, MeetsAll, None_left, One_more}
use Rattle.mz_goal.specs.Free.{weight, free}

some_is : {A : Type 0} (a b : A) → Some a ≡ Some b → a ≡ b
some_is a b e = cc

removed : (R : List Entry) (n : ℕ) (e : Entry) → slice_get R n ≡ Some e → weight e.mark e.atom + free (remove R n) ≡ free R
removed [] n e g = absurd (cc)
removed (f ∷ R) zero e g = ap (λ (x : Entry). weight x.mark x.atom + free R) (some_is e f (sym g))
removed (f ∷ R) (suc n) e g = omega (arith, removed R n e g)

used_none : (a : Atom ℕ) → weight Used a ≡ 0
used_none a = refl

marked : (R : List Entry) (n : ℕ) (e : Entry) (a : Atom ℕ) → slice_get R n ≡ Some e → weight e.mark e.atom + free (slice_set R n (record { atom = a; mark = Used })) ≡ free R
marked [] n e a g = absurd (cc)
marked (f ∷ R) zero e a g = let h : weight e.mark e.atom ≡ weight f.mark f.atom = ap (λ (x : Entry). weight x.mark x.atom) (some_is e f (sym g)) in omega (arith, h)
marked (f ∷ R) (suc n) e a g = omega (arith, marked R n e a g)

weighs : (u : Mark) (a : Atom ℕ) (x con : ℕ) (ys : List ℕ) (c : Option ℕ) → u ≡ Unused → a ≡ Has_atom x (Block_type con ys c) → weight u a ≡ 1
weighs u a x con ys c p q = ap (λ b. weight b a) p ∙ ap (weight Unused) q

added_none : (S : List Entry) (a : Atom ℕ) → weight Unused a ≡ 0 → free (S ++ unused a ∷ []) ≡ free S
added_none [] a h = omega (arith, h)
added_none (e ∷ S) a h = ap (λ n. weight e.mark e.atom + n) (added_none S a h)

pub opens_fewer : (D : Decls) (R O : List Entry) (n : ℕ) (e : Entry) (y x con k : ℕ) (ys : List ℕ) (c : Option ℕ) → slice_get R n ≡ Some e → e.mark ≡ Unused → e.atom ≡ Has_atom x (Block_type con ys c) → Opened D R n e.atom y k O → free O < free R
opens_fewer D R O n e y x con k ys c g u a (inl o) =
    let same : free O ≡ free (remove R n) = ap free o.1 ∙ added_none (remove R n) (Has_atom y Dynamic_type) refl in
    omega (arith, removed R n e g, weighs e.mark e.atom x con ys c u a, same)
opens_fewer D R O n e y x con k ys c g u a (inr o) =
    let same : free O ≡ free (slice_set R n (record { atom = e.atom; mark = Used })) = ap free o.1 in
    omega (arith, marked R n e e.atom g, weighs e.mark e.atom x con ys c u a, same)

closes_free : (D : Decls) (S T : List Entry) (x d : ℕ) → Closed D S x d T → free T ≡ free S
closes_free D S T x d (inl c) = ap free c.1
closes_free D S T x d (inr c) = ap free c.1 ∙ added_none S (Has_atom x (Named_type d)) refl

mutual
  pub meets_free : (D : Decls) (R : List Entry) (g : Atom ℕ) (T : List Entry) → Meets D R g T → free T ≤ free R
  meets_free D _ _ _ (Same_met R x z j) = omega arith
  meets_free D _ _ _ (Unknown_met R x) = omega arith
  meets_free D _ _ _ (Alike_kept R x t u f i) = omega arith
  meets_free D _ _ _ (Alike_taken R x t n e f i) = omega (arith, removed R n e i.stands)
  meets_free D _ _ _ (Dynamic_met R x none i) = let h : free (R ++ unused (Has_atom x Dynamic_type) ∷ []) ≡ free R = added_none R (Has_atom x Dynamic_type) refl in omega (arith, h)
  meets_free D _ _ _ (Fold_met R x d n e O S T none i o m c) = omega (arith, closes_free D S T x d c, all_free D O (contents i.fits.names i.fits.made.fields) S m, opens_fewer D R O n e i.fits.name i.fits.name i.fits.con i.fits.con i.fits.names i.fits.adopts i.stands i.fits.mark i.fits.is o)

  pub all_free : (D : Decls) (R : List Entry) (p : List (Atom ℕ)) (T : List Entry) → MeetsAll D R p T → free T ≤ free R
  all_free D _ _ _ (None_left R) = omega arith
  all_free D _ _ _ (One_more R a p S T m ms) = omega (arith, meets_free D R a S m, all_free D S p T ms)
