-- Using up takes what a permission owns out of a share. And a name that doesn't occur in a state doesn't occur in what is left.
use Rattle.std.proofs.Common.{◌≡◌, ◌⊎◌, inl, inr, ◌||◌, ℕ, ◌+◌, Bool, true, false, List, [], ◌∷◌, map, refl, sym, subst, arith}
use Rattle.mz_tree.specs.Plain.{Atom, map_atom}
use Rattle.mz_decl.specs.Declarations.{Decls}
use Rattle.mz_perm.specs.Lists.{In, TakesOne}
use Rattle.mz_perm.specs.Using.{UsesUp, UsesUpAll}
use Rattle.mz_perm.specs.Occurrence.{in_atom, occurs}
use Rattle.mz_modes.specs.Affine.{AffineAtom}
use Rattle.mz_named.specs.Configurations.{Value}
use Rattle.mz_resource.specs.Meaning.{Owned, Sight, Means, MeansAll, All_none, All_more}
use Rattle.mz_resource.proofs.Meaning.Owning.{Split, take_out, look_up}
use Rattle.mz_resource.proofs.Meaning.Staying.{affine_named, owns_nothing}
use Rattle.mz_resource.proofs.Meaning.Names.{or_left, or_right}

pub or_either : (a b : Bool) → (a || b) ≡ true → (a ≡ true) ⊎ (b ≡ true)
or_either true b e = inl refl
or_either false b e = inr e

-- where a name occurs in a list with one more
pub head_occurs : (y : ℕ) (a : Atom ℕ) (R : List (Atom ℕ)) → in_atom y a ≡ true → occurs y (a ∷ R) ≡ true
head_occurs y a R o = or_left (in_atom y a) (occurs y R) o

pub tail_occurs : (y : ℕ) (a : Atom ℕ) (R : List (Atom ℕ)) → occurs y R ≡ true → occurs y (a ∷ R) ≡ true
tail_occurs y a R o = or_right (in_atom y a) (occurs y R) o

pub where_occurs : (y : ℕ) (a : Atom ℕ) (R : List (Atom ℕ)) → occurs y (a ∷ R) ≡ true → (in_atom y a ≡ true) ⊎ (occurs y R ≡ true)
where_occurs y a R o = or_either (in_atom y a) (occurs y R) o

pub in_occurs : (y : ℕ) (a : Atom ℕ) (R : List (Atom ℕ)) → In a R → in_atom y a ≡ true → occurs y R ≡ true
in_occurs y a [] i o = absurd i
in_occurs y a (x ∷ R) (inl e) o = head_occurs y x R (subst (λ b. in_atom y b ≡ true) e o)
in_occurs y a (x ∷ R) (inr i) o = tail_occurs y x R (in_occurs y a R i o)

pub take_occurs : (y : ℕ) (a : Atom ℕ) (R T : List (Atom ℕ)) → TakesOne a R T → occurs y T ≡ true → occurs y R ≡ true
take_occurs y a [] T t o = absurd t
take_occurs y a (x ∷ R) T (inl t) o = tail_occurs y x R (subst (λ l. occurs y l ≡ true) t.1 o)
take_occurs y a (x ∷ R) T (inr t) o = elim (where_occurs y x t.0 (subst (λ l. occurs y l ≡ true) t.1 o)) [ inl p ↦ head_occurs y x R p | inr p ↦ tail_occurs y x R (take_occurs y a R t.0 t.2 p) ]

pub use_occurs : (D : Decls) (y : ℕ) (a : Atom ℕ) (R T : List (Atom ℕ)) → UsesUp (AffineAtom D) a R T → occurs y T ≡ true → occurs y R ≡ true
use_occurs D y a R T (inl u) o = take_occurs y a R T u.1 o
use_occurs D y a R T (inr u) o = subst (λ l. occurs y l ≡ true) u.2 o

pub uses_occurs : (D : Decls) (y : ℕ) (p R T : List (Atom ℕ)) → UsesUpAll (AffineAtom D) p R T → occurs y T ≡ true → occurs y R ≡ true
uses_occurs D y [] R T u o = subst (λ l. occurs y l ≡ true) u o
uses_occurs D y (a ∷ p) R T u o = use_occurs D y a R u.0 u.1 (uses_occurs D y p u.0 T u.2 o)

pub not_true : {x : Bool} → (x ≡ true → ⊥) → x ≡ false
not_true {x = true} h = absurd (h refl)
not_true {x = false} h = refl

pub true_false : {x : Bool} → x ≡ true → x ≡ false → ⊥
true_false p q = absurd (cc)

-- what doesn't occur still doesn't
pub fresh_after : (D : Decls) (y : ℕ) (p R T : List (Atom ℕ)) → UsesUpAll (AffineAtom D) p R T → occurs y R ≡ false → occurs y T ≡ false
fresh_after D y p R T u f = not_true (λ o. true_false (uses_occurs D y p R T u o) f)

module _ (D : Decls) (S : Sight) (names : ℕ → Value) where
  pub use_up : (a : Atom ℕ) (R T : List (Atom ℕ)) (f : Owned) → UsesUp (AffineAtom D) a R T → MeansAll D S (map (map_atom names) R) f → Split (Means D S (map_atom names a)) (MeansAll D S (map (map_atom names) T)) f
  use_up a R T f (inl u) p = take_out D S (map_atom names) a R T f u.1 p
  use_up a R T f (inr u) p =
      let r = look_up D S (map_atom names) a R f u.1 p in
      let n = owns_nothing D S r.1 (λ h. u.0 (affine_named D names a h)) in
      record { one = r.0; two = f; first_part = r.1; second_part = subst (λ l. MeansAll D S (map (map_atom names) l) f) (sym u.2) p; join = λ t. omega (arith, n t) }

  pub use_all : (p R T : List (Atom ℕ)) (f : Owned) → UsesUpAll (AffineAtom D) p R T → MeansAll D S (map (map_atom names) R) f → Split (MeansAll D S (map (map_atom names) p)) (MeansAll D S (map (map_atom names) T)) f
  use_all [] R T f u m = record { one = λ t. 0; two = f; first_part = All_none (λ t. refl); second_part = subst (λ l. MeansAll D S (map (map_atom names) l) f) (sym u) m; join = λ t. omega arith }
  use_all (a ∷ p) R T f u m =
      let r = use_up a R u.0 f u.1 m in
      let s = use_all p u.0 T r.two u.2 r.second_part in
      record { one = λ t. r.one t + s.one t; two = s.two; first_part = All_more r.first_part s.first_part (λ t. refl); second_part = s.second_part; join = λ t. omega (arith, r.join t, s.join t) }
