-- The steps from a type to one that is alike, in the words of the code: a name after the other.
use Rattle.std.proofs.Common.{◌≡◌, inl, inr, ℕ, zero, suc, ◌+◌, ◌<◌, ◌≤◌, arith, List, [], ◌∷◌, ◌++◌, length, map, take, drop, Option, Some, slice_get, slice_set, slice_index_or, refl, sym, ap, ◌∙◌, subst}
use Rattle.mz_tree.specs.Plain.{Ty, Atom, Atoms, Int_type, Unknown_type, Dynamic_type, Locked_type, Named_type, Function_type, Block_type, Lock_type, Has_atom, Same_atom}
use Rattle.mz_decl.specs.Declarations.{Decls}
use Rattle.mz_modes.specs.Affine.{AffineAtom}
use Rattle.mz_perm.specs.Lists.{In}
use Rattle.mz_perm.specs.Joining.{Joined}
use Rattle.mz_perm.proofs.Lists.{in_front, in_end}
use Rattle.mz_perm.proofs.Orders.{takes_before}
use Rattle.mz_view.specs.Spots.{names_in, names_in_type, nameless, nameless_type, Puts, PutsType}
use Rattle.mz_view.specs.Steps.{Step, Drop_step, Field_step, Lock_step}
use Rattle.mz_view.specs.Rules.{View}
use Rattle.mz_index.specs.Classes.{AllJoined, AreAlike}
use Rattle.mz_goal.specs.Leads.{Leads}
use Rattle.mz_goal.specs.Added.{Added}
use Rattle.mz_goal.specs.Changing.{DropsKept, put_steps}
use Rattle.mz_goal.proofs.Frames.{takes_end, leads_one}
use Rattle.mz_goal.proofs.Alikeness.{alike, type_unique, joined_long, lock_of, lock_rest}
use Rattle.mz_goal.proofs.Reached.{added_then, added_front, added_by}

blank_set : (ys : List ℕ) (k z : ℕ) → map {B = Unit {0}} (λ _. tt) (slice_set ys k z) ≡ map (λ _. tt) ys
blank_set [] k z = refl
blank_set (y ∷ ys) zero z = refl
blank_set (y ∷ ys) (suc k) z = ap (λ l. tt ∷ l) (blank_set ys k z)

-- a step that uses the permission at the end, and the drop of what it leaves
module _ (D : Decls) (Q : List (Atom ℕ)) (old new : Atom ℕ) (s : Step) where
  used_up : (p q r : List Step) → q ≡ p ++ s ∷ [] → DropsKept D old q r → (AffineAtom D old → Leads D (Q ++ old ∷ []) (s ∷ []) (Q ++ new ∷ [])) → ((AffineAtom D old → ⊥) → Leads D (Q ++ old ∷ []) (s ∷ []) ((Q ++ old ∷ []) ++ new ∷ [])) → Added D (Q ++ old ∷ []) p r (Q ++ new ∷ [])
  used_up p q r e d on_affine on_kept = elim d [
    | inl f ↦ added_by D (Q ++ old ∷ []) (Q ++ new ∷ []) p r (s ∷ []) (f.1 ∙ e) (on_affine f.0)
    | inr f ↦ (
        let R = Q ++ old ∷ [] in
        let next : Added D R p q (R ++ new ∷ []) = added_by D R (R ++ new ∷ []) p q (s ∷ []) e (on_kept f.0) in
        let gone : Added D (R ++ new ∷ []) q r (Q ++ new ∷ []) = added_by D (R ++ new ∷ []) (Q ++ new ∷ []) q r (Drop_step old ∷ []) f.1 (leads_one D (R ++ new ∷ []) (Q ++ new ∷ []) (Drop_step old) tt (takes_before old R Q (new ∷ []) (takes_end old Q))) in
        added_then D R (R ++ new ∷ []) (Q ++ new ∷ []) p q r next gone)
  ]

put_in_block : (D : Decls) (Q : List (Atom ℕ)) (x con : ℕ) (ys : List ℕ) (c : Option ℕ) (k y z : ℕ) (p q r : List Step) → slice_get ys k ≡ Some y → In (Same_atom y z) Q → q ≡ p ++ Field_step (Has_atom x (Block_type con ys c)) k z ∷ [] → DropsKept D (Has_atom x (Block_type con ys c)) q r →
    Added D (Q ++ Has_atom x (Block_type con ys c) ∷ []) p r (Q ++ Has_atom x (Block_type con (slice_set ys k z) c) ∷ [])
put_in_block D Q x con ys c k y z p q r at held e d =
    let a = Has_atom x (Block_type con ys c) in
    let b = Has_atom x (Block_type con (slice_set ys k z) c) in
    let R = Q ++ a ∷ [] in
    let s = Field_step a k z in
    used_up D Q a b s p q r e d
    (λ f. let view : View D R s (Q ++ b ∷ []) = record { name = y; is_name = at; equal = in_front (Same_atom y z) Q (a ∷ []) held; changes = record { rest = Q; used = inl (f, takes_end a Q); new = refl } } in leads_one D R (Q ++ b ∷ []) s tt view)
    (λ f. let view : View D R s (R ++ b ∷ []) = record { name = y; is_name = at; equal = in_front (Same_atom y z) Q (a ∷ []) held; changes = record { rest = R; used = inr (f, in_end a Q, refl); new = refl } } in leads_one D R (R ++ b ∷ []) s tt view)

put_in_lock : (D : Decls) (Q : List (Atom ℕ)) (x : ℕ) (l m : Atoms ℕ) (k y z : ℕ) (p q r : List Step) → slice_get (names_in l) k ≡ Some y → Puts k z l m → In (Same_atom y z) Q → q ≡ p ++ Lock_step (Has_atom x (Lock_type l)) k z ∷ [] → DropsKept D (Has_atom x (Lock_type l)) q r →
    Added D (Q ++ Has_atom x (Lock_type l) ∷ []) p r (Q ++ Has_atom x (Lock_type m) ∷ [])
put_in_lock D Q x l m k y z p q r at puts held e d =
    let a = Has_atom x (Lock_type l) in
    let b = Has_atom x (Lock_type m) in
    let R = Q ++ a ∷ [] in
    let s = Lock_step a k z in
    used_up D Q a b s p q r e d
    (λ f. absurd f)
    (λ f. let view : View D R s (R ++ b ∷ []) = record { held = in_end a Q; name = y; is_name = at; equal = in_front (Same_atom y z) Q (a ∷ []) held; guarded = m; puts = puts; new = refl } in leads_one D R (R ++ b ∷ []) s tt view)

put_at_end : (D : Decls) (Q : List (Atom ℕ)) (x : ℕ) (t u : Ty ℕ) (k y z : ℕ) (p q r : List Step) → slice_get (names_in_type t) k ≡ Some y → PutsType k z t u → In (Same_atom y z) Q → q ≡ p ++ put_steps x t k z → DropsKept D (Has_atom x t) q r → Added D (Q ++ Has_atom x t ∷ []) p r (Q ++ Has_atom x u ∷ [])
put_at_end D Q x Int_type u k y z p q r at puts held e d = absurd (cc)
put_at_end D Q x Unknown_type u k y z p q r at puts held e d = absurd (cc)
put_at_end D Q x Dynamic_type u k y z p q r at puts held e d = absurd (cc)
put_at_end D Q x Locked_type u k y z p q r at puts held e d = absurd (cc)
put_at_end D Q x (Named_type n) u k y z p q r at puts held e d = absurd (cc)
put_at_end D Q x (Function_type n) u k y z p q r at puts held e d = absurd (cc)
put_at_end D Q x (Block_type con ys c) u k y z p q r at puts held e d =
    let same : Block_type con (slice_set ys k z) c ≡ u = type_unique (Block_type con (slice_set ys k z) c) u (sym puts.names) (ap (λ l. Block_type con l c) (blank_set ys k z) ∙ sym puts.rest) in
    subst (λ v. Added D (Q ++ Has_atom x (Block_type con ys c) ∷ []) p r (Q ++ Has_atom x v ∷ [])) same (put_in_block D Q x con ys c k y z p q r at held e d)
put_at_end D Q x (Lock_type l) u k y z p q r at puts held e d =
    let m = lock_of l u puts.rest in
    let rest : nameless m.0 ≡ nameless l = lock_rest (nameless m.0) (nameless l) (sym (ap nameless_type m.1) ∙ puts.rest) in
    let names : names_in m.0 ≡ slice_set (names_in l) k z = sym (ap names_in_type m.1) ∙ puts.names in
    subst (λ v. Added D (Q ++ Has_atom x (Lock_type l) ∷ []) p r (Q ++ Has_atom x v ∷ [])) (sym m.1) (put_in_lock D Q x l m.0 k y z p q r at (record { names = names; rest = rest }) held e d)

-- one name, with its equation
pub put_once : (D : Decls) (S : List (Atom ℕ)) (x : ℕ) (t u : Ty ℕ) (k y z : ℕ) (p q r s v : List Step) → slice_get (names_in_type t) k ≡ Some y → PutsType k z t u → Added D S p q (S ++ Same_atom y z ∷ []) → r ≡ q ++ put_steps x t k z → DropsKept D (Has_atom x t) r s → v ≡ s ++ Drop_step (Same_atom y z) ∷ [] → Added D (S ++ Has_atom x t ∷ []) p v (S ++ Has_atom x u ∷ [])
put_once D S x t u k y z p q r s v at puts a e d f =
    let yz = Same_atom y z ∷ [] in
    let old = Has_atom x t ∷ [] in
    let new = Has_atom x u ∷ [] in
    let Q = S ++ yz in
    let first : Added D (S ++ old) p q (Q ++ old) = added_front D S Q old p q a in
    let next : Added D (Q ++ old) q s (Q ++ new) = put_at_end D Q x t u k y z q r s at puts (in_end (Same_atom y z) S) e d in
    let gone : Added D (Q ++ new) s v (S ++ new) = added_by D (Q ++ new) (S ++ new) s v (Drop_step (Same_atom y z) ∷ []) f (leads_one D (Q ++ new) (S ++ new) (Drop_step (Same_atom y z)) tt (takes_before (Same_atom y z) Q S new (takes_end (Same_atom y z) S))) in
    added_then D (S ++ old) (Q ++ old) (S ++ new) p q v first (added_then D (Q ++ old) (Q ++ new) (S ++ new) q s v next gone)

-- names that are put in one after the other
joined_at : (R : List (Atom ℕ)) (ys zs : List ℕ) (i : ℕ) (y z : ℕ) → AllJoined R ys zs → slice_get ys i ≡ Some y → slice_get zs i ≡ Some z → Joined R y z
joined_at R [] zs i y z j e f = absurd (cc)
joined_at R (a ∷ ys) [] i y z j e f = absurd j
joined_at R (a ∷ ys) (b ∷ zs) zero y z j e f = let p : a ≡ y = cc in let q : b ≡ z = cc in subst (λ n. Joined R n z) p (subst (λ n. Joined R a n) q j.0)
joined_at R (a ∷ ys) (b ∷ zs) (suc i) y z j e f = joined_at R ys zs i y z j.1 e f

seam_get : (ys zs : List ℕ) (i : ℕ) (y : ℕ) → length zs ≡ length ys → slice_get ys i ≡ Some y → slice_get (take i zs ++ drop i ys) i ≡ Some y
seam_get [] zs i y l e = absurd (cc)
seam_get (a ∷ ys) [] i y l e = absurd (omega (arith, l))
seam_get (a ∷ ys) (b ∷ zs) zero y l e = e
seam_get (a ∷ ys) (b ∷ zs) (suc i) y l e = let h : suc (length zs) ≡ suc (length ys) = l in seam_get ys zs i y (omega (arith, h)) e

seam_set : (ys zs : List ℕ) (i : ℕ) (z : ℕ) → length zs ≡ length ys → slice_get zs i ≡ Some z → slice_set (take i zs ++ drop i ys) i z ≡ take (suc i) zs ++ drop (suc i) ys
seam_set ys [] i z l e = absurd (cc)
seam_set [] (b ∷ zs) i z l e = absurd (omega (arith, l))
seam_set (a ∷ ys) (b ∷ zs) zero z l e = let q : z ≡ b = cc in ap (λ n. n ∷ ys) q
seam_set (a ∷ ys) (b ∷ zs) (suc i) z l e = let h : suc (length zs) ≡ suc (length ys) = l in ap (λ m. b ∷ m) (seam_set ys zs i z (omega (arith, h)) e)

seam_end : (ys zs : List ℕ) (i : ℕ) → length zs ≡ length ys → length zs ≤ i → take i zs ++ drop i ys ≡ zs
seam_end [] [] zero l h = refl
seam_end [] [] (suc i) l h = refl
seam_end [] (b ∷ zs) i l h = absurd (omega (arith, l))
seam_end (a ∷ ys) [] i l h = absurd (omega (arith, l))
seam_end (a ∷ ys) (b ∷ zs) zero l h = absurd (omega (arith, h))
seam_end (a ∷ ys) (b ∷ zs) (suc i) l h = let g : suc (length zs) ≡ suc (length ys) = l in ap (λ m. b ∷ m) (seam_end ys zs i (omega (arith, g)) (omega (arith, h)))

-- the first names are the wanted ones, and the steps so far lead there
pub record Retyped (S : List (Atom ℕ)) (t : Ty ℕ) (zs : List ℕ) (i : ℕ) (u : Ty ℕ) : Type 0 where
  pub names : names_in_type u ≡ take i zs ++ drop i (names_in_type t)
  pub rest : nameless_type u ≡ nameless_type t

pub retyped_none : (S : List (Atom ℕ)) (t u : Ty ℕ) (zs : List ℕ) → u ≡ t → Retyped S t zs 0 u
retyped_none S t u zs e = record { names = ap names_in_type e; rest = ap nameless_type e }

-- what is known of types that are alike
module _ (S : List (Atom ℕ)) (t w : Ty ℕ) (j : AreAlike S t w) (ys zs : List ℕ) (old : ys ≡ names_in_type t) (new : zs ≡ names_in_type w) where
  joined : AllJoined S ys zs
  joined = subst (λ l. AllJoined S l zs) (sym old) (subst (λ l. AllJoined S (names_in_type t) l) (sym new) (alike S t w j).names)

  pub as_long : length zs ≡ length ys
  as_long = joined_long S ys zs joined

  pub place_joined : (i y z : ℕ) → slice_get ys i ≡ Some y → slice_get zs i ≡ Some z → Joined S y z
  place_joined i y z e f = joined_at S ys zs i y z joined e f

  pub place_stands : (i y : ℕ) (u : Ty ℕ) → slice_get ys i ≡ Some y → Retyped S t zs i u → slice_get (names_in_type u) i ≡ Some y
  place_stands i y u e r = ap (λ l. slice_get l i) (r.names ∙ ap (λ l. take i zs ++ drop i l) (sym old)) ∙ seam_get ys zs i y as_long e

  pub retyped_next : (i z : ℕ) (u v : Ty ℕ) → slice_get zs i ≡ Some z → PutsType i z u v → Retyped S t zs i u → Retyped S t zs (i + 1) v
  retyped_next i z u v f p r =
      let n : i + 1 ≡ suc i = omega arith in
      record {
        names = p.names ∙ ap (λ l. slice_set l i z) (r.names ∙ ap (λ l. take i zs ++ drop i l) (sym old)) ∙ seam_set ys zs i z as_long f ∙ ap (λ l. take (suc i) zs ++ drop (suc i) l) old ∙ ap (λ k. take k zs ++ drop k (names_in_type t)) (sym n);
        rest = p.rest ∙ r.rest;
      }

  pub retyped_all : (i : ℕ) (u : Ty ℕ) → length zs ≤ i → Retyped S t zs i u → u ≡ w
  retyped_all i u h r =
      let names : names_in_type u ≡ names_in_type w = r.names ∙ ap (λ l. take i zs ++ drop i l) (sym old) ∙ seam_end ys zs i as_long h ∙ new in
      type_unique u w names (r.rest ∙ sym (alike S t w j).rest)

-- what an index within finds
pub indexed : (xs : List ℕ) (i : ℕ) → i < length xs → slice_get xs i ≡ Some (slice_index_or xs i 0)
indexed [] i h = absurd (omega arith)
indexed (x ∷ xs) zero h = refl
indexed (x ∷ xs) (suc i) h = indexed xs i (omega (arith, h))
