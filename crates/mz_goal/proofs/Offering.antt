-- The first entry of a sort, by what an index finds.
use Rattle.std.proofs.Common.{◌≡◌, ◌⊎◌, ◌<◌, ◌≤◌, ◌+◌, inl, inr, ℕ, zero, suc, arith, List, [], ◌∷◌, length, Option, Some, None, slice_get, refl, sym, ap, ◌∙◌, subst}
use Rattle.mz_tree.specs.Plain.{Ty, Atom, Int_type, Unknown_type, Dynamic_type, Locked_type, Named_type, Function_type, Block_type, Lock_type, Has_atom}
use Rattle.mz_decl.specs.Declarations.{Decls}
use Rattle.mz_modes.specs.Affine.{ExclusiveTy}
use Rattle.mz_index.specs.Finding.{NoneFits, InClass}
use Rattle.mz_index.specs.Tests.{Test, Passes}
use Rattle.mz_index.specs.Questions.{IsFrom, FirstFrom}
use Rattle.mz_goal.specs.Goals.{Mark, Unused, Entry, IsSeen, Offers, Serves, MayFold, atoms}
use Rattle.mz_goal.specs.Marked.{mark_of, entries}
use Rattle.mz_goal.specs.declared.marks.Mark.{Mark as CodeMark}
use Rattle.mz_goal.specs.Offering.{Wanted, Alike_wanted, Exclusive_wanted, Folding_wanted, IsOffer, OfTy, TyFolds, BlockFolds, test_for, OfferAt}
use Rattle.mz_goal.proofs.Marking.{atoms_entries, entry_at, at_entry}

some_is : {A : Type 0} (a b : A) → Some a ≡ Some b → a ≡ b
some_is a b e = cc

-- an offer is what the index is asked for
pub wider : (D : Decls) (R : List Entry) (x : ℕ) (w : Wanted) (e : Entry) → IsOffer D R x w e → InClass (atoms R) x (Passes (atoms R) (test_for w)) e.atom
wider D R x (Alike_wanted t) e o = record { name = o.name; ty = o.ty; is = o.is; joined = o.joined; fits = o.fits }
wider D R x Exclusive_wanted e o = record { name = o.name; ty = o.ty; is = o.is; joined = o.joined; fits = tt }
wider D R x (Folding_wanted d) e o = record { name = o.name; ty = Block_type o.con o.names o.adopts; is = o.is; joined = o.joined; fits = tt }

-- what is known of the places before this one
abbrev pub NoOfferBelow : Decls → List Entry → ℕ → Wanted → ℕ → Type 0
NoOfferBelow D R x w n = (k : ℕ) (e : Entry) → k < n → slice_get R k ≡ Some e → IsOffer D R x w e → ⊥

pub none_begins : (D : Decls) (R : List Entry) (x : ℕ) (w : Wanted) → NoOfferBelow D R x w 0
none_begins D R x w k e h = absurd (omega (arith, h))

side : (k from : ℕ) → (k < from) ⊎ (from ≤ k)
side zero zero = inr (omega arith)
side zero (suc from) = inl (omega arith)
side (suc k) zero = inr (omega arith)
side (suc k) (suc from) = elim (side k from) [ inl h ↦ inl (omega (arith, h)) | inr h ↦ inr (omega (arith, h)) ]

where_is : (k from n : ℕ) → k < n + 1 → (k < from) ⊎ (((from ≤ k) × (k < n)) ⊎ (k ≡ n))
where_is zero zero zero h = inr (inr refl)
where_is zero zero (suc n) h = inr (inl (omega arith, omega arith))
where_is zero (suc from) n h = inl (omega arith)
where_is (suc k) from zero h = absurd (omega (arith, h))
where_is (suc k) zero (suc n) h = elim (where_is k 0 n (omega (arith, h))) [
  | inl l ↦ absurd (omega (arith, l))
  | inr s ↦ elim s [ inl m ↦ inr (inl (omega arith, omega (arith, m.1))) | inr e ↦ inr (inr (ap suc e)) ]
]
where_is (suc k) (suc from) (suc n) h = elim (where_is k from n (omega (arith, h))) [
  | inl l ↦ inl (omega (arith, l))
  | inr s ↦ elim s [ inl m ↦ inr (inl (omega (arith, m.0), omega (arith, m.1))) | inr e ↦ inr (inr (ap suc e)) ]
]

-- in the words of the index, whose list is that of the permissions
module _ (D : Decls) (R : List (Atom ℕ)) (marks : List CodeMark) (x : ℕ) (w : Wanted) where
  in_class : (e : Entry) → IsOffer D (entries R marks) x w e → InClass R x (Passes R (test_for w)) e.atom
  in_class e o = subst (λ S. InClass S x (Passes S (test_for w)) e.atom) (atoms_entries R marks) (wider D (entries R marks) x w e o)

  pub back_in_class : (a : Atom ℕ) → InClass R x (Passes R (test_for w)) a → InClass (atoms (entries R marks)) x (Passes (atoms (entries R marks)) (test_for w)) a
  back_in_class a i = subst (λ S. InClass S x (Passes S (test_for w)) a) (sym (atoms_entries R marks)) i

  -- there is nothing more
  pub offers_none : (from : ℕ) (test : Test) → test ≡ test_for w → NoOfferBelow D (entries R marks) x w from → FirstFrom R x from test None → NoneFits (IsOffer D (entries R marks) x w) (entries R marks)
  offers_none from test t below f k e g o =
      let none = subst (λ s. FirstFrom R x from s None) t f in
      elim (side k from) [ inl h ↦ below k e h g o | inr h ↦ none k e.atom h (at_entry R marks k e g).0 (in_class e o) ]

  -- what is found isn't one
  pub offers_again : (from n : ℕ) (test : Test) (one : Atom ℕ) → test ≡ test_for w → NoOfferBelow D (entries R marks) x w from → IsFrom R x from test n → slice_get R n ≡ Some one → (IsOffer D (entries R marks) x w (record { atom = one; mark = mark_of marks n }) → ⊥) → NoOfferBelow D (entries R marks) x w (n + 1)
  offers_again from n test one t below f at lacking k e h g o =
      let found = subst (λ s. IsFrom R x from s n) t f in
      elim (where_is k from n h) [
        | inl l ↦ below k e l g o
        | inr s ↦ elim s [
          | inl m ↦ found.before k e.atom m.0 m.1 (at_entry R marks k e g).0 (in_class e o)
          | inr q ↦ (
              let is : e ≡ record { atom = one; mark = mark_of marks n } = some_is _ _ (sym g ∙ ap (slice_get (entries R marks)) q ∙ entry_at R marks n one at) in
              lacking (subst (IsOffer D (entries R marks) x w) is o))
        ]
      ]

  -- it is: this is the first
  pub offers_found : (from n : ℕ) (test : Test) (one : Atom ℕ) → test ≡ test_for w → NoOfferBelow D (entries R marks) x w from → IsFrom R x from test n → slice_get R n ≡ Some one → IsOffer D (entries R marks) x w (record { atom = one; mark = mark_of marks n }) → OfferAt D (entries R marks) x w n
  offers_found from n test one t below f at o =
      let found = subst (λ s. IsFrom R x from s n) t f in
      record {
        entry = record { atom = one; mark = mark_of marks n };
        first = record {
          stands = entry_at R marks n one at;
          fits = o;
          before = λ k e h g p. elim (side k from) [ inl l ↦ below k e l g p | inr m ↦ found.before k e.atom m h (at_entry R marks k e g).0 (in_class e p) ];
        };
      }

  -- what is found is of the class
  pub found_class : (from n : ℕ) (test : Test) (one : Atom ℕ) → test ≡ test_for w → IsFrom R x from test n → slice_get R n ≡ Some one → InClass (atoms (entries R marks)) x (Passes (atoms (entries R marks)) (test_for w)) one
  found_class from n test one t f at =
      let found = subst (λ s. IsFrom R x from s n) t f in
      back_in_class one (subst (InClass R x (Passes R (test_for w))) (some_is found.one one (sym found.stands ∙ at)) found.fits)

pub below_end : {A : Type 0} (xs : List A) (k : ℕ) (b : A) → slice_get xs k ≡ Some b → k < length xs
below_end [] k b e = absurd (cc)
below_end (x ∷ xs) zero b e = omega arith
below_end (x ∷ xs) (suc k) b e = omega (arith, below_end xs k b e)

-- a place that is found is within
pub found_within : (R : List (Atom ℕ)) (x from n : ℕ) (test : Test) → IsFrom R x from test n → n < length R
found_within R x from n test f = below_end R n f.one f.stands

-- of what the index has found a sort asks for the mark, and for the type
pub seen_serves : (R : List Entry) (x : ℕ) (t : Ty ℕ) (a : Atom ℕ) (m : Mark) → InClass (atoms R) x (Passes (atoms R) (test_for (Alike_wanted t))) a → IsSeen m → Serves R x t (record { atom = a; mark = m })
seen_serves R x t a m i s = record { name = i.name; ty = i.ty; is = i.is; joined = i.joined; fits = i.fits; seen = s }

of_ty : (P : Ty ℕ → Type 0) (a : Atom ℕ) (x : ℕ) (t : Ty ℕ) → a ≡ Has_atom x t → OfTy P a → P t
of_ty P a x t e o = subst (OfTy P) e o

to_ty : (P : Ty ℕ → Type 0) (a : Atom ℕ) (x : ℕ) (t : Ty ℕ) → a ≡ Has_atom x t → P t → OfTy P a
to_ty P a x t e o = subst (OfTy P) (sym e) o

pub seen_exclusive : (D : Decls) (R : List Entry) (x : ℕ) (a : Atom ℕ) (m : Mark) → InClass (atoms R) x (Passes (atoms R) (test_for Exclusive_wanted)) a → IsSeen m → OfTy (ExclusiveTy D) a → Offers R x (ExclusiveTy D) (record { atom = a; mark = m })
seen_exclusive D R x a m i s o = record { name = i.name; ty = i.ty; is = i.is; joined = i.joined; fits = of_ty (ExclusiveTy D) a i.name i.ty i.is o; seen = s }

pub offer_exclusive : (D : Decls) (R : List Entry) (x : ℕ) (a : Atom ℕ) (m : Mark) → Offers R x (ExclusiveTy D) (record { atom = a; mark = m }) → OfTy (ExclusiveTy D) a
offer_exclusive D R x a m o = to_ty (ExclusiveTy D) a o.name o.ty o.is o.fits

-- a type that folds is a block's
record FoldingTy (D : Decls) (d : ℕ) (t : Ty ℕ) : Type 0 where
  con : ℕ
  names : List ℕ
  adopts : Option ℕ
  is : t ≡ Block_type con names adopts
  folds : BlockFolds D d con names adopts

folding_ty : (D : Decls) (d : ℕ) (t : Ty ℕ) → TyFolds D d t → FoldingTy D d t
folding_ty D d Int_type f = absurd f
folding_ty D d Unknown_type f = absurd f
folding_ty D d Dynamic_type f = absurd f
folding_ty D d Locked_type f = absurd f
folding_ty D d (Named_type e) f = absurd f
folding_ty D d (Function_type s) f = absurd f
folding_ty D d (Lock_type p) f = absurd f
folding_ty D d (Block_type con names adopts) f = record { con = con; names = names; adopts = adopts; is = refl; folds = f }

pub unused_folds : (D : Decls) (R : List Entry) (x d : ℕ) (a : Atom ℕ) (m : Mark) → InClass (atoms R) x (Passes (atoms R) (test_for (Folding_wanted d))) a → m ≡ Unused → OfTy (TyFolds D d) a → MayFold D R x d (record { atom = a; mark = m })
unused_folds D R x d a m i u o =
    let f = folding_ty D d i.ty (of_ty (TyFolds D d) a i.name i.ty i.is o) in
    record { name = i.name; con = f.con; names = f.names; adopts = f.adopts; made = f.folds.made; joined = i.joined; is = i.is ∙ ap (Has_atom i.name) f.is; is_con = f.folds.is_con; data_type = f.folds.data_type; long = f.folds.long; clause = f.folds.clause; mark = u }

pub offer_folds : (D : Decls) (R : List Entry) (x d : ℕ) (a : Atom ℕ) (m : Mark) → MayFold D R x d (record { atom = a; mark = m }) → OfTy (TyFolds D d) a
offer_folds D R x d a m o = to_ty (TyFolds D d) a o.name (Block_type o.con o.names o.adopts) o.is (record { made = o.made; is_con = o.is_con; data_type = o.data_type; long = o.long; clause = o.clause })

pub is_none : {A : Type 0} (o : Option A) → ((a : A) → o ≡ Some a → ⊥) → o ≡ None
is_none None f = refl
is_none (Some a) f = absurd (f a refl)
