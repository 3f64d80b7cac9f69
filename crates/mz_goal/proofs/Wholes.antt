-- A block that is opened, and folded again, in the words of the code.
use Rattle.std.proofs.Common.{◌≡◌, ◌⊎◌, inl, inr, ℕ, zero, suc, ◌+◌, ◌<◌, arith, Result, Ok, Err, IfOk, List, [], ◌∷◌, ◌++◌, length, take, get_or, None, Some, slice_get, slice_set, append_assoc, append-nil, refl, sym, ap, ◌∙◌, subst}
use Rattle.std.specs.List.{remove}
use Rattle.mz_tree.specs.Plain.{Ty, Atom, Dynamic_type, Named_type, Block_type, Has_atom, Same_atom}
use Rattle.mz_tree.specs.View.{plain_atom, plain_atoms}
use Rattle.mz_tree.specs.declared.types.Atom.{Atom as CodeAtom}
use Rattle.mz_decl.specs.Declarations.{Decls, clause_of}
use Rattle.mz_decl.specs.Contents.{contents}
use Rattle.mz_modes.specs.Affine.{IsMutableCon, AffineTy, AffineAtom, ExclusiveTy}
use Rattle.mz_perm.specs.Lists.{SameUpToOrder}
use Rattle.mz_perm.specs.Using.{UsesUpAll}
use Rattle.mz_perm.specs.Joining.{Joined}
use Rattle.mz_perm.proofs.Lists.{in_front, in_end}
use Rattle.mz_perm.proofs.Orders.{perm_sym, perm_trans, perm_append, in_of}
use Rattle.mz_view.specs.Steps.{Step, Drop_step, Copy_step, Fold_step, Dynamic_step, plain_steps}
use Rattle.mz_view.specs.Rules.{View, subject_of}
use Rattle.mz_view.specs.declared.step.ViewStep.{ViewStep}
use Rattle.mz_view.proofs.Listed.{at_place}
use Rattle.mz_goal.specs.Goals.{Used, atoms, unused, Closed}
use Rattle.mz_goal.specs.Leads.{Leads}
use Rattle.mz_goal.specs.Marked.{entries}
use Rattle.mz_goal.specs.declared.marks.Mark.{Mark as CodeMark}
use Rattle.mz_goal.specs.Offering.{Folding_wanted, OfferAt}
use Rattle.mz_goal.specs.Added.{Added}
use Rattle.mz_goal.specs.Reaching.{drop_steps}
use Rattle.mz_goal.specs.Changing.{DropsKept}
use Rattle.mz_goal.specs.Folding.{IsWhole, OpensWhole, Ends, Duplicable, None_stays, One_goes, One_stays, DropsEach}
use Rattle.mz_goal.proofs.Frames.{takes_middle, perm_beside, slide, middle, leads_one}
use Rattle.mz_goal.proofs.Marking.{atoms_entries, at_entry}
use Rattle.mz_goal.proofs.Reaching.{in_place}
use Rattle.mz_goal.proofs.Reached.{added_none, added_then, added_same, added_by, all_dropped}
use Rattle.mz_goal.proofs.Serving.{to_entries, same_joined, joined_left_over, turned_out}

-- the duplicable ones of one more
goes_end : (D : Decls) (p kept : List (Atom ℕ)) (a : Atom ℕ) → AffineAtom D a → Duplicable D p kept → Duplicable D (p ++ a ∷ []) kept
goes_end D _ _ a f None_stays = One_goes a [] [] f None_stays
goes_end D _ _ a f (One_goes b p kept g d) = One_goes b (p ++ a ∷ []) kept g (goes_end D p kept a f d)
goes_end D _ _ a f (One_stays b p kept g d) = One_stays b (p ++ a ∷ []) kept g (goes_end D p kept a f d)

stays_end : (D : Decls) (p kept : List (Atom ℕ)) (a : Atom ℕ) → (AffineAtom D a → ⊥) → Duplicable D p kept → Duplicable D (p ++ a ∷ []) (kept ++ a ∷ [])
stays_end D _ _ a f None_stays = One_stays a [] [] f None_stays
stays_end D _ _ a f (One_goes b p kept g d) = One_goes b (p ++ a ∷ []) (kept ++ a ∷ []) g (stays_end D p kept a f d)
stays_end D _ _ a f (One_stays b p kept g d) = One_stays b (p ++ a ∷ []) (kept ++ a ∷ []) g (stays_end D p kept a f d)

drops_both : (p q : List (Atom ℕ)) → drop_steps (p ++ q) ≡ drop_steps p ++ drop_steps q
drops_both [] q = refl
drops_both (a ∷ p) q = ap (λ l. Drop_step a ∷ l) (drops_both p q)

drops_end : (D : Decls) (p : List (Atom ℕ)) (a : Atom ℕ) (before now after : List Step) → DropsEach D p before now → DropsKept D a now after → DropsEach D (p ++ a ∷ []) before after
drops_end D p a before now after e (inl f) = record { kept = e.kept; duplicable = goes_end D p e.kept a f.0 e.duplicable; is = f.1 ∙ e.is }
drops_end D p a before now after e (inr f) = record {
  kept = e.kept ++ a ∷ [];
  duplicable = stays_end D p e.kept a f.0 e.duplicable;
  is = f.1 ∙ ap (λ l. l ++ Drop_step a ∷ []) e.is ∙ append_assoc before (drop_steps e.kept) (Drop_step a ∷ []) ∙ ap (λ l. before ++ l) (sym (drops_both e.kept (a ∷ [])));
}

pub drops_none : (D : Decls) (p : List Step) → DropsEach D [] p p
drops_none D p = record { kept = []; duplicable = None_stays; is = sym (append-nil p) }

plain_suc : (xs : List CodeAtom) (i : ℕ) (x : CodeAtom) → slice_get xs i ≡ Some x → plain_atoms (take (suc i) xs) ≡ plain_atoms (take i xs) ++ plain_atom x ∷ []
plain_suc [] i x e = absurd (cc)
plain_suc (y ∷ xs) zero x e = let q : y ≡ x = cc in ap (λ a. plain_atom a ∷ []) q
plain_suc (y ∷ xs) (suc i) x e = ap (λ l. plain_atom y ∷ l) (plain_suc xs i x e)

pub plain_next : (xs : List CodeAtom) (i : ℕ) (x : CodeAtom) → i < length xs → x ≡ get_or xs i x → plain_atoms (take (i + 1) xs) ≡ plain_atoms (take i xs) ++ plain_atom x ∷ []
plain_next xs i x h e = let n : i + 1 ≡ suc i = omega arith in ap (λ k. plain_atoms (take k xs)) n ∙ plain_suc xs i x (at_place xs i x h e)

pub drops_next : (D : Decls) (xs : List CodeAtom) (i : ℕ) (x : CodeAtom) (before now after : List Step) → i < length xs → x ≡ get_or xs i x → DropsEach D (plain_atoms (take i xs)) before now → DropsKept D (plain_atom x) now after → DropsEach D (plain_atoms (take (i + 1) xs)) before after
drops_next D xs i x before now after h e each one = subst (λ l. DropsEach D l before after) (sym (plain_next xs i x h e)) (drops_end D (plain_atoms (take i xs)) (plain_atom x) before now after each one)

-- a copy of a duplicable whole
pub whole_kept : {E : Type 0} (r : Result (Unit {0}) E) (D : Decls) (R S : List (Atom ℕ)) (w : Atom ℕ) (p q : List Step) → (AffineAtom D w → ⊥) → q ≡ p ++ Copy_step w ∷ [] → IfOk r (λ _. S ≡ R ++ w ∷ []) → IfOk r (λ _. Added D (R ++ w ∷ []) p q (S ++ w ∷ []))
whole_kept (Err e) D R S w p q f s more = tt
whole_kept (Ok u) D R S w p q f s more =
    let R1 = R ++ w ∷ [] in
    subst (λ l. Added D R1 p q (l ++ w ∷ [])) (sym more) (added_by D R1 (R1 ++ w ∷ []) p q (Copy_step w ∷ []) s (leads_one D R1 (R1 ++ w ∷ []) (Copy_step w) tt (record { held = in_end w R; duplicable = f; new = refl })))

-- a copy of the block at a place
pub block_copied : (D : Decls) (R : List (Atom ℕ)) (n : ℕ) (a : Atom ℕ) (p q : List Step) → slice_get R n ≡ Some a → (AffineAtom D a → ⊥) → q ≡ p ++ Copy_step a ∷ [] → Added D R p q (R ++ a ∷ [])
block_copied D R n a p q g f e = added_by D R (R ++ a ∷ []) p q (Copy_step a ∷ []) e (leads_one D R (R ++ a ∷ []) (Copy_step a) tt (record { held = in_place R a n g; duplicable = f; new = refl }))

-- a block that leaves, and may be adopted
pub joined_opened : (R S O l : List (Atom ℕ)) (n y : ℕ) (u : Ty ℕ) → slice_get R n ≡ Some (Has_atom y u) → S ≡ remove R n → O ≡ S ++ l → (x z : ℕ) → Joined R x z → Joined O x z
joined_opened R S O l n y u g s o x z j = subst (λ r. Joined r x z) (sym o) (same_joined S (S ++ l) (λ m r i. in_front (Same_atom m r) S l i) x z (joined_left_over R S n y u g s x z j))

pub taken_out : (D : Decls) (R S O : List (Atom ℕ)) (n y : ℕ) (u : Ty ℕ) (p q : List Step) → slice_get R n ≡ Some (Has_atom y u) → S ≡ remove R n → O ≡ S ++ Has_atom y Dynamic_type ∷ [] → ExclusiveTy D u → q ≡ p ++ Dynamic_step y ∷ [] → Added D R p q (O ++ Has_atom y u ∷ [])
taken_out D R S O n y u p q g s o ex e =
    let dyn = Has_atom y Dynamic_type ∷ [] in
    let b = Has_atom y u in
    let first : Leads D R (Dynamic_step y ∷ []) (R ++ dyn) = leads_one D R (R ++ dyn) (Dynamic_step y) tt (record { exclusive = record { ty = u; held = in_place R b n g; exclusive = ex }; new = refl }) in
    let left : SameUpToOrder (R ++ dyn) ((remove R n ++ b ∷ []) ++ dyn) = perm_append R (remove R n ++ b ∷ []) dyn (perm_back R n b g) in
    let same : SameUpToOrder (R ++ dyn) ((remove R n ++ dyn) ++ b ∷ []) = perm_trans (R ++ dyn) ((remove R n ++ b ∷ []) ++ dyn) ((remove R n ++ dyn) ++ b ∷ []) left (perm_beside (remove R n) (b ∷ []) dyn) in
    let is : O ≡ remove R n ++ dyn = o ∙ ap (λ l. l ++ dyn) s in
    subst (λ l. Added D R p q (l ++ b ∷ [])) (sym is) (added_same D R (R ++ dyn) ((remove R n ++ dyn) ++ b ∷ []) p q (added_by D R (R ++ dyn) p q (Dynamic_step y ∷ []) e first) same)
  where
    perm_back : (R : List (Atom ℕ)) (n : ℕ) (a : Atom ℕ) → slice_get R n ≡ Some a → SameUpToOrder R (remove R n ++ a ∷ [])
    perm_back R n a g = perm_sym (remove R n ++ a ∷ []) R (turned_out R n a g)

-- what is found at the offer's place
module _ (D : Decls) (R : List (Atom ℕ)) (M : List CodeMark) (x d n s : ℕ) (b : Ty ℕ) (o : OfferAt D (entries R M) x (Folding_wanted d) n) where
  pub offer_stands : slice_get R n ≡ Some (Has_atom o.first.fits.name (Block_type o.first.fits.con o.first.fits.names o.first.fits.adopts))
  offer_stands = (at_entry R M n o.entry o.first.stands).0 ∙ ap Some o.first.fits.is

  pub offer_subject : ((a : Atom ℕ) → slice_get R n ≡ Some a → s ≡ subject_of a) → s ≡ o.first.fits.name
  offer_subject f = f (Has_atom o.first.fits.name (Block_type o.first.fits.con o.first.fits.names o.first.fits.adopts)) offer_stands

  pub found_stands : s ≡ o.first.fits.name → b ≡ Block_type o.first.fits.con o.first.fits.names o.first.fits.adopts → slice_get R n ≡ Some (Has_atom s b)
  found_stands e f = offer_stands ∙ ap (λ m. Some (Has_atom m (Block_type o.first.fits.con o.first.fits.names o.first.fits.adopts))) (sym e) ∙ ap (λ u. Some (Has_atom s u)) (sym f)

  pub found_joined : s ≡ o.first.fits.name → Joined R x s
  found_joined e = subst (Joined R x) (sym e) (subst (λ r. Joined r x o.first.fits.name) (atoms_entries R M) o.first.fits.joined)

  mutable_con : b ≡ Block_type o.first.fits.con o.first.fits.names o.first.fits.adopts → ExclusiveTy D b → IsMutableCon D o.first.fits.con
  mutable_con f ex = subst (λ (u : Ty ℕ). ExclusiveTy D u) f ex

  pub found_plain : b ≡ Block_type o.first.fits.con o.first.fits.names o.first.fits.adopts → (ExclusiveTy D b → ⊥) → AffineTy D b → ⊥
  found_plain f plain affine = plain (subst (λ (u : Ty ℕ). ExclusiveTy D u) (sym f) (subst (λ (u : Ty ℕ). AffineTy D u) f affine))

  pub opens_mutable : (S : List (Atom ℕ)) (N : List CodeMark) (goals : List (Atom ℕ)) (p q : List ViewStep) → s ≡ o.first.fits.name → b ≡ Block_type o.first.fits.con o.first.fits.names o.first.fits.adopts → ExclusiveTy D b → goals ≡ contents o.first.fits.names o.first.fits.made.fields →
      entries S N ≡ remove (entries R M) n ++ unused (Has_atom s Dynamic_type) ∷ [] → Added D R (plain_steps p) (plain_steps q) (S ++ Has_atom x b ∷ []) → OpensWhole D (entries R M) x d b goals (entries S N) p q
  opens_mutable S N goals p q e f ex fields new steps = record {
    place = n;
    entry = o.entry;
    first = o.first;
    opened = inl (mutable_con f ex, new ∙ ap (λ m. remove (entries R M) n ++ unused (Has_atom m Dynamic_type) ∷ []) e);
    fields = fields;
    is = f;
    steps = to_entries D R S (Has_atom x b ∷ []) M N (plain_steps p) (plain_steps q) steps;
  }

  pub opens_immutable : (N : List CodeMark) (goals : List (Atom ℕ)) (p q : List ViewStep) → s ≡ o.first.fits.name → b ≡ Block_type o.first.fits.con o.first.fits.names o.first.fits.adopts → (ExclusiveTy D b → ⊥) → goals ≡ contents o.first.fits.names o.first.fits.made.fields →
      entries R N ≡ slice_set (entries R M) n (record { atom = Has_atom s b; mark = Used }) → Added D R (plain_steps p) (plain_steps q) (R ++ Has_atom x b ∷ []) → OpensWhole D (entries R M) x d b goals (entries R N) p q
  opens_immutable N goals p q e f plain fields new steps =
      let is : Has_atom s b ≡ o.entry.atom = ap (λ m. Has_atom m b) e ∙ ap (Has_atom o.first.fits.name) f ∙ sym o.first.fits.is in
      record {
        place = n;
        entry = o.entry;
        first = o.first;
        opened = inr ((λ m. plain (subst (λ (u : Ty ℕ). ExclusiveTy D u) (sym f) m)), new ∙ ap (λ a. slice_set (entries R M) n (record { atom = a; mark = Used })) is);
        fields = fields;
        is = f;
        steps = to_entries D R R (Has_atom x b ∷ []) M N (plain_steps p) (plain_steps q) steps;
      }

-- a fold uses up the block and the contents, and leaves the duplicable ones
use_each : (D : Decls) (p kept S : List (Atom ℕ)) → Duplicable D p kept → UsesUpAll (AffineAtom D) p (S ++ p) (S ++ kept)
use_each D _ _ S None_stays = refl
use_each D _ _ S (One_goes a p kept f d) = (S ++ p, inl (f, takes_middle a S p), use_each D p kept S d)
use_each D _ _ S (One_stays a p kept f d) = (S ++ a ∷ p, inr (f, in_of a (S ++ a ∷ p) (S ++ p) (takes_middle a S p), refl), subst (λ l. UsesUpAll (AffineAtom D) p l (S ++ a ∷ kept)) (sym (slide S a p)) (subst (λ l. UsesUpAll (AffineAtom D) p ((S ++ a ∷ []) ++ p) l) (sym (slide S a kept)) (use_each D p kept (S ++ a ∷ []) d)))

drops_first : (D : Decls) (p : List (Atom ℕ)) (a : Atom ℕ) (before now after : List Step) → DropsKept D a before now → DropsEach D p now after → DropsEach D (a ∷ p) before after
drops_first D p a before now after (inl f) e = record { kept = e.kept; duplicable = One_goes a p e.kept f.0 e.duplicable; is = e.is ∙ ap (λ l. l ++ drop_steps e.kept) f.1 }
drops_first D p a before now after (inr f) e = record { kept = a ∷ e.kept; duplicable = One_stays a p e.kept f.0 e.duplicable; is = e.is ∙ ap (λ l. l ++ drop_steps e.kept) f.1 ∙ append_assoc before (Drop_step a ∷ []) (drop_steps e.kept) }

folded : (D : Decls) (S : List (Atom ℕ)) (x d : ℕ) (b : Ty ℕ) (goals : List (Atom ℕ)) (p q r s : List Step) → IsWhole D d b goals → q ≡ p ++ Fold_step (Has_atom x b) ∷ [] → DropsKept D (Has_atom x b) q r → DropsEach D goals r s → Added D ((S ++ goals) ++ Has_atom x b ∷ []) p s (S ++ Has_atom x (Named_type d) ∷ [])
folded D S x d b goals p q r s w e kept each =
    let a = Has_atom x b in
    let block = Has_atom x (Block_type w.con w.names w.adopts) in
    let whole = Has_atom x (Named_type d) in
    let is : a ≡ block = ap (Has_atom x) w.is in
    let drops = drops_first D goals a q r s kept each in
    let K = drops.kept in
    let used : UsesUpAll (AffineAtom D) (block ∷ contents w.names w.made.fields) (S ++ a ∷ goals) (S ++ K) = subst (λ l. UsesUpAll (AffineAtom D) (block ∷ l) (S ++ a ∷ goals) (S ++ K)) w.fields (subst (λ c. UsesUpAll (AffineAtom D) (c ∷ goals) (S ++ a ∷ goals) (S ++ K)) is (use_each D (a ∷ goals) K S drops.duplicable)) in
    let new : (S ++ K) ++ whole ∷ [] ≡ (S ++ K) ++ Has_atom x (Named_type w.made.variety) ∷ [] = ap (λ v. (S ++ K) ++ Has_atom x (Named_type v) ∷ []) (sym w.data_type) in
    let clause : (w.adopts ≡ None) ⊎ (w.adopts ≡ clause_of D w.made.variety) = subst (λ v. (w.adopts ≡ None) ⊎ (w.adopts ≡ clause_of D v)) (sym w.data_type) w.clause in
    let of_block : View D (S ++ a ∷ goals) (Fold_step block) ((S ++ K) ++ whole ∷ []) = record { made = w.made; is_con = w.is_con; each = w.long; adopts = clause; rest = S ++ K; used = used; new = new } in
    let view : View D (S ++ a ∷ goals) (Fold_step a) ((S ++ K) ++ whole ∷ []) = subst (λ c. View D (S ++ a ∷ goals) (Fold_step c) ((S ++ K) ++ whole ∷ [])) (sym is) of_block in
    let turned : Added D ((S ++ goals) ++ a ∷ []) p p (S ++ a ∷ goals) = added_none D ((S ++ goals) ++ a ∷ []) (S ++ a ∷ goals) p (middle S goals a) in
    let one : Added D (S ++ a ∷ goals) p q ((S ++ K) ++ whole ∷ []) = added_by D (S ++ a ∷ goals) ((S ++ K) ++ whole ∷ []) p q (Fold_step a ∷ []) e (leads_one D (S ++ a ∷ goals) ((S ++ K) ++ whole ∷ []) (Fold_step a) tt view) in
    let beside : Added D (S ++ a ∷ goals) p q ((S ++ whole ∷ []) ++ K) = added_same D (S ++ a ∷ goals) ((S ++ K) ++ whole ∷ []) ((S ++ whole ∷ []) ++ K) p q one (perm_beside S K (whole ∷ [])) in
    let gone : Added D ((S ++ whole ∷ []) ++ K) q s (S ++ whole ∷ []) = added_by D ((S ++ whole ∷ []) ++ K) (S ++ whole ∷ []) q s (drop_steps K) drops.is (all_dropped D (S ++ whole ∷ []) K) in
    added_then D ((S ++ goals) ++ a ∷ []) (S ++ a ∷ goals) (S ++ whole ∷ []) p p s turned (added_then D (S ++ a ∷ goals) ((S ++ whole ∷ []) ++ K) (S ++ whole ∷ []) p q s beside gone)

pub ends_ok : {E : Type 0} (z : Result (Unit {0}) E) (D : Decls) (R S : List (Atom ℕ)) (M N : List CodeMark) (x d : ℕ) (b : Ty ℕ) (goals : List (Atom ℕ)) (p q r s t : List ViewStep) → IsWhole D d b goals → plain_steps q ≡ plain_steps p ++ Fold_step (Has_atom x b) ∷ [] → DropsKept D (Has_atom x b) (plain_steps q) (plain_steps r) → DropsEach D goals (plain_steps r) (plain_steps s) →
    IfOk z (λ _. Closed D (entries R M) x d (entries S N)) → IfOk z (λ _. Added D (R ++ Has_atom x (Named_type d) ∷ []) (plain_steps s) (plain_steps t) (S ++ Has_atom x (Named_type d) ∷ [])) → IfOk z (λ _. Ends D (entries R M) x d b goals (entries S N) p t)
ends_ok (Err f) D R S M N x d b goals p q r s t w e kept each closed steps = tt
ends_ok (Ok u) D R S M N x d b goals p q r s t w e kept each closed steps =
    let whole = Has_atom x (Named_type d) ∷ [] in
    let all : Added D ((R ++ goals) ++ Has_atom x b ∷ []) (plain_steps p) (plain_steps t) (S ++ whole) = added_then D ((R ++ goals) ++ Has_atom x b ∷ []) (R ++ whole) (S ++ whole) (plain_steps p) (plain_steps s) (plain_steps t) (folded D R x d b goals (plain_steps p) (plain_steps q) (plain_steps r) (plain_steps s) w e kept each) steps in
    record {
      closed = closed;
      steps = subst (λ l. Added D ((l ++ goals) ++ Has_atom x b ∷ []) (plain_steps p) (plain_steps t) (atoms (entries S N) ++ whole)) (sym (atoms_entries R M)) (subst (λ l. Added D ((R ++ goals) ++ Has_atom x b ∷ []) (plain_steps p) (plain_steps t) (l ++ whole)) (sym (atoms_entries S N)) all);
    }
