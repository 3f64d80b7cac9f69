-- The fields' goals, one after the other, and the steps that were added for them.
use Rattle.std.proofs.Common.{◌≡◌, ℕ, zero, suc, ◌+◌, ◌<◌, ◌≤◌, arith, List, [], ◌∷◌, ◌++◌, length, take, drop, get_or, drop-cons, add-one, append_assoc, append-nil, refl, sym, ap, ◌∙◌, subst}
use Rattle.mz_tree.specs.Plain.{Ty, Atom, Named_type, Has_atom}
use Rattle.mz_tree.specs.View.{plain_atom, plain_atoms}
use Rattle.mz_tree.specs.declared.types.Atom.{Atom as CodeAtom}
use Rattle.mz_decl.specs.Declarations.{Decls}
use Rattle.mz_decl.specs.Contents.{contents}
use Rattle.mz_perm.specs.Lists.{SameUpToOrder}
use Rattle.mz_perm.proofs.Orders.{perm_trans, perm_is}
use Rattle.mz_view.specs.Steps.{plain_steps}
use Rattle.mz_view.specs.declared.step.ViewStep.{ViewStep}
use Rattle.mz_index.specs.Finding.{NoneFits}
use Rattle.mz_goal.specs.Goals.{Entry, atoms, Serves, Meets, Fold_met, MeetsAll, None_left, One_more}
use Rattle.mz_goal.specs.Free.{free}
use Rattle.mz_goal.specs.Added.{Added}
use Rattle.mz_goal.specs.Folding.{IsWhole, OpensWhole, Ends}
use Rattle.mz_goal.proofs.Frames.{perm_beside}
use Rattle.mz_goal.proofs.Unique.{not_inside, not_next, meets_same, all_shape}
use Rattle.mz_goal.proofs.Fewer.{opens_fewer, meets_free}
use Rattle.mz_goal.proofs.Reached.{added_none, added_then, added_front, added_same}
use Rattle.mz_goal.proofs.Wholes.{plain_next}

drop_all : {A : Type 0} (xs : List A) (i : ℕ) → length xs ≤ i → drop i xs ≡ []
drop_all [] zero h = refl
drop_all [] (suc i) h = refl
drop_all (x ∷ xs) zero h = absurd (omega arith)
drop_all (x ∷ xs) (suc i) h = drop_all xs i (omega arith)

drop_next : {A : Type 0} (xs : List A) (i : ℕ) (x : A) → i < length xs → x ≡ get_or xs i x → drop i xs ≡ x ∷ drop (i + 1) xs
drop_next xs i x h e = rw add-one (drop-cons xs i x h ∙ ap (λ y. y ∷ drop (suc i) xs) (sym e))

take_all : {A : Type 0} (xs : List A) (i : ℕ) → length xs ≤ i → take i xs ≡ xs
take_all [] zero h = refl
take_all [] (suc i) h = refl
take_all (x ∷ xs) zero h = absurd (omega arith)
take_all (x ∷ xs) (suc i) h = ap (λ l. x ∷ l) (take_all xs i (omega arith))

-- what is left leads where the whole leads, and the steps so far lead to the goals so far
pub record Left (D : Decls) (xs : List CodeAtom) (i : ℕ) (R S : List Entry) (p q : List ViewStep) : Type 0 where
  pub onward : (T : List Entry) → MeetsAll D R (plain_atoms xs) T → MeetsAll D S (plain_atoms (drop i xs)) T
  pub whole : (T : List Entry) → MeetsAll D S (plain_atoms (drop i xs)) T → MeetsAll D R (plain_atoms xs) T
  pub less : free S ≤ free R
  pub steps : Added D (atoms R) (plain_steps p) (plain_steps q) (atoms S ++ plain_atoms (take i xs))

pub left_all : (D : Decls) (xs : List CodeAtom) (R : List Entry) (p : List ViewStep) → Left D xs 0 R R p p
left_all D xs R p = record { onward = λ T m. m; whole = λ T m. m; less = omega arith; steps = added_none D (atoms R) (atoms R ++ []) (plain_steps p) (perm_is (atoms R) (atoms R ++ []) (sym (append-nil (atoms R)))) }

pub one_more : (D : Decls) (xs : List CodeAtom) (i : ℕ) (x : CodeAtom) (R S S1 : List Entry) (p q r : List ViewStep) → i < length xs → x ≡ get_or xs i x → Meets D S (plain_atom x) S1 × Added D (atoms S) (plain_steps q) (plain_steps r) (atoms S1 ++ plain_atom x ∷ []) → Left D xs i R S p q → Left D xs (i + 1) R S1 p r
one_more D xs i x R S S1 p q r h e m inv =
    let l = plain_atoms (take i xs) in
    let one = plain_atom x ∷ [] in
    let next : plain_atoms (take (i + 1) xs) ≡ l ++ one = plain_next xs i x h e in
    let turned : SameUpToOrder ((atoms S1 ++ one) ++ l) (atoms S1 ++ (l ++ one)) = perm_trans ((atoms S1 ++ one) ++ l) ((atoms S1 ++ l) ++ one) (atoms S1 ++ (l ++ one)) (perm_beside (atoms S1) one l) (perm_is ((atoms S1 ++ l) ++ one) (atoms S1 ++ (l ++ one)) (append_assoc (atoms S1) l one)) in
    let beside : Added D (atoms S ++ l) (plain_steps q) (plain_steps r) (atoms S1 ++ (l ++ one)) = added_same D (atoms S ++ l) ((atoms S1 ++ one) ++ l) (atoms S1 ++ (l ++ one)) (plain_steps q) (plain_steps r) (added_front D (atoms S) (atoms S1 ++ one) l (plain_steps q) (plain_steps r) m.1) turned in
    record {
      onward = λ T t.
          let w = all_shape D S (plain_atom x ∷ plain_atoms (drop (i + 1) xs)) T (subst (λ l. MeetsAll D S (plain_atoms l) T) (drop_next xs i x h e) (inv.onward T t)) in
          subst (λ s. MeetsAll D s (plain_atoms (drop (i + 1) xs)) T) (meets_same D S (plain_atom x) w.0 S1 w.1 m.0) w.2;
      whole = λ T t. inv.whole T (subst (λ l. MeetsAll D S (plain_atoms l) T) (sym (drop_next xs i x h e)) (One_more S (plain_atom x) (plain_atoms (drop (i + 1) xs)) S1 T m.0 t));
      less = omega (arith, inv.less, meets_free D S (plain_atom x) S1 m.0);
      steps = subst (λ z. Added D (atoms R) (plain_steps p) (plain_steps r) (atoms S1 ++ z)) (sym next) (added_then D (atoms R) (atoms S ++ l) (atoms S1 ++ (l ++ one)) (plain_steps p) (plain_steps q) (plain_steps r) inv.steps beside);
    }

pub no_more : (D : Decls) (xs : List CodeAtom) (i : ℕ) (x : CodeAtom) (R S : List Entry) (p q : List ViewStep) → i < length xs → x ≡ get_or xs i x → ((T : List Entry) → Meets D S (plain_atom x) T → ⊥) → Left D xs i R S p q → (T : List Entry) → MeetsAll D R (plain_atoms xs) T → ⊥
no_more D xs i x R S p q h e f inv T t = not_next D S (plain_atom x) (plain_atoms (drop (i + 1) xs)) f T (subst (λ l. MeetsAll D S (plain_atoms l) T) (drop_next xs i x h e) (inv.onward T t))

pub all_done : (D : Decls) (xs : List CodeAtom) (i : ℕ) (R S : List Entry) (p q : List ViewStep) → length xs ≤ i → Left D xs i R S p q → MeetsAll D R (plain_atoms xs) S × Added D (atoms R) (plain_steps p) (plain_steps q) (atoms S ++ plain_atoms xs)
all_done D xs i R S p q h inv = (inv.whole S (subst (λ l. MeetsAll D S (plain_atoms l) S) (sym (drop_all xs i h)) (None_left S)), subst (λ l. Added D (atoms R) (plain_steps p) (plain_steps q) (atoms S ++ plain_atoms l)) (take_all xs i h) inv.steps)

-- a fold in the words of the code
pub opened_less : (D : Decls) (R O : List Entry) (x d : ℕ) (block : Ty ℕ) (goals : List (Atom ℕ)) (p q : List ViewStep) → OpensWhole D R x d block goals O p q → free O < free R
opened_less D R O x d block goals p q o = let b = o.first.fits in opens_fewer D R O o.place o.entry b.name b.name b.con b.con b.names b.adopts o.first.stands b.mark b.is o.opened

pub is_whole : (D : Decls) (R O : List Entry) (x d : ℕ) (block : Ty ℕ) (goals : List (Atom ℕ)) (p q : List ViewStep) → OpensWhole D R x d block goals O p q → IsWhole D d block goals
is_whole D R O x d block goals p q o = let b = o.first.fits in record { con = b.con; names = b.names; adopts = b.adopts; made = b.made; is = o.is; is_con = b.is_con; data_type = b.data_type; long = b.long; clause = b.clause; fields = o.fields }

pub fold_done : (D : Decls) (R O S T : List Entry) (x d : ℕ) (block : Ty ℕ) (goals parts : List (Atom ℕ)) (p q r s : List ViewStep) → goals ≡ parts → NoneFits (Serves R x (Named_type d)) R → OpensWhole D R x d block goals O p q →
    MeetsAll D O parts S × Added D (atoms O) (plain_steps q) (plain_steps r) (atoms S ++ parts) → Ends D S x d block goals T r s → Meets D R (Has_atom x (Named_type d)) T × Added D (atoms R) (plain_steps p) (plain_steps s) (atoms T ++ Has_atom x (Named_type d) ∷ [])
fold_done D R O S T x d block goals parts p q r s e n o m c =
    let b = o.first.fits in
    let at_end = Has_atom x block ∷ [] in
    let met : MeetsAll D O (contents b.names b.made.fields) S = subst (λ l. MeetsAll D O l S) (sym e ∙ o.fields) m.0 in
    let inside : Added D (atoms O ++ at_end) (plain_steps q) (plain_steps r) ((atoms S ++ goals) ++ at_end) = added_front D (atoms O) (atoms S ++ goals) at_end (plain_steps q) (plain_steps r) (subst (λ l. Added D (atoms O) (plain_steps q) (plain_steps r) (atoms S ++ l)) (sym e) m.1) in
    let last = atoms T ++ Has_atom x (Named_type d) ∷ [] in (
      Fold_met R x d o.place o.entry O S T n o.first o.opened met c.closed,
      added_then D (atoms R) (atoms O ++ at_end) last (plain_steps p) (plain_steps q) (plain_steps s) o.steps (added_then D (atoms O ++ at_end) ((atoms S ++ goals) ++ at_end) last (plain_steps q) (plain_steps r) (plain_steps s) inside c.steps),
    )

pub fold_refused : (D : Decls) (R O : List Entry) (x d : ℕ) (block : Ty ℕ) (goals parts : List (Atom ℕ)) (p q : List ViewStep) → goals ≡ parts → NoneFits (Serves R x (Named_type d)) R → OpensWhole D R x d block goals O p q → ((T : List Entry) → MeetsAll D O parts T → ⊥) → (T : List Entry) → Meets D R (Has_atom x (Named_type d)) T → ⊥
fold_refused D R O x d block goals parts p q e n o f T m = not_inside D R x d o.place o.entry O n o.first o.opened (λ S a. f S (subst (λ l. MeetsAll D O l S) (sym o.fields ∙ e) a)) T m
