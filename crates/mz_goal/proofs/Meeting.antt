-- Where the guided rules meet a goal, view steps lead there.
use Rattle.std.proofs.Common.{◌≡◌, ◌⊎◌, inl, inr, ℕ, zero, suc, List, [], ◌∷◌, ◌++◌, length, map, Option, None, Some, slice_get, slice_set, append-nil, refl, sym, ap, ◌∙◌, subst}
use Rattle.std.specs.List.{remove}
use Rattle.mz_tree.specs.Plain.{Ty, Atom, Int_type, Unknown_type, Dynamic_type, Locked_type, Named_type, Function_type, Block_type, Lock_type, Has_atom, Same_atom}
use Rattle.mz_tree.specs.Programs.{Con}
use Rattle.mz_decl.specs.Declarations.{Decls, clause_of}
use Rattle.mz_modes.specs.Affine.{AffineTy, AffineAtom}
use Rattle.mz_perm.specs.Lists.{In, TakesOne}
use Rattle.mz_perm.specs.Using.{UsesUpAll}
use Rattle.mz_perm.specs.Joining.{Joined}
use Rattle.mz_perm.proofs.Lists.{in_end}
use Rattle.mz_perm.proofs.Orders.{perm_refl, perm_is, in_of, takes_before}
use Rattle.mz_decl.specs.Contents.{contents}
use Rattle.mz_view.specs.Spots.{nameless_type}
use Rattle.mz_view.specs.Steps.{Step, Drop_step, Copy_step, Fold_step, Unknown_step, Dynamic_step}
use Rattle.mz_view.specs.Rules.{View}
use Rattle.mz_index.specs.Classes.{AreAlike}
use Rattle.mz_goal.specs.Goals.{Mark, Entry, Used, atoms, unused, Opened, Closed, Meets, Same_met, Unknown_met, Alike_kept, Alike_taken, Dynamic_met, Fold_met, MeetsAll, None_left, One_more}
use Rattle.mz_goal.specs.Leads.{Leads, to_name}
use Rattle.mz_goal.proofs.Frames.{takes_middle, takes_end, perm_beside, slide, middle, beside_leads, Known, leads_none, leads_one, leads_then, leads_front, leads_same}
use Rattle.mz_goal.proofs.Alikeness.{alike, like_leads}
use Rattle.mz_goal.proofs.Paths.{renamed_after, path_leads, named_leads}

some_is : {A : Type 0} (a b : A) → Some a ≡ Some b → a ≡ b
some_is a b e = cc

pub in_at : (R : List Entry) (n : ℕ) (e : Entry) → slice_get R n ≡ Some e → In e.atom (atoms R)
in_at [] n e g = absurd (cc)
in_at (f ∷ R) zero e g = inl (ap (λ (x : Entry). x.atom) (some_is e f (sym g)))
in_at (f ∷ R) (suc n) e g = inr (in_at R n e g)

pub takes_at : (R : List Entry) (n : ℕ) (e : Entry) → slice_get R n ≡ Some e → TakesOne e.atom (atoms R) (atoms (remove R n))
takes_at [] n e g = absurd (cc)
takes_at (f ∷ R) zero e g = inl (ap (λ (x : Entry). x.atom) (some_is e f (sym g)), refl)
takes_at (f ∷ R) (suc n) e g = inr (atoms (remove R n), refl, takes_at R n e g)

-- a mark changes no permission
pub marked : (R : List Entry) (n : ℕ) (e : Entry) (b : Mark) → slice_get R n ≡ Some e → atoms (slice_set R n (record { atom = e.atom; mark = b })) ≡ atoms R
marked [] n e b g = absurd (cc)
marked (f ∷ R) zero e b g = ap (λ (x : Entry). x.atom ∷ atoms R) (some_is e f (sym g))
marked (f ∷ R) (suc n) e b g = ap (λ l. f.atom ∷ l) (marked R n e b g)

pub atoms_join : (R S : List Entry) → atoms (R ++ S) ≡ atoms R ++ atoms S
atoms_join [] S = refl
atoms_join (e ∷ R) S = ap (λ l. e.atom ∷ l) (atoms_join R S)

-- as each goal of a command begins
pub atoms_unused : (R : List (Atom ℕ)) → atoms (map unused R) ≡ R
atoms_unused [] = refl
atoms_unused (a ∷ R) = ap (λ l. a ∷ l) (atoms_unused R)

-- types that are alike are affine or not together
nameless_affine : (D : Decls) (t : Ty ℕ) → AffineTy D (nameless_type t) ≡ AffineTy D t
nameless_affine D Int_type = refl
nameless_affine D Unknown_type = refl
nameless_affine D Dynamic_type = refl
nameless_affine D Locked_type = refl
nameless_affine D (Named_type d) = refl
nameless_affine D (Function_type s) = refl
nameless_affine D (Block_type con ys c) = refl
nameless_affine D (Lock_type p) = refl

pub alike_affine : (D : Decls) (R : List (Atom ℕ)) (u t : Ty ℕ) → AreAlike R u t → AffineTy D u ≡ AffineTy D t
alike_affine D R u t a = sym (nameless_affine D u) ∙ ap (AffineTy D) (sym (alike R u t a).rest) ∙ nameless_affine D t

-- what stands at the end can be used up, and what is left of it dropped
pub record Own (D : Decls) (S p : List (Atom ℕ)) : Type 0 where
  pub rest : List (Atom ℕ)
  pub used : UsesUpAll (AffineAtom D) p (S ++ p) rest
  pub drops : List Step
  pub gone : Leads D rest drops S

pub own : (D : Decls) (k : Known D) (p S : List (Atom ℕ)) → Own D S p
own D k [] S = record { rest = S; used = sym (append-nil S); drops = []; gone = leads_none D S S (perm_refl S) }
own D k (a ∷ p) S = elim (k.affine a) [
  | inl f ↦ (let o = own D k p S in record { rest = o.rest; used = (S ++ p, inl (f, takes_middle a S p), o.used); drops = o.drops; gone = o.gone })
  | inr f ↦ (let o = own D k p (S ++ a ∷ []) in record {
    rest = o.rest;
    used = (S ++ a ∷ p, inr (f, in_of a (S ++ a ∷ p) (S ++ p) (takes_middle a S p), refl), subst (λ s. UsesUpAll (AffineAtom D) p s o.rest) (sym (slide S a p)) o.used);
    drops = o.drops ++ Drop_step a ∷ [];
    gone = leads_then D o.rest (S ++ a ∷ []) S o.drops (Drop_step a ∷ []) o.gone (leads_one D (S ++ a ∷ []) S (Drop_step a) tt (takes_end a S));
  })
]

-- a block and its fields' contents become the whole
pub fold_leads : (D : Decls) (k : Known D) (S : List (Atom ℕ)) (x con : ℕ) (ys : List ℕ) (c : Option ℕ) (made : Con) → slice_get D.cons con ≡ Some made → length ys ≡ length made.fields → (c ≡ None) ⊎ (c ≡ clause_of D made.variety) →
    (q : List Step) × Leads D ((S ++ contents ys made.fields) ++ Has_atom x (Block_type con ys c) ∷ []) q (S ++ Has_atom x (Named_type made.variety) ∷ [])
fold_leads D k S x con ys c made is long clause =
    let b = Has_atom x (Block_type con ys c) in
    let whole = Has_atom x (Named_type made.variety) in
    let p = contents ys made.fields in
    let o = own D k (b ∷ p) S in
    let f : View D (S ++ b ∷ p) (Fold_step b) (o.rest ++ whole ∷ []) = record { made = made; is_con = is; each = long; adopts = clause; rest = o.rest; used = o.used; new = refl } in
    let moved : Leads D ((S ++ p) ++ b ∷ []) [] (S ++ b ∷ p) = leads_none D ((S ++ p) ++ b ∷ []) (S ++ b ∷ p) (middle S p b) in
    let folded : Leads D (S ++ b ∷ p) (Fold_step b ∷ []) (o.rest ++ whole ∷ []) = leads_one D (S ++ b ∷ p) (o.rest ++ whole ∷ []) (Fold_step b) tt f in
    let done : Leads D (o.rest ++ whole ∷ []) o.drops (S ++ whole ∷ []) = leads_front D o.rest S (whole ∷ []) o.drops o.gone in
    (_, leads_then D ((S ++ p) ++ b ∷ []) (S ++ b ∷ p) (S ++ whole ∷ []) [] _ moved (leads_then D (S ++ b ∷ p) (o.rest ++ whole ∷ []) (S ++ whole ∷ []) (Fold_step b ∷ []) o.drops folded done))

closed : (D : Decls) (S T : List Entry) (x d : ℕ) → Closed D S x d T → (q : List Step) × Leads D (atoms S ++ Has_atom x (Named_type d) ∷ []) q (atoms T ++ Has_atom x (Named_type d) ∷ [])
closed D S T x d (inl c) = let l = atoms S ++ Has_atom x (Named_type d) ∷ [] in ([], subst (λ t. Leads D l [] (atoms t ++ Has_atom x (Named_type d) ∷ [])) (sym c.1) (leads_none D l l (perm_refl l)))
closed D S T x d (inr c) =
    let g = Has_atom x (Named_type d) in
    let l = atoms S ++ g ∷ [] in
    let e : atoms T ≡ l = ap atoms c.1 ∙ atoms_join S (unused g ∷ []) in
    (Copy_step g ∷ [], subst (λ t. Leads D l (Copy_step g ∷ []) (t ++ g ∷ [])) (sym e) (leads_one D l (l ++ g ∷ []) (Copy_step g) tt (record { held = in_end g (atoms S); duplicable = c.0; new = refl })))

-- a block under the goal's name: a mutable one leaves, and may then be adopted; another stays
opened : (D : Decls) (R O : List Entry) (n : ℕ) (e : Entry) (x y con : ℕ) (ys : List ℕ) (c : Option ℕ) → slice_get R n ≡ Some e → e.atom ≡ Has_atom y (Block_type con ys c) → Joined (atoms R) x y → Opened D R n e.atom y con O →
    (p : List Step) × Leads D (atoms R) p (atoms O ++ Has_atom x (Block_type con ys c) ∷ [])
opened D R O n e x y con ys c g is j (inl o) =
    let b = Has_atom y (Block_type con ys c) in
    let dyn = Has_atom y Dynamic_type in
    let block = Has_atom x (Block_type con ys c) in
    let A = atoms R in
    let L = atoms (remove R n) in
    let first : Leads D A (Dynamic_step y ∷ []) (A ++ dyn ∷ []) = leads_one D A (A ++ dyn ∷ []) (Dynamic_step y) tt (record { exclusive = record { ty = Block_type con ys c; held = subst (λ a. In a A) is (in_at R n e g); exclusive = o.0 }; new = refl }) in
    let next = named_leads D A L x y (Block_type con ys c) j (inl (o.0, subst (λ a. TakesOne a A L) is (takes_at R n e g))) in
    let beside : Leads D (A ++ dyn ∷ []) next.0 ((L ++ dyn ∷ []) ++ block ∷ []) = leads_same D (A ++ dyn ∷ []) ((L ++ block ∷ []) ++ dyn ∷ []) ((L ++ dyn ∷ []) ++ block ∷ []) next.0 (leads_front D A (L ++ block ∷ []) (dyn ∷ []) next.0 next.1) (perm_beside L (block ∷ []) (dyn ∷ [])) in
    let q : atoms O ≡ L ++ dyn ∷ [] = ap atoms o.1 ∙ atoms_join (remove R n) (unused dyn ∷ []) in
    (_, subst (λ l. Leads D A (Dynamic_step y ∷ next.0) (l ++ block ∷ [])) (sym q) (leads_then D A (A ++ dyn ∷ []) ((L ++ dyn ∷ []) ++ block ∷ []) (Dynamic_step y ∷ []) next.0 first beside))
opened D R O n e x y con ys c g is j (inr o) =
    let q : atoms O ≡ atoms R = ap atoms o.1 ∙ marked R n e Used g in
    named_leads D (atoms R) (atoms O) x y (Block_type con ys c) j (inr (o.0, subst (λ a. In a (atoms R)) is (in_at R n e g), q))

mutual
  pub meets_leads : (D : Decls) (k : Known D) (R : List Entry) (g : Atom ℕ) (T : List Entry) → Meets D R g T → (p : List Step) × Leads D (atoms R) p (atoms T ++ g ∷ [])
  meets_leads D k _ _ _ (Same_met R x z j) = path_leads D (atoms R) x z j
  meets_leads D k _ _ _ (Unknown_met R x) = (Unknown_step x ∷ [], leads_one D (atoms R) (atoms R ++ Has_atom x Unknown_type ∷ []) (Unknown_step x) tt refl)
  meets_leads D k _ _ _ (Alike_kept R x t u f s) = let o = s.fits in
      like_leads D k (atoms R) (atoms R) x o.name o.ty t o.joined o.fits (inr ((λ a. f (subst (λ (P : Type 0). P) (alike_affine D (atoms R) o.ty t o.fits) a)), subst (λ a. In a (atoms R)) o.is (in_at R s.place s.one s.stands), refl))
  meets_leads D k _ _ _ (Alike_taken R x t n e f i) = let o = i.fits in
      like_leads D k (atoms R) (atoms (remove R n)) x o.name o.ty t o.joined o.fits (inl (subst (λ (P : Type 0). P) (sym (alike_affine D (atoms R) o.ty t o.fits)) f, subst (λ a. TakesOne a (atoms R) (atoms (remove R n))) o.is (takes_at R n e i.stands)))
  meets_leads D k _ _ _ (Dynamic_met R x none s) =
      let o = s.fits in
      let A = atoms R in
      let dyn = Has_atom x Dynamic_type in
      let other = Has_atom o.name Dynamic_type in
      let first : Leads D A (Dynamic_step o.name ∷ []) (A ++ other ∷ []) = leads_one D A (A ++ other ∷ []) (Dynamic_step o.name) tt (record { exclusive = record { ty = o.ty; held = subst (λ a. In a A) o.is (in_at R s.place s.one s.stands); exclusive = o.fits }; new = refl }) in
      let named = path_leads D A x o.name o.joined in
      let xy = Same_atom x o.name ∷ [] in
      let B = A ++ other ∷ [] in
      let beside : Leads D B named.0 (B ++ xy) = leads_same D B ((A ++ xy) ++ other ∷ []) (B ++ xy) named.0 (leads_front D A (A ++ xy) (other ∷ []) named.0 named.1) (perm_beside A xy (other ∷ [])) in
      let next : Leads D B (named.0 ++ to_name other x o.name) (B ++ dyn ∷ []) = renamed_after D B B named.0 other x o.name beside refl (inr ((λ a. a), in_end other A, refl)) in
      let gone : Leads D (B ++ dyn ∷ []) (Drop_step other ∷ []) (A ++ dyn ∷ []) = leads_one D (B ++ dyn ∷ []) (A ++ dyn ∷ []) (Drop_step other) tt (takes_before other B A (dyn ∷ []) (takes_end other A)) in
      let again : Leads D (A ++ dyn ∷ []) (Copy_step dyn ∷ []) ((A ++ dyn ∷ []) ++ dyn ∷ []) = leads_one D (A ++ dyn ∷ []) ((A ++ dyn ∷ []) ++ dyn ∷ []) (Copy_step dyn) tt (record { held = in_end dyn A; duplicable = λ a. a; new = refl }) in
      let all = leads_then D A B ((A ++ dyn ∷ []) ++ dyn ∷ []) (Dynamic_step o.name ∷ []) _ first (leads_then D B (B ++ dyn ∷ []) ((A ++ dyn ∷ []) ++ dyn ∷ []) (named.0 ++ to_name other x o.name) _ next (leads_then D (B ++ dyn ∷ []) (A ++ dyn ∷ []) ((A ++ dyn ∷ []) ++ dyn ∷ []) (Drop_step other ∷ []) (Copy_step dyn ∷ []) gone again)) in
      (_, subst (λ l. Leads D A (Dynamic_step o.name ∷ ((named.0 ++ to_name other x o.name) ++ (Drop_step other ∷ Copy_step dyn ∷ []))) (l ++ dyn ∷ [])) (sym (atoms_join R (unused dyn ∷ []))) all)
  meets_leads D k _ _ _ (Fold_met R x d n e O S T none i o m c) =
      let b = i.fits in
      let p = contents b.names b.made.fields in
      let block = Has_atom x (Block_type b.con b.names b.adopts) in
      let first = opened D R O n e x b.name b.con b.names b.adopts i.stands b.is b.joined o in
      let fields = all_lead D k O p S m in
      let inside : Leads D (atoms O ++ block ∷ []) fields.0 ((atoms S ++ p) ++ block ∷ []) = leads_front D (atoms O) (atoms S ++ p) (block ∷ []) fields.0 fields.1 in
      let folds = fold_leads D k (atoms S) x b.con b.names b.adopts b.made b.is_con b.long (subst (λ v. (b.adopts ≡ None) ⊎ (b.adopts ≡ clause_of D v)) (sym b.data_type) b.clause) in
      let folded : Leads D ((atoms S ++ p) ++ block ∷ []) folds.0 (atoms S ++ Has_atom x (Named_type d) ∷ []) = subst (λ v. Leads D ((atoms S ++ p) ++ block ∷ []) folds.0 (atoms S ++ Has_atom x (Named_type v) ∷ [])) b.data_type folds.1 in
      let last = closed D S T x d c in (
        _,
        leads_then D (atoms R) (atoms O ++ block ∷ []) (atoms T ++ Has_atom x (Named_type d) ∷ []) first.0 _ first.1
            (leads_then D (atoms O ++ block ∷ []) ((atoms S ++ p) ++ block ∷ []) (atoms T ++ Has_atom x (Named_type d) ∷ []) fields.0 _ inside
            (leads_then D ((atoms S ++ p) ++ block ∷ []) (atoms S ++ Has_atom x (Named_type d) ∷ []) (atoms T ++ Has_atom x (Named_type d) ∷ []) folds.0 last.0 folded last.1)),
      )

  pub all_lead : (D : Decls) (k : Known D) (R : List Entry) (p : List (Atom ℕ)) (T : List Entry) → MeetsAll D R p T → (q : List Step) × Leads D (atoms R) q (atoms T ++ p)
  all_lead D k _ _ _ (None_left R) = ([], leads_none D (atoms R) (atoms R ++ []) (perm_is (atoms R) (atoms R ++ []) (sym (append-nil (atoms R)))))
  all_lead D k _ _ _ (One_more R a p S T m ms) =
      let v = meets_leads D k R a S m in
      let w = all_lead D k S p T ms in
      (_, leads_then D (atoms R) (atoms S ++ a ∷ []) (atoms T ++ a ∷ p) v.0 w.0 v.1 (beside_leads D (atoms S) (atoms T) p a w.0 w.1))
