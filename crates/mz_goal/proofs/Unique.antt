-- A goal leads to one list at most.
use Rattle.std.proofs.Common.{◌≡◌, ◌⊎◌, inl, inr, ℕ, zero, suc, ◌<◌, arith, List, [], ◌∷◌, ◌++◌, map, Option, Some, slice_get, slice_set, refl, sym, ap, ◌∙◌, subst}
use Rattle.std.specs.List.{remove}
use Rattle.mz_tree.specs.Plain.{Ty, Atom, Unknown_type, Dynamic_type, Named_type, Block_type, Has_atom, Same_atom}
use Rattle.mz_tree.specs.Programs.{Con}
use Rattle.mz_decl.specs.Declarations.{Decls}
use Rattle.mz_modes.specs.Affine.{IsMutableCon, AffineTy, ExclusiveTy}
use Rattle.mz_perm.specs.Joining.{Joined}
use Rattle.mz_decl.specs.Contents.{contents}
use Rattle.mz_index.specs.Finding.{IsFirst, NoneFits, SomeFits}
use Rattle.mz_goal.specs.Goals.{Entry, Used, atoms, unused, Offers, Serves, MayFold, Opened, Closed, Meets, Same_met, Unknown_met, Alike_kept, Alike_taken, Dynamic_met, Fold_met, MeetsAll, None_left, One_more}
use Rattle.mz_goal.specs.Needs.{Need, Needs}

some_is : {A : Type 0} (a b : A) → Some a ≡ Some b → a ≡ b
some_is a b e = cc

order : (n m : ℕ) → (n ≡ m) ⊎ ((n < m) ⊎ (m < n))
order zero zero = inl refl
order zero (suc m) = inr (inl (omega arith))
order (suc n) zero = inr (inr (omega arith))
order (suc n) (suc m) = elim (order n m) [
  | inl e ↦ inl (ap suc e)
  | inr s ↦ elim s [ inl l ↦ inr (inl (omega arith)) | inr l ↦ inr (inr (omega arith)) ]
]

-- the first that fits is one
pub place_same : {A : Type 0} (P : A → Type 0) (R : List A) (n m : ℕ) (e f : A) → IsFirst P R n e → IsFirst P R m f → n ≡ m
place_same P R n m e f i j = elim (order n m) [
  | inl q ↦ q
  | inr s ↦ elim s [ inl l ↦ absurd (j.before n e l i.stands i.fits) | inr l ↦ absurd (i.before m f l j.stands j.fits) ]
]

pub entry_same : {A : Type 0} (P : A → Type 0) (R : List A) (n m : ℕ) (e f : A) → IsFirst P R n e → IsFirst P R m f → e ≡ f
entry_same P R n m e f i j = let q = place_same P R n m e f i j in some_is e f (sym i.stands ∙ ap (slice_get R) q ∙ j.stands)

-- the rules seen from the goal
pub record Kept (D : Decls) (R : List Entry) (x : ℕ) (t : Ty ℕ) (T : List Entry) : Type 0 where
  pub known : t ≡ Unknown_type → ⊥
  pub plain : AffineTy D t → ⊥
  pub some : SomeFits (Serves R x t) R
  pub same : T ≡ R

pub record Taken (D : Decls) (R : List Entry) (x : ℕ) (t : Ty ℕ) (T : List Entry) : Type 0 where
  pub place : ℕ
  pub entry : Entry
  pub affine : AffineTy D t
  pub first : IsFirst (Serves R x t) R place entry
  pub less : T ≡ remove R place

pub record Dynamics (D : Decls) (R : List Entry) (x : ℕ) (t : Ty ℕ) (T : List Entry) : Type 0 where
  pub dynamic : t ≡ Dynamic_type
  pub alone : NoneFits (Serves R x t) R
  pub some : SomeFits (Offers R x (ExclusiveTy D)) R
  pub more : T ≡ R ++ unused (Has_atom x Dynamic_type) ∷ []

pub record Folded (D : Decls) (R : List Entry) (x : ℕ) (t : Ty ℕ) (T : List Entry) : Type 0 where
  pub number : ℕ
  pub named : t ≡ Named_type number
  pub place : ℕ
  pub entry : Entry
  pub open_list : List Entry
  pub left : List Entry
  pub alone : NoneFits (Serves R x t) R
  pub first : IsFirst (MayFold D R x number) R place entry
  pub opened : Opened D R place entry.atom first.fits.name first.fits.con open_list
  pub fields : MeetsAll D open_list (contents first.fits.names first.fits.made.fields) left
  pub closes : Closed D left x number T

pub data HasShape (D : Decls) (R : List Entry) (x : ℕ) (t : Ty ℕ) (T : List Entry) : Type 0 where
  By_unknown : t ≡ Unknown_type → T ≡ R → HasShape D R x t T
  By_kept : Kept D R x t T → HasShape D R x t T
  By_taken : Taken D R x t T → HasShape D R x t T
  By_dynamic : Dynamics D R x t T → HasShape D R x t T
  By_fold : Folded D R x t T → HasShape D R x t T

abbrev pub Shape : Decls → List Entry → Atom ℕ → List Entry → Type 0
Shape D R (Same_atom x z) T = Joined (atoms R) x z × (T ≡ R)
Shape D R (Has_atom x t) T = HasShape D R x t T

pub shape : (D : Decls) (R : List Entry) (g : Atom ℕ) (T : List Entry) → Meets D R g T → Shape D R g T
shape D _ _ _ (Same_met R x z j) = (j, refl)
shape D _ _ _ (Unknown_met R x) = By_unknown refl refl
shape D _ _ _ (Alike_kept R x t u f i) = By_kept (record { known = u; plain = f; some = i; same = refl })
shape D _ _ _ (Alike_taken R x t n e f i) = By_taken (record { place = n; entry = e; affine = f; first = i; less = refl })
shape D _ _ _ (Dynamic_met R x none i) = By_dynamic (record { dynamic = refl; alone = none; some = i; more = refl })
shape D _ _ _ (Fold_met R x d n e O S T none i o m c) = By_fold (record { number = d; named = refl; place = n; entry = e; open_list = O; left = S; alone = none; first = i; opened = o; fields = m; closes = c })

abbrev pub AllShape : Decls → List Entry → List (Atom ℕ) → List Entry → Type 0
AllShape D R [] T = T ≡ R
AllShape D R (a ∷ p) T = (S : List Entry) × Meets D R a S × MeetsAll D S p T

pub all_shape : (D : Decls) (R : List Entry) (p : List (Atom ℕ)) (T : List Entry) → MeetsAll D R p T → AllShape D R p T
all_shape D _ _ _ (None_left R) = refl
all_shape D _ _ _ (One_more R a p S T m ms) = (S, m, ms)

-- two ways to open one block are one
names_of : (y con z con2 : ℕ) (ys zs : List ℕ) (c d : Option ℕ) → Has_atom y (Block_type con ys c) ≡ Has_atom z (Block_type con2 zs d) → (y ≡ z) × (con ≡ con2) × (ys ≡ zs)
names_of y con z con2 ys zs c d e = ((cc), (cc), (cc))

opened_same : (D : Decls) (R O U : List Entry) (n m : ℕ) (a b : Atom ℕ) (y z con other : ℕ) → n ≡ m → a ≡ b → y ≡ z → con ≡ other → Opened D R n a y con O → Opened D R m b z other U → O ≡ U
opened_same D R O U n m a b y z con other p q r s (inl o) (inl u) = o.1 ∙ ap (λ k. remove R k ++ unused (Has_atom y Dynamic_type) ∷ []) p ∙ ap (λ k. remove R m ++ unused (Has_atom k Dynamic_type) ∷ []) r ∙ sym u.1
opened_same D R O U n m a b y z con other p q r s (inl o) (inr u) = absurd (u.0 (subst (IsMutableCon D) s o.0))
opened_same D R O U n m a b y z con other p q r s (inr o) (inl u) = absurd (o.0 (subst (IsMutableCon D) (sym s) u.0))
opened_same D R O U n m a b y z con other p q r s (inr o) (inr u) = o.1 ∙ ap (λ k. slice_set R k (record { atom = a; mark = Used })) p ∙ ap (λ k. slice_set R m (record { atom = k; mark = Used })) q ∙ sym u.1

closed_same : (D : Decls) (S T U : List Entry) (x d : ℕ) → Closed D S x d T → Closed D S x d U → T ≡ U
closed_same D S T U x d (inl c) (inl k) = c.1 ∙ sym k.1
closed_same D S T U x d (inl c) (inr k) = absurd (k.0 c.0)
closed_same D S T U x d (inr c) (inl k) = absurd (c.0 k.0)
closed_same D S T U x d (inr c) (inr k) = c.1 ∙ sym k.1

-- the fields' goals, and the list in which they are met, whichever way the block is found
inner_same : (D : Decls) (R : List Entry) (x d n m : ℕ) (e f : Entry) (O U : List Entry) (i : IsFirst (MayFold D R x d) R n e) (j : IsFirst (MayFold D R x d) R m f) (S : List Entry) →
    Opened D R n e.atom i.fits.name i.fits.con O → Opened D R m f.atom j.fits.name j.fits.con U → MeetsAll D U (contents j.fits.names j.fits.made.fields) S → MeetsAll D O (contents i.fits.names i.fits.made.fields) S
inner_same D R x d n m e f O U i j S o u a =
    let p : n ≡ m = place_same (MayFold D R x d) R n m e f i j in
    let q : e ≡ f = entry_same (MayFold D R x d) R n m e f i j in
    let w = names_of i.fits.name i.fits.con j.fits.name j.fits.con i.fits.names j.fits.names i.fits.adopts j.fits.adopts (sym i.fits.is ∙ ap (λ (z : Entry). z.atom) q ∙ j.fits.is) in
    let made : i.fits.made ≡ j.fits.made = some_is _ _ (sym i.fits.is_con ∙ ap (slice_get D.cons) w.1 ∙ j.fits.is_con) in
    let one : O ≡ U = opened_same D R O U n m e.atom f.atom i.fits.name j.fits.name i.fits.con j.fits.con p (ap (λ (z : Entry). z.atom) q) w.0 w.1 o u in
    let two : contents j.fits.names j.fits.made.fields ≡ contents i.fits.names i.fits.made.fields = ap (λ (z : Con). contents j.fits.names z.fields) (sym made) ∙ ap (λ l. contents l i.fits.made.fields) (sym w.2) in
    subst (λ g. MeetsAll D O g S) two (subst (λ l. MeetsAll D l (contents j.fits.names j.fits.made.fields) S) (sym one) a)

number_is : (d e : ℕ) (t u : Ty ℕ) → t ≡ u → t ≡ Named_type d → u ≡ Named_type e → d ≡ e
number_is d e t u q a b = let w : Named_type d ≡ u = sym a ∙ q in let v : Named_type d ≡ Named_type e = w ∙ b in cc

not_unknown : (d : ℕ) (t : Ty ℕ) → t ≡ Named_type d → t ≡ Unknown_type → ⊥
not_unknown d t e u = let v : Named_type d ≡ Unknown_type = sym e ∙ u in absurd (cc)

not_dynamic : (d : ℕ) (t : Ty ℕ) → t ≡ Named_type d → t ≡ Dynamic_type → ⊥
not_dynamic d t e u = let v : Named_type d ≡ Dynamic_type = sym e ∙ u in absurd (cc)

unknown_dynamic : (t : Ty ℕ) → t ≡ Unknown_type → t ≡ Dynamic_type → ⊥
unknown_dynamic t e u = let v : Unknown_type ≡ Dynamic_type = sym e ∙ u in absurd (cc)

unknown_affine : (D : Decls) (t : Ty ℕ) → t ≡ Unknown_type → AffineTy D t → ⊥
unknown_affine D t e a = subst (λ (u : Ty ℕ). AffineTy D u) e a

fold_of : (D : Decls) (R : List Entry) (x d2 d n m : ℕ) (e f : Entry) (O U S T : List Entry) → d2 ≡ d → (i : IsFirst (MayFold D R x d) R n e) (j : IsFirst (MayFold D R x d2) R m f) → Opened D R n e.atom i.fits.name i.fits.con O → Opened D R m f.atom j.fits.name j.fits.con U →
    MeetsAll D U (contents j.fits.names j.fits.made.fields) S → Closed D S x d2 T → MeetsAll D O (contents i.fits.names i.fits.made.fields) S × Closed D S x d T
fold_of D R x d2 d n m e f O U S T q i j o u a c = (subst (λ z. (j : IsFirst (MayFold D R x z) R m f) → Opened D R m f.atom j.fits.name j.fits.con U → MeetsAll D U (contents j.fits.names j.fits.made.fields) S → MeetsAll D O (contents i.fits.names i.fits.made.fields) S) (sym q) (λ k v b. inner_same D R x d n m e f O U i k S o v b) j u a, subst (λ z. Closed D S x z T) q c)

mutual
  pub meets_same : (D : Decls) (R : List Entry) (g : Atom ℕ) (T U : List Entry) → Meets D R g T → Meets D R g U → T ≡ U
  meets_same D _ _ _ U (Same_met R x z j) m = sym (shape D R (Same_atom x z) U m).1
  meets_same D _ _ _ U (Unknown_met R x) m = elim (shape D R (Has_atom x Unknown_type) U m) [
    | By_unknown e s ↦ sym s
    | By_kept k ↦ sym k.same
    | By_taken k ↦ absurd k.affine
    | By_dynamic k ↦ absurd (unknown_dynamic Unknown_type refl k.dynamic)
    | By_fold k ↦ absurd (not_unknown k.number Unknown_type k.named refl)
  ]
  meets_same D _ _ _ U (Alike_kept R x t u f i) m = elim (shape D R (Has_atom x t) U m) [
    | By_unknown q s ↦ sym s
    | By_kept k ↦ sym k.same
    | By_taken k ↦ absurd (f k.affine)
    | By_dynamic k ↦ absurd (k.alone i.place i.one i.stands i.fits)
    | By_fold k ↦ absurd (k.alone i.place i.one i.stands i.fits)
  ]
  meets_same D _ _ _ U (Alike_taken R x t n e f i) m = elim (shape D R (Has_atom x t) U m) [
    | By_unknown q s ↦ absurd (unknown_affine D t q f)
    | By_kept k ↦ absurd (k.plain f)
    | By_taken k ↦ ap (remove R) (place_same (Serves R x t) R n k.place e k.entry i k.first) ∙ sym k.less
    | By_dynamic k ↦ absurd (k.alone n e i.stands i.fits)
    | By_fold k ↦ absurd (k.alone n e i.stands i.fits)
  ]
  meets_same D _ _ _ U (Dynamic_met R x none i) m = elim (shape D R (Has_atom x Dynamic_type) U m) [
    | By_unknown q s ↦ absurd (unknown_dynamic Dynamic_type q refl)
    | By_kept k ↦ absurd (none k.some.place k.some.one k.some.stands k.some.fits)
    | By_taken k ↦ absurd k.affine
    | By_dynamic k ↦ sym k.more
    | By_fold k ↦ absurd (not_dynamic k.number Dynamic_type k.named refl)
  ]
  meets_same D _ _ _ U (Fold_met R x d n e O S T none i o a c) m = elim (shape D R (Has_atom x (Named_type d)) U m) [
    | By_unknown q s ↦ absurd (not_unknown d (Named_type d) refl q)
    | By_kept k ↦ absurd (none k.some.place k.some.one k.some.stands k.some.fits)
    | By_taken k ↦ absurd (none k.place k.entry k.first.stands k.first.fits)
    | By_dynamic k ↦ absurd (not_dynamic d (Named_type d) refl k.dynamic)
    | By_fold k ↦ (
        let q : k.number ≡ d = number_is k.number d (Named_type d) (Named_type d) refl k.named refl in
        let z = fold_of D R x k.number d n k.place e k.entry O k.open_list k.left U q i k.first o k.opened k.fields k.closes in
        let same = all_same_end D O (contents i.fits.names i.fits.made.fields) S k.left a z.0 in
        closed_same D S T U x d c (subst (λ l. Closed D l x d U) (sym same) z.1))
  ]

  pub all_same_end : (D : Decls) (R : List Entry) (p : List (Atom ℕ)) (T U : List Entry) → MeetsAll D R p T → MeetsAll D R p U → T ≡ U
  all_same_end D _ _ _ U (None_left R) m = sym (all_shape D R [] U m)
  all_same_end D _ _ _ U (One_more R a p S T m ms) k =
      let w = all_shape D R (a ∷ p) U k in
      let e = meets_same D R a S w.0 m w.1 in
      all_same_end D S p T U ms (subst (λ l. MeetsAll D l p U) (sym e) w.2)

-- where the first block's fields aren't met, the goal isn't
pub not_inside : (D : Decls) (R : List Entry) (x d n : ℕ) (e : Entry) (O : List Entry) → NoneFits (Serves R x (Named_type d)) R → (i : IsFirst (MayFold D R x d) R n e) → Opened D R n e.atom i.fits.name i.fits.con O → ((S : List Entry) → MeetsAll D O (contents i.fits.names i.fits.made.fields) S → ⊥) → (T : List Entry) → Meets D R (Has_atom x (Named_type d)) T → ⊥
not_inside D R x d n e O none i o f T m = elim (shape D R (Has_atom x (Named_type d)) T m) [
  | By_unknown q s ↦ not_unknown d (Named_type d) refl q
  | By_kept k ↦ none k.some.place k.some.one k.some.stands k.some.fits
  | By_taken k ↦ none k.place k.entry k.first.stands k.first.fits
  | By_dynamic k ↦ not_dynamic d (Named_type d) refl k.dynamic
  | By_fold k ↦ f k.left (fold_of D R x k.number d n k.place e k.entry O k.open_list k.left T (number_is k.number d (Named_type d) (Named_type d) refl k.named refl) i k.first o k.opened k.fields k.closes).0
]

-- where no block can be folded, the goal isn't met
pub not_folded : (D : Decls) (R : List Entry) (x d : ℕ) → NoneFits (Serves R x (Named_type d)) R → NoneFits (MayFold D R x d) R → (T : List Entry) → Meets D R (Has_atom x (Named_type d)) T → ⊥
not_folded D R x d none lacking T m = elim (shape D R (Has_atom x (Named_type d)) T m) [
  | By_unknown q s ↦ not_unknown d (Named_type d) refl q
  | By_kept k ↦ none k.some.place k.some.one k.some.stands k.some.fits
  | By_taken k ↦ none k.place k.entry k.first.stands k.first.fits
  | By_dynamic k ↦ not_dynamic d (Named_type d) refl k.dynamic
  | By_fold k ↦ (let q : k.number ≡ d = number_is k.number d (Named_type d) (Named_type d) refl k.named refl in subst (λ z. IsFirst (MayFold D R x z) R k.place k.entry → ⊥) (sym q) (λ i. lacking k.place k.entry i.stands i.fits) k.first)
]

-- where one of several isn't met, they aren't
pub not_next : (D : Decls) (R : List Entry) (a : Atom ℕ) (p : List (Atom ℕ)) → ((S : List Entry) → Meets D R a S → ⊥) → (T : List Entry) → MeetsAll D R (a ∷ p) T → ⊥
not_next D R a p f T m = let w = all_shape D R (a ∷ p) T m in f w.0 w.1

-- the goals of a command lead to one state
pub need_same : (D : Decls) (R : List (Atom ℕ)) (g : Atom ℕ) (T U : List (Atom ℕ)) → Need D R g T → Need D R g U → T ≡ U
need_same D R g T U n m = n.is ∙ ap atoms (meets_same D (map unused R) g n.left m.left n.meets m.meets) ∙ sym m.is

pub needs_same : (D : Decls) (R p T U : List (Atom ℕ)) → Needs D R p T → Needs D R p U → T ≡ U
needs_same D R [] T U n m = n ∙ sym m
needs_same D R (g ∷ p) T U n m = let e = need_same D R g n.0 m.0 n.1 m.1 in needs_same D n.0 p T U n.2 (subst (λ l. Needs D l p U) (sym e) m.2)
