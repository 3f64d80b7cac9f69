-- Goals that one permission meets, in the words of the code.
use Rattle.std.proofs.Common.{◌≡◌, inl, inr, ℕ, zero, suc, ◌<◌, Result, Ok, Err, IfOk, true, List, [], ◌∷◌, ◌++◌, length, Some, slice_get, refl, sym, ap, ◌∙◌, subst}
use Rattle.std.specs.List.{remove}
use Rattle.mz_tree.specs.Plain.{Ty, Atom, Atoms, Int_type, Unknown_type, Dynamic_type, Locked_type, Named_type, Function_type, Block_type, Lock_type, Has_atom, Same_atom, No_atoms, More_atoms}
use Rattle.mz_decl.specs.Declarations.{Decls}
use Rattle.mz_modes.specs.Affine.{AffineTy, ExclusiveTy}
use Rattle.mz_perm.specs.Lists.{In, TakesOne, SameUpToOrder}
use Rattle.mz_perm.specs.Joining.{Joined, Joined_itself, Joined_right, Joined_left, Joined_through}
use Rattle.mz_perm.proofs.Lists.{in_end}
use Rattle.mz_perm.proofs.Orders.{perm_refl, perm_trans}
use Rattle.mz_view.specs.Steps.{Step, Copy_step, Dynamic_step, Unknown_step, plain_steps}
use Rattle.mz_view.specs.Rules.{subject_of}
use Rattle.mz_view.specs.declared.step.ViewStep.{ViewStep}
use Rattle.mz_index.specs.Classes.{AllJoined, AreAlike, AreAlikeAtoms, AreAlikeGuarded}
use Rattle.mz_index.specs.Finding.{NoneFits}
use Rattle.mz_goal.specs.Goals.{Entry, atoms, unused, Offers, Serves, Meets, Same_met, Unknown_met, Alike_kept, Alike_taken, Dynamic_met}
use Rattle.mz_goal.specs.Leads.{Leads}
use Rattle.mz_goal.specs.Marked.{entries}
use Rattle.mz_goal.specs.declared.marks.Mark.{Mark as CodeMark}
use Rattle.mz_goal.specs.Offering.{Alike_wanted, Exclusive_wanted, OfferAt}
use Rattle.mz_goal.specs.Added.{Added}
use Rattle.mz_goal.specs.Answers.{Did}
use Rattle.mz_goal.proofs.Frames.{perm_turn, leads_one, leads_from}
use Rattle.mz_goal.proofs.Meeting.{in_at, alike_affine, atoms_join}
use Rattle.mz_goal.proofs.Unique.{shape, By_unknown, By_kept, By_taken, By_dynamic, By_fold}
use Rattle.mz_goal.proofs.Marking.{atoms_entries, at_entry}
use Rattle.mz_goal.proofs.Reaching.{in_place}
use Rattle.mz_goal.proofs.Offering.{below_end}
use Rattle.mz_goal.proofs.Reached.{added_then, added_by}

some_is : {A : Type 0} (a b : A) → Some a ≡ Some b → a ≡ b
some_is a b e = cc

-- steps between lists of permissions lead from the entries to the entries
pub to_entries : (D : Decls) (R T l : List (Atom ℕ)) (M N : List CodeMark) (p q : List Step) → Added D R p q (T ++ l) → Added D (atoms (entries R M)) p q (atoms (entries T N) ++ l)
to_entries D R T l M N p q a = subst (λ r. Added D r p q (atoms (entries T N) ++ l)) (sym (atoms_entries R M)) (subst (λ t. Added D R p q (t ++ l)) (sym (atoms_entries T N)) a)

pub added_from : (D : Decls) (R S T : List (Atom ℕ)) (p q : List Step) → SameUpToOrder S R → Added D S p q T → Added D R p q T
added_from D R S T p q s a = record { added = a.added; is = a.is; leads = leads_from D S R T a.added s a.leads }

-- an equation
pub equal_met : (D : Decls) (R : List (Atom ℕ)) (M : List CodeMark) (x z : ℕ) (p q : List ViewStep) → Joined R x z → Added D R (plain_steps p) (plain_steps q) (R ++ Same_atom x z ∷ []) → Did true D (entries R M) (Same_atom x z) (entries R M) p q
equal_met D R M x z p q j a = (Same_met (entries R M) x z (subst (λ r. Joined r x z) (sym (atoms_entries R M)) j), to_entries D R R (Same_atom x z ∷ []) M M (plain_steps p) (plain_steps q) a)

pub equal_unmet : (D : Decls) (R : List (Atom ℕ)) (M : List CodeMark) (x z : ℕ) → (Joined R x z → ⊥) → (S : List Entry) → Meets D (entries R M) (Same_atom x z) S → ⊥
equal_unmet D R M x z f S m = f (subst (λ r. Joined r x z) (atoms_entries R M) (shape D (entries R M) (Same_atom x z) S m).0)

-- nothing is said of a name
pub unknown_met : (D : Decls) (R : List (Atom ℕ)) (M : List CodeMark) (x : ℕ) (t : Ty ℕ) (p q : List ViewStep) → t ≡ Unknown_type → plain_steps q ≡ plain_steps p ++ Unknown_step x ∷ [] → Did true D (entries R M) (Has_atom x t) (entries R M) p q
unknown_met D R M x t p q e s =
    let u = Has_atom x Unknown_type in
    let leads : Leads D R (Unknown_step x ∷ []) (R ++ u ∷ []) = leads_one D R (R ++ u ∷ []) (Unknown_step x) tt refl in
    subst (λ v. Did true D (entries R M) (Has_atom x v) (entries R M) p q) (sym e)
    (Unknown_met (entries R M) x, to_entries D R R (u ∷ []) M M (plain_steps p) (plain_steps q) (added_by D R (R ++ u ∷ []) (plain_steps p) (plain_steps q) (Unknown_step x ∷ []) s leads))

-- an entry that stands at a place: its permission stands there
pub entry_within : (R : List (Atom ℕ)) (M : List CodeMark) (n : ℕ) (e : Entry) → slice_get (entries R M) n ≡ Some e → n < length R
entry_within R M n e g = below_end R n e.atom (at_entry R M n e g).0

-- the permission found at the place is the offer's
pub is_offer : (R : List (Atom ℕ)) (M : List CodeMark) (x : ℕ) (P : Ty ℕ → Type 0) (n : ℕ) (e : Entry) (a : Atom ℕ) (y : ℕ) (u : Ty ℕ) → slice_get (entries R M) n ≡ Some e → (o : Offers (entries R M) x P e) → slice_get R n ≡ Some a → a ≡ Has_atom y u → (o.name ≡ y) × (o.ty ≡ u)
is_offer R M x P n e a y u g o f is =
    let same : e.atom ≡ a = some_is e.atom a (sym (at_entry R M n e g).0 ∙ f) in
    let both : Has_atom o.name o.ty ≡ Has_atom y u = sym o.is ∙ same ∙ is in
    ((cc), (cc))

pub not_equation : (R : List (Atom ℕ)) (M : List CodeMark) (x : ℕ) (P : Ty ℕ → Type 0) (n : ℕ) (e : Entry) (a : Atom ℕ) (y z : ℕ) → slice_get (entries R M) n ≡ Some e → Offers (entries R M) x P e → slice_get R n ≡ Some a → a ≡ Same_atom y z → ⊥
not_equation R M x P n e a y z g o f is =
    let same : e.atom ≡ a = some_is e.atom a (sym (at_entry R M n e g).0 ∙ f) in
    let both : Has_atom o.name o.ty ≡ Same_atom y z = sym o.is ∙ same ∙ is in
    absurd (cc)

-- the offer's name and type, in the list of the permissions
pub offer_joined : (R : List (Atom ℕ)) (M : List CodeMark) (x y : ℕ) (P : Ty ℕ → Type 0) (e : Entry) (o : Offers (entries R M) x P e) → o.name ≡ y → Joined R x y
offer_joined R M x y P e o q = subst (Joined R x) q (subst (λ r. Joined r x o.name) (atoms_entries R M) o.joined)

pub offer_alike : (R : List (Atom ℕ)) (M : List CodeMark) (x : ℕ) (t u : Ty ℕ) (e : Entry) (o : Serves (entries R M) x t e) → o.ty ≡ u → AreAlike R u t
offer_alike R M x t u e o q = subst (λ v. AreAlike R v t) q (subst (λ r. AreAlike r o.ty t) (atoms_entries R M) o.fits)

-- a list with the same equations joins the same names
pub same_joined : (R S : List (Atom ℕ)) → ((l r : ℕ) → In (Same_atom l r) R → In (Same_atom l r) S) → (x y : ℕ) → Joined R x y → Joined S x y
same_joined R S f _ _ (Joined_itself x) = Joined_itself x
same_joined R S f _ _ (Joined_right x y i) = Joined_right x y (f x y i)
same_joined R S f _ _ (Joined_left x y i) = Joined_left x y (f y x i)
same_joined R S f _ _ (Joined_through x y z j k) = Joined_through x y z (same_joined R S f x y j) (same_joined R S f y z k)

all_joined : (R S : List (Atom ℕ)) → ((x y : ℕ) → Joined R x y → Joined S x y) → (ys zs : List ℕ) → AllJoined R ys zs → AllJoined S ys zs
all_joined R S f [] [] j = tt
all_joined R S f [] (z ∷ zs) j = absurd j
all_joined R S f (y ∷ ys) [] j = absurd j
all_joined R S f (y ∷ ys) (z ∷ zs) j = (f y z j.0, all_joined R S f ys zs j.1)

mutual
  same_alike : (R S : List (Atom ℕ)) → ((x y : ℕ) → Joined R x y → Joined S x y) → (t u : Ty ℕ) → AreAlike R t u → AreAlike S t u
  same_alike R S f Int_type Int_type a = tt
  same_alike R S f Unknown_type Unknown_type a = tt
  same_alike R S f Dynamic_type Dynamic_type a = tt
  same_alike R S f Locked_type Locked_type a = tt
  same_alike R S f (Named_type d) (Named_type c) a = a
  same_alike R S f (Function_type s) (Function_type u) a = a
  same_alike R S f (Block_type con ys clause) (Block_type other zs another) a = (a.0, all_joined R S f ys zs a.1, a.2)
  same_alike R S f (Lock_type p) (Lock_type q) a = same_guarded R S f p q a
  same_alike R S f _ _ a = absurd a

  same_atoms : (R S : List (Atom ℕ)) → ((x y : ℕ) → Joined R x y → Joined S x y) → (a b : Atom ℕ) → AreAlikeAtoms R a b → AreAlikeAtoms S a b
  same_atoms R S f (Has_atom x t) (Has_atom y u) a = (f x y a.0, same_alike R S f t u a.1)
  same_atoms R S f (Same_atom x y) (Same_atom z w) a = (f x z a.0, f y w a.1)
  same_atoms R S f _ _ a = absurd a

  same_guarded : (R S : List (Atom ℕ)) → ((x y : ℕ) → Joined R x y → Joined S x y) → (p q : Atoms ℕ) → AreAlikeGuarded R p q → AreAlikeGuarded S p q
  same_guarded R S f No_atoms No_atoms a = tt
  same_guarded R S f (More_atoms b p) (More_atoms c q) a = (same_atoms R S f b c a.0, same_guarded R S f p q a.1)
  same_guarded R S f _ _ a = absurd a

-- where a permission is taken out that is no equation, all equations stay
takes_plain : (R : List (Atom ℕ)) (n : ℕ) (a : Atom ℕ) → slice_get R n ≡ Some a → TakesOne a R (remove R n)
takes_plain [] n a g = absurd (cc)
takes_plain (b ∷ R) zero a g = inl (some_is a b (sym g), refl)
takes_plain (b ∷ R) (suc n) a g = inr (remove R n, refl, takes_plain R n a g)

equation_stays : (R : List (Atom ℕ)) (n y : ℕ) (u : Ty ℕ) → slice_get R n ≡ Some (Has_atom y u) → (l r : ℕ) → In (Same_atom l r) R → In (Same_atom l r) (remove R n)
equation_stays [] n y u g l r i = absurd (cc)
equation_stays (b ∷ R) zero y u g l r (inl e) = let q : Same_atom l r ≡ Has_atom y u = e ∙ some_is b (Has_atom y u) g in absurd (cc)
equation_stays (b ∷ R) zero y u g l r (inr i) = i
equation_stays (b ∷ R) (suc n) y u g l r (inl e) = inl e
equation_stays (b ∷ R) (suc n) y u g l r (inr i) = inr (equation_stays R n y u g l r i)

pub joined_left_over : (R S : List (Atom ℕ)) (n y : ℕ) (u : Ty ℕ) → slice_get R n ≡ Some (Has_atom y u) → S ≡ remove R n → (x z : ℕ) → Joined R x z → Joined S x z
joined_left_over R S n y u g e x z j = subst (λ l. Joined l x z) (sym e) (same_joined R (remove R n) (equation_stays R n y u g) x z j)

pub alike_left_over : (R S : List (Atom ℕ)) (n y : ℕ) (u : Ty ℕ) → slice_get R n ≡ Some (Has_atom y u) → S ≡ remove R n → (t v : Ty ℕ) → AreAlike R t v → AreAlike S t v
alike_left_over R S n y u g e t v a = same_alike R S (joined_left_over R S n y u g e) t v a

-- taken out and put at the end
pub turned_out : (R : List (Atom ℕ)) (n : ℕ) (a : Atom ℕ) → slice_get R n ≡ Some a → SameUpToOrder (remove R n ++ a ∷ []) R
turned_out R n a g = perm_trans (remove R n ++ a ∷ []) (a ∷ remove R n) R (perm_turn (remove R n) (a ∷ [])) (remove R n, takes_plain R n a g, perm_refl (remove R n))

-- a copy of what is alike and duplicable
pub kept_met : (D : Decls) (R : List (Atom ℕ)) (M : List CodeMark) (x y n : ℕ) (t u : Ty ℕ) (p q r : List ViewStep) → (t ≡ Unknown_type → ⊥) → (AffineTy D t → ⊥) → (AffineTy D u → ⊥) → (o : OfferAt D (entries R M) x (Alike_wanted t) n) → slice_get R n ≡ Some (Has_atom y u) →
    plain_steps q ≡ plain_steps p ++ Copy_step (Has_atom y u) ∷ [] → Added D (R ++ Has_atom y u ∷ []) (plain_steps q) (plain_steps r) (R ++ Has_atom x t ∷ []) → Did true D (entries R M) (Has_atom x t) (entries R M) p r
kept_met D R M x y n t u p q r known plain plain_too o g e a =
    let old = Has_atom y u in
    let copied : Leads D R (Copy_step old ∷ []) (R ++ old ∷ []) = leads_one D R (R ++ old ∷ []) (Copy_step old) tt (record { held = in_place R old n g; duplicable = plain_too; new = refl }) in (
      Alike_kept (entries R M) x t known plain (record { place = n; one = o.entry; stands = o.first.stands; fits = o.first.fits }),
      to_entries D R R (Has_atom x t ∷ []) M M (plain_steps p) (plain_steps r) (added_then D R (R ++ old ∷ []) (R ++ Has_atom x t ∷ []) (plain_steps p) (plain_steps q) (plain_steps r) (added_by D R (R ++ old ∷ []) (plain_steps p) (plain_steps q) (Copy_step old ∷ []) e copied) a),
    )

-- the first that is alike, where it is affine
pub taken_met : (D : Decls) (R S : List (Atom ℕ)) (M N : List CodeMark) (x y n : ℕ) (t u : Ty ℕ) (p q : List ViewStep) → AffineTy D t → (o : OfferAt D (entries R M) x (Alike_wanted t) n) → slice_get R n ≡ Some (Has_atom y u) → entries S N ≡ remove (entries R M) n → S ≡ remove R n →
    Added D (S ++ Has_atom y u ∷ []) (plain_steps p) (plain_steps q) (S ++ Has_atom x t ∷ []) → Did true D (entries R M) (Has_atom x t) (entries S N) p q
taken_met D R S M N x y n t u p q f o g e s a =
    let old = Has_atom y u in
    let same : SameUpToOrder (S ++ old ∷ []) R = subst (λ l. SameUpToOrder (l ++ old ∷ []) R) (sym s) (turned_out R n old g) in (
      subst (λ l. Meets D (entries R M) (Has_atom x t) l) (sym e) (Alike_taken (entries R M) x t n o.entry f o.first),
      to_entries D R S (Has_atom x t ∷ []) M N (plain_steps p) (plain_steps q) (added_from D R (S ++ old ∷ []) (S ++ Has_atom x t ∷ []) (plain_steps p) (plain_steps q) same a),
    )

-- no other type is dynamic, and nothing exclusive is there
pub not_so : (D : Decls) (R : List Entry) (x : ℕ) (t : Ty ℕ) → NoneFits (Serves R x t) R → (t ≡ Unknown_type → ⊥) → ((d : ℕ) → t ≡ Named_type d → ⊥) → (t ≡ Dynamic_type → ⊥) → (T : List Entry) → Meets D R (Has_atom x t) T → ⊥
not_so D R x t none known other f T m = elim (shape D R (Has_atom x t) T m) [
  | By_unknown q s ↦ known q
  | By_kept k ↦ none k.some.place k.some.one k.some.stands k.some.fits
  | By_taken k ↦ none k.place k.entry k.first.stands k.first.fits
  | By_dynamic k ↦ f k.dynamic
  | By_fold k ↦ other k.number k.named
]

pub not_exclusive : (D : Decls) (R : List Entry) (x : ℕ) (t : Ty ℕ) → NoneFits (Serves R x t) R → (t ≡ Unknown_type → ⊥) → ((d : ℕ) → t ≡ Named_type d → ⊥) → NoneFits (Offers R x (ExclusiveTy D)) R → (T : List Entry) → Meets D R (Has_atom x t) T → ⊥
not_exclusive D R x t none known other lacking T m = elim (shape D R (Has_atom x t) T m) [
  | By_unknown q s ↦ known q
  | By_kept k ↦ none k.some.place k.some.one k.some.stands k.some.fits
  | By_taken k ↦ none k.place k.entry k.first.stands k.first.fits
  | By_dynamic k ↦ lacking k.some.place k.some.one k.some.stands k.some.fits
  | By_fold k ↦ other k.number k.named
]

-- what is exclusive may be adopted
pub dynamic_met : (D : Decls) (R S : List (Atom ℕ)) (M N : List CodeMark) (x y n : ℕ) (p q r s : List ViewStep) → (o : OfferAt D (entries R M) x Exclusive_wanted n) → NoneFits (Serves (entries R M) x Dynamic_type) (entries R M) → o.first.fits.name ≡ y →
    plain_steps q ≡ plain_steps p ++ Dynamic_step y ∷ [] → Added D (R ++ Has_atom y Dynamic_type ∷ []) (plain_steps q) (plain_steps r) (R ++ Has_atom x Dynamic_type ∷ []) → plain_steps s ≡ plain_steps r ++ Copy_step (Has_atom x Dynamic_type) ∷ [] → entries S N ≡ entries R M ++ unused (Has_atom x Dynamic_type) ∷ [] →
    Did true D (entries R M) (Has_atom x Dynamic_type) (entries S N) p s
dynamic_met D R S M N x y n p q r s o none is e a f more =
    let fits = o.first.fits in
    let old = Has_atom y Dynamic_type ∷ [] in
    let new = Has_atom x Dynamic_type ∷ [] in
    let E = entries R M in
    let held : In (Has_atom fits.name fits.ty) R = subst (λ l. In (Has_atom fits.name fits.ty) l) (atoms_entries R M) (subst (λ b. In b (atoms E)) fits.is (in_at E n o.entry o.first.stands)) in
    let first : Leads D R (Dynamic_step y ∷ []) (R ++ old) = leads_one D R (R ++ old) (Dynamic_step y) tt (record { exclusive = record { ty = fits.ty; held = subst (λ m. In (Has_atom m fits.ty) R) is held; exclusive = fits.fits }; new = refl }) in
    let again : Leads D (R ++ new) (Copy_step (Has_atom x Dynamic_type) ∷ []) ((R ++ new) ++ new) = leads_one D (R ++ new) ((R ++ new) ++ new) (Copy_step (Has_atom x Dynamic_type)) tt (record { held = in_end (Has_atom x Dynamic_type) R; duplicable = λ b. b; new = refl }) in
    let all : Added D R (plain_steps p) (plain_steps s) ((R ++ new) ++ new) =
    added_then D R (R ++ old) ((R ++ new) ++ new) (plain_steps p) (plain_steps q) (plain_steps s) (added_by D R (R ++ old) (plain_steps p) (plain_steps q) (Dynamic_step y ∷ []) e first) (added_then D (R ++ old) (R ++ new) ((R ++ new) ++ new) (plain_steps q) (plain_steps r) (plain_steps s) a (added_by D (R ++ new) ((R ++ new) ++ new) (plain_steps r) (plain_steps s) (Copy_step (Has_atom x Dynamic_type) ∷ []) f again)) in
    let is_more : atoms (entries S N) ≡ R ++ new = ap atoms more ∙ atoms_join E (unused (Has_atom x Dynamic_type) ∷ []) ∙ ap (λ l. l ++ new) (atoms_entries R M) in (
      subst (λ l. Meets D E (Has_atom x Dynamic_type) l) (sym more) (Dynamic_met E x none (record { place = n; one = o.entry; stands = o.first.stands; fits = o.first.fits })),
      subst (λ l. Added D l (plain_steps p) (plain_steps s) (atoms (entries S N) ++ new)) (sym (atoms_entries R M)) (subst (λ l. Added D R (plain_steps p) (plain_steps s) (l ++ new)) (sym is_more) all),
    )

pub added_ok : {E : Type 0} (o : Result (Unit {0}) E) (D : Decls) (R S T : List (Atom ℕ)) (p q r : List Step) → Added D R p q S → IfOk o (λ _. Added D S q r T) → IfOk o (λ _. Added D R p r T)
added_ok (Err e) D R S T p q r a b = tt
added_ok (Ok u) D R S T p q r a b = added_then D R S T p q r a b

pub kept_ok : {E : Type 0} (r : Result (Unit {0}) E) (D : Decls) (R : List (Atom ℕ)) (M : List CodeMark) (x y n : ℕ) (t u : Ty ℕ) (p q s : List ViewStep) → (t ≡ Unknown_type → ⊥) → (AffineTy D t → ⊥) → AreAlike R u t → (o : OfferAt D (entries R M) x (Alike_wanted t) n) → slice_get R n ≡ Some (Has_atom y u) →
    plain_steps q ≡ plain_steps p ++ Copy_step (Has_atom y u) ∷ [] → IfOk r (λ _. Added D (R ++ Has_atom y u ∷ []) (plain_steps q) (plain_steps s) (R ++ Has_atom x t ∷ [])) → IfOk r (λ _. Did true D (entries R M) (Has_atom x t) (entries R M) p s)
kept_ok (Err f) D R M x y n t u p q s known plain al o g e a = tt
kept_ok (Ok w) D R M x y n t u p q s known plain al o g e a = kept_met D R M x y n t u p q s known plain (λ b. plain (subst (λ (P : Type 0). P) (alike_affine D R u t al) b)) o g e a

pub taken_ok : {E : Type 0} (r : Result (Unit {0}) E) (D : Decls) (R S : List (Atom ℕ)) (M N : List CodeMark) (x y n : ℕ) (t u : Ty ℕ) (p q : List ViewStep) → AffineTy D t → (o : OfferAt D (entries R M) x (Alike_wanted t) n) → slice_get R n ≡ Some (Has_atom y u) → entries S N ≡ remove (entries R M) n → S ≡ remove R n →
    IfOk r (λ _. Added D (S ++ Has_atom y u ∷ []) (plain_steps p) (plain_steps q) (S ++ Has_atom x t ∷ [])) → IfOk r (λ _. Did true D (entries R M) (Has_atom x t) (entries S N) p q)
taken_ok (Err f) D R S M N x y n t u p q affine o g e s a = tt
taken_ok (Ok w) D R S M N x y n t u p q affine o g e s a = taken_met D R S M N x y n t u p q affine o g e s a

-- the subject found at the place is the offer's
pub is_subject : (R : List (Atom ℕ)) (M : List CodeMark) (x : ℕ) (P : Ty ℕ → Type 0) (n y : ℕ) (e : Entry) → slice_get (entries R M) n ≡ Some e → (o : Offers (entries R M) x P e) → ((a : Atom ℕ) → slice_get R n ≡ Some a → y ≡ subject_of a) → o.name ≡ y
is_subject R M x P n y e g o f = sym (f e.atom (at_entry R M n e g).0 ∙ ap subject_of o.is)

pub dynamic_ok : {E : Type 0} (v : Result (Unit {0}) E) (D : Decls) (R S : List (Atom ℕ)) (M N : List CodeMark) (x y n : ℕ) (p q r s : List ViewStep) → (o : OfferAt D (entries R M) x Exclusive_wanted n) → NoneFits (Serves (entries R M) x Dynamic_type) (entries R M) → o.first.fits.name ≡ y →
    plain_steps q ≡ plain_steps p ++ Dynamic_step y ∷ [] → Added D (R ++ Has_atom y Dynamic_type ∷ []) (plain_steps q) (plain_steps r) (R ++ Has_atom x Dynamic_type ∷ []) → plain_steps s ≡ plain_steps r ++ Copy_step (Has_atom x Dynamic_type) ∷ [] → IfOk v (λ _. entries S N ≡ entries R M ++ unused (Has_atom x Dynamic_type) ∷ []) →
    IfOk v (λ _. Did true D (entries R M) (Has_atom x Dynamic_type) (entries S N) p s)
dynamic_ok (Err f) D R S M N x y n p q r s o none is e a g more = tt
dynamic_ok (Ok w) D R S M N x y n p q r s o none is e a g more = dynamic_met D R S M N x y n p q r s o none is e a g more
