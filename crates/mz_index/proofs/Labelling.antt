-- That labels tell joined names.
use Rattle.std.proofs.Common.{◌≡◌, inl, inr, ℕ, ◌+◌, ◌<◌, List, [], ◌∷◌, ◌++◌, length, take, get_or, refl, sym, ap, ◌∙◌, subst}
use Rattle.std.proofs.lemmas.List.{take_more}
use Rattle.std.proofs.lemmas.Bool.Decides.{eqb_tells}
use Rattle.mz_tree.specs.Plain.{Ty, Atom, Has_atom, Same_atom}
use Rattle.mz_tree.specs.View.{plain_atom, plain_atoms}
use Rattle.mz_tree.specs.declared.types.Atom.{Atom as CodeAtom}
use Rattle.mz_perm.specs.Lists.{In}
use Rattle.mz_perm.proofs.Lists.{in_end, in_front, in_either}
use Rattle.mz_perm.specs.Joining.{Joined, Joined_itself, Joined_right, Joined_left, Joined_through}
use Rattle.mz_index.specs.Labels.{AreLabels, either_label, step, label}
use Rattle.mz_index.specs.declared.labels.Link.{Link}

-- a link more is followed last
label_end : (links : List Link) (link : Link) (n : ℕ) → label (links ++ link ∷ []) n ≡ step link (label links n)
label_end [] link n = refl
label_end (l ∷ links) link n = label_end links link (step l n)

-- more permissions join what fewer do, by going through how they join it
joined_more : (R l : List (Atom ℕ)) (x y : ℕ) → Joined R x y → Joined (R ++ l) x y
joined_more R l x y (Joined_itself _) = Joined_itself x
joined_more R l x y (Joined_right _ _ i) = Joined_right x y (in_front (Same_atom x y) R l i)
joined_more R l x y (Joined_left _ _ i) = Joined_left x y (in_front (Same_atom y x) R l i)
joined_more R l x y (Joined_through _ z _ p q) = Joined_through x z y (joined_more R l x z p) (joined_more R l z y q)

-- what is joined is joined from the other side, by going back the same way
joined_back : (R : List (Atom ℕ)) (x y : ℕ) → Joined R x y → Joined R y x
joined_back R x y (Joined_itself _) = Joined_itself x
joined_back R x y (Joined_right _ _ i) = Joined_left y x i
joined_back R x y (Joined_left _ _ i) = Joined_right y x i
joined_back R x y (Joined_through _ z _ p q) = Joined_through y z x (joined_back R z y q) (joined_back R x z p)

-- names are joined where no equation is missed: labels that are one for the sides of each equation are one for all
all_one : (R : List (Atom ℕ)) (f : ℕ → ℕ) → ((x y : ℕ) → In (Same_atom x y) R → f x ≡ f y) → (x y : ℕ) → Joined R x y → f x ≡ f y
all_one R f h x y (Joined_itself _) = refl
all_one R f h x y (Joined_right _ _ i) = h x y i
all_one R f h x y (Joined_left _ _ i) = sym (h y x i)
all_one R f h x y (Joined_through _ z _ p q) = all_one R f h x z p ∙ all_one R f h z y q

-- with no permission each name has its own label
pub none_joined : AreLabels [] []
none_joined x y = ((λ e. subst (λ z. Joined [] x z) e (Joined_itself x)), all_one [] (λ n. n) (λ a b i. absurd i) x y)

-- a type joins no names
same_only : (x y n : ℕ) (t : Ty ℕ) → Same_atom x y ≡ Has_atom n t → ⊥
same_only x y n t e = absurd (cc)

type_joins_none : (links : List Link) (R : List (Atom ℕ)) (n : ℕ) (t : Ty ℕ) → AreLabels links R → AreLabels links (R ++ Has_atom n t ∷ [])
type_joins_none links R n t h x y = (
  λ e. joined_more R (Has_atom n t ∷ []) x y ((h x y).0 e),
  all_one (R ++ Has_atom n t ∷ []) (label links) (λ a b i. elim (in_either (Same_atom a b) (Has_atom n t) R i) [
    | inl j ↦ (h a b).1 (Joined_right a b j)
    | inr e ↦ absurd (same_only a b n t e)
  ]) x y,
)

-- where a link leads from its own start, and from elsewhere
step_here : (link : Link) (n : ℕ) → n ≡ link.from → step link n ≡ link.to
step_here link n e = elim (eqb_tells n link.from) [
  | inl t ↦ ap (λ b. either_label b link.to n) t.0
  | inr t ↦ absurd (t.1 e)
]

step_away : (link : Link) (n : ℕ) → (n ≡ link.from → ⊥) → step link n ≡ n
step_away link n d = elim (eqb_tells n link.from) [
  | inl t ↦ absurd (d t.1)
  | inr t ↦ ap (λ b. either_label b link.to n) t.0
]

-- a link leaves where it leads to
step_end : (link : Link) → step link link.to ≡ link.to
step_end link = elim (eqb_tells link.to link.from) [
  | inl t ↦ ap (λ b. either_label b link.to link.to) t.0
  | inr t ↦ ap (λ b. either_label b link.to link.to) t.0
]

same_sides : (a b l r : ℕ) → Same_atom a b ≡ Same_atom l r → (a ≡ l) × (b ≡ r)
same_sides a b l r e = (cc, cc)

-- names that a link makes one are joined: they were, or the equation lies between them
joined_by_link : (links : List Link) (link : Link) (R : List (Atom ℕ)) (l r : ℕ) → link.from ≡ label links l → link.to ≡ label links r → AreLabels links R → (x y : ℕ) → step link (label links x) ≡ step link (label links y) → Joined (R ++ Same_atom l r ∷ []) x y
joined_by_link links link R l r f t h x y e =
    let more : (a b : ℕ) → label links a ≡ label links b → Joined (R ++ Same_atom l r ∷ []) a b = (λ a b p. joined_more R (Same_atom l r ∷ []) a b ((h a b).0 p)) in
    let over : Joined (R ++ Same_atom l r ∷ []) l r = Joined_right l r (in_end (Same_atom l r) R) in
    elim (eqb_tells (label links x) link.from) [
      | inl p ↦ (elim (eqb_tells (label links y) link.from) [
        | inl q ↦ more x y (p.1 ∙ sym q.1)
        | inr q ↦ Joined_through x l y (more x l (p.1 ∙ f)) (Joined_through l r y over (more r y (sym t ∙ sym (step_here link (label links x) p.1) ∙ e ∙ step_away link (label links y) q.1)))
      ])
      | inr p ↦ (elim (eqb_tells (label links y) link.from) [
        | inl q ↦ Joined_through x r y (more x r (sym (step_away link (label links x) p.1) ∙ e ∙ step_here link (label links y) q.1 ∙ t)) (Joined_through r l y (joined_back _ l r over) (more l y (sym f ∙ sym q.1)))
        | inr q ↦ more x y (sym (step_away link (label links x) p.1) ∙ e ∙ step_away link (label links y) q.1)
      ])
    ]

-- the sides of each equation have one label: the old ones had, and the link makes the new one's sides one
linked_sides : (links : List Link) (link : Link) (R : List (Atom ℕ)) (l r : ℕ) → link.from ≡ label links l → link.to ≡ label links r → AreLabels links R → (a b : ℕ) → In (Same_atom a b) (R ++ Same_atom l r ∷ []) → step link (label links a) ≡ step link (label links b)
linked_sides links link R l r f t h a b i = elim (in_either (Same_atom a b) (Same_atom l r) R i) [
  | inl j ↦ ap (step link) ((h a b).1 (Joined_right a b j))
  | inr e ↦ (let s = same_sides a b l r e in
      ap (λ n. step link (label links n)) s.0 ∙ step_here link (label links l) (sym f) ∙ sym (step_end link) ∙ ap (step link) t ∙ ap (λ n. step link (label links n)) (sym s.1))
]

-- a link from the label of the left name to the label of the right one does for an equation
equation_joins : (links : List Link) (link : Link) (R : List (Atom ℕ)) (l r : ℕ) → link.from ≡ label links l → link.to ≡ label links r → AreLabels links R → AreLabels (links ++ link ∷ []) (R ++ Same_atom l r ∷ [])
equation_joins links link R l r f t h x y = (
  λ e. joined_by_link links link R l r f t h x y (sym (label_end links link x) ∙ e ∙ label_end links link y),
  λ j. label_end links link x ∙ all_one (R ++ Same_atom l r ∷ []) (λ n. step link (label links n)) (linked_sides links link R l r f t h) x y j ∙ sym (label_end links link y),
)

plain_end : (xs : List CodeAtom) (a : CodeAtom) → plain_atoms (xs ++ a ∷ []) ≡ plain_atoms xs ++ plain_atom a ∷ []
plain_end [] a = refl
plain_end (x ∷ xs) a = ap (λ l. plain_atom x ∷ l) (plain_end xs a)

-- one permission more has been looked at
pub next_plain : (xs : List CodeAtom) (i : ℕ) (a b : CodeAtom) → i < length xs → a ≡ get_or xs i a → a ≡ b → plain_atoms (take (i + 1) xs) ≡ plain_atoms (take i xs) ++ plain_atom b ∷ []
next_plain xs i a b h e s = ap plain_atoms (take_more xs i a h ∙ ap (λ c. take i xs ++ c ∷ []) (sym e ∙ s)) ∙ plain_end (take i xs) b

-- labels stay right where a type is looked at, and where an equation is and its link is added
pub type_next : (links more : List Link) (R S : List (Atom ℕ)) (n : ℕ) (t : Ty ℕ) → more ≡ links → S ≡ R ++ Has_atom n t ∷ [] → AreLabels links R → AreLabels more S
type_next links more R S n t m s h = subst (λ k. AreLabels k S) (sym m) (subst (λ l. AreLabels links l) (sym s) (type_joins_none links R n t h))

pub equation_next : (links more : List Link) (link : Link) (R S : List (Atom ℕ)) (l r : ℕ) → more ≡ links ++ link ∷ [] → S ≡ R ++ Same_atom l r ∷ [] → link.from ≡ label links l → link.to ≡ label links r → AreLabels links R → AreLabels more S
equation_next links more link R S l r m s f t h = subst (λ k. AreLabels k S) (sym m) (subst (λ p. AreLabels (links ++ link ∷ []) p) (sym s) (equation_joins links link R l r f t h))
