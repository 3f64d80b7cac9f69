-- There is one first goal that can't be met.
use Rattle.std.proofs.Common.{◌≡◌, ◌⊎◌, inl, inr, ℕ, ◌+◌, List, [], ◌∷◌, ◌++◌, length, Some, slice_get, refl, sym, ap, ◌∙◌, subst}
use Rattle.mz_tree.specs.Plain.{Atom, Int_type, Locked_type, Named_type, Has_atom}
use Rattle.mz_tree.specs.Code.{Op, Command, Arith_op, Read_op, Write_op, Retag_op, If_op, Match_op, Call_op, Give_op, Take_op, New_lock_op, Acquire_op, Release_op, Spawn_op, Print_op, to_of, op_of, place_of, commands_in}
use Rattle.mz_tree.specs.Programs.{Con, Sig}
use Rattle.mz_tree.specs.declared.types.Place.{Place}
use Rattle.mz_decl.specs.Declarations.{Decls}
use Rattle.mz_decl.specs.Signatures.{needed, at_args}
use Rattle.mz_goal.specs.Needs.{FirstUnmet}
use Rattle.mz_goal.proofs.Unique.{need_same}
use Rattle.mz_elab.specs.Acting.{SignedWith, AdoptsSome, GuardsSome, Acts}
use Rattle.mz_elab.specs.Opening.{Opening, OpensIn, giving_of}
use Rattle.mz_elab.specs.Joins.{End, AllNeed, Gives, Joins}
use Rattle.mz_elab.specs.Guided.{Guided, GuidedAll}
use Rattle.mz_elab.specs.Lacking.{CantChange, NoneOf, NeedsOf, CantRelease, CantGive, CantTake, LacksOp, FirstLacks, GivesLack, Lacks, Lacks_here, Lacks_later, Lacks_inside, Lacks_given, Lacks_after, LacksIn, Lacks_first, Lacks_next}
use Rattle.mz_elab.proofs.Same.{function_same, adopter_same, lock_same, acts_same}
use Rattle.mz_elab.proofs.OneWay.{opens_same, no_acts, all_need_same, joins_same, guided_same, all_same_ends}
use Rattle.mz_elab.proofs.NotBoth.{acts_not, opens_not, gives_not, lacks_not, lacks_in_not}

some_is : {A : Type 0} (a b : A) → Some a ≡ Some b → a ≡ b
some_is a b e = cc

pub unmet_once : (D : Decls) (R p : List (Atom ℕ)) (a b : Atom ℕ) → FirstUnmet D R p a → FirstUnmet D R p b → a ≡ b
unmet_once D R [] a b f g = absurd f
unmet_once D R (x ∷ p) a b (inl f) (inl g) = f.1 ∙ sym g.1
unmet_once D R (x ∷ p) a b (inl f) (inr g) = absurd (f.0 g.0 g.1)
unmet_once D R (x ∷ p) a b (inr f) (inl g) = absurd (g.0 f.0 f.1)
unmet_once D R (x ∷ p) a b (inr f) (inr g) = unmet_once D f.0 p a b f.2 (subst (λ S. FirstUnmet D S p b) (need_same D R x g.0 f.0 g.1 f.1) g.2)

made_once : (D : Decls) (x con : ℕ) (a b : Atom ℕ) (m k : Con) → slice_get D.cons con ≡ Some m → slice_get D.cons con ≡ Some k → a ≡ Has_atom x (Named_type m.variety) → b ≡ Has_atom x (Named_type k.variety) → a ≡ b
made_once D x con a b m k p q e f = e ∙ ap (λ (z : Con). Has_atom x (Named_type z.variety)) (some_is m k (sym p ∙ q)) ∙ sym f

change_once : (D : Decls) (R : List (Atom ℕ)) (x con : ℕ) (a b : Atom ℕ) → CantChange D R x con a → CantChange D R x con b → a ≡ b
change_once D R x con a b (inl f) (inl g) = made_once D x con a b f.made g.made f.is_con g.is_con f.is g.is
change_once D R x con a b (inl f) (inr g) = made_once D x con a b f.made g.made f.is_con g.is_con f.is g.is
change_once D R x con a b (inr f) (inl g) = made_once D x con a b f.made g.made f.is_con g.is_con f.is g.is
change_once D R x con a b (inr f) (inr g) = made_once D x con a b f.made g.made f.is_con g.is_con f.is g.is

needs_once : (D : Decls) (R : List (Atom ℕ)) (g : ℕ) (ys : List ℕ) (a b : Atom ℕ) → NoneOf R g (SignedWith D (length ys)) a ⊎ NeedsOf D R g ys a → NoneOf R g (SignedWith D (length ys)) b ⊎ NeedsOf D R g ys b → a ≡ b
needs_once D R g ys a b (inl f) (inl h) = f.is ∙ sym h.is
needs_once D R g ys a b (inl f) (inr h) = absurd (f.none h.found.place h.found.one h.found.first.stands h.found.first.fits)
needs_once D R g ys a b (inr f) (inl h) = absurd (h.none f.found.place f.found.one f.found.first.stands f.found.first.fits)
needs_once D R g ys a b (inr f) (inr h) = unmet_once D R (at_args ys (needed h.sig.needs)) a b (subst (λ (z : Sig). FirstUnmet D R (at_args ys (needed z.needs)) a) (function_same D R g (length ys) f.sig h.sig f.found h.found) f.unmet) h.unmet

give_once : (D : Decls) (R : List (Atom ℕ)) (x y : ℕ) (a b : Atom ℕ) → NoneOf R y (AdoptsSome D) a ⊎ CantGive D R x y a → NoneOf R y (AdoptsSome D) b ⊎ CantGive D R x y b → a ≡ b
give_once D R x y a b (inl f) (inl h) = f.is ∙ sym h.is
give_once D R x y a b (inl f) (inr h) = absurd (f.none h.place h.found.found h.found.first.stands h.found.first.fits)
give_once D R x y a b (inr f) (inl h) = absurd (h.none f.place f.found.found f.found.first.stands f.found.first.fits)
give_once D R x y a b (inr f) (inr h) = f.is ∙ ap (λ u. Has_atom x (Named_type u)) (adopter_same D R y f.u h.u f.place h.place f.adopter h.adopter f.state h.state f.found h.found).clause ∙ sym h.is

take_once : (D : Decls) (R : List (Atom ℕ)) (x y : ℕ) (a b : Atom ℕ) → NoneOf R y (AdoptsSome D) a ⊎ CantTake D R x y a → NoneOf R y (AdoptsSome D) b ⊎ CantTake D R x y b → a ≡ b
take_once D R x y a b (inl f) (inl h) = f.is ∙ sym h.is
take_once D R x y a b (inl f) (inr h) = absurd (f.none h.place h.found.found h.found.first.stands h.found.first.fits)
take_once D R x y a b (inr f) (inl h) = absurd (h.none f.place f.found.found f.found.first.stands f.found.first.fits)
take_once D R x y a b (inr f) (inr h) = f.is ∙ sym h.is

release_once : (D : Decls) (R : List (Atom ℕ)) (l : ℕ) (a b : Atom ℕ) → NoneOf R l GuardsSome a ⊎ CantRelease D R l a → NoneOf R l GuardsSome b ⊎ CantRelease D R l b → a ≡ b
release_once D R l a b (inl f) (inl h) = f.is ∙ sym h.is
release_once D R l a b (inl f) (inr h) = absurd (f.none h.found.place h.found.one h.found.first.stands h.found.first.fits)
release_once D R l a b (inr f) (inl h) = absurd (h.none f.found.place f.found.one f.found.first.stands f.found.first.fits)
release_once D R l a b (inr f) (inr h) = unmet_once D R (h.guarded ++ Has_atom l Locked_type ∷ []) a b (subst (λ z. FirstUnmet D R (z ++ Has_atom l Locked_type ∷ []) a) (lock_same R l f.guarded h.guarded f.found h.found) f.unmet) h.unmet

op_once : (D : Decls) (R : List (Atom ℕ)) (op : Op) (a b : Atom ℕ) → LacksOp D R op a → LacksOp D R op b → a ≡ b
op_once D R (Arith_op o y z) a b f g = unmet_once D R (Has_atom y Int_type ∷ Has_atom z Int_type ∷ []) a b f g
op_once D R (Read_op x con field) a b f g = made_once D x con a b f.made g.made f.is_con g.is_con f.is g.is
op_once D R (Write_op x con field z) a b f g = change_once D R x con a b f g
op_once D R (Retag_op x old new) a b f g = change_once D R x old a b f g
op_once D R (If_op y one two giving) a b f g = unmet_once D R (Has_atom y Int_type ∷ []) a b f g
op_once D R (Match_op y d cases giving) a b f g = f.is ∙ sym g.is
op_once D R (Call_op c ys) a b f g = needs_once D R c ys a b f g
op_once D R (Spawn_op c y) a b f g = needs_once D R c (y ∷ []) a b f g
op_once D R (Give_op x y) a b f g = give_once D R x y a b f g
op_once D R (Take_op x y) a b f g = take_once D R x y a b f g
op_once D R (New_lock_op p) a b f g = unmet_once D R p a b f g
op_once D R (Acquire_op l) a b f g = f.is ∙ sym g.is
op_once D R (Release_op l) a b f g = release_once D R l a b f g
op_once D R (Print_op y) a b f g = unmet_once D R (Has_atom y Int_type ∷ []) a b f g
op_once D R op a b f g = absurd f

abbrev pub OnePoint : Place → Place → Atom ℕ → Atom ℕ → Type 0
OnePoint p q a b = (p ≡ q) × (a ≡ b)

first_once : (D : Decls) (c : ℕ) (g : Atom ℕ) (ends : List End) (p q : Place) (a b : Atom ℕ) → FirstLacks D c g ends p a → FirstLacks D c g ends q b → OnePoint p q a b
first_once D c g [] p q a b f h = absurd f
first_once D c g (e ∷ ends) p q a b (inl f) (inl h) = (f.1 ∙ sym h.1, f.2 ∙ sym h.2)
first_once D c g (e ∷ ends) p q a b (inl f) (inr h) = absurd (f.0 h.0 h.1)
first_once D c g (e ∷ ends) p q a b (inr f) (inl h) = absurd (h.0 f.0 f.1)
first_once D c g (e ∷ ends) p q a b (inr f) (inr h) = first_once D c g ends p q a b f.2 h.2

first_all : (D : Decls) (c : ℕ) (g : Atom ℕ) (ends after : List End) (p : Place) (a : Atom ℕ) → FirstLacks D c g ends p a → AllNeed D c g ends after → ⊥
first_all D c g [] after p a f n = f
first_all D c g (e ∷ ends) after p a (inl f) n = f.0 n.0 n.2
first_all D c g (e ∷ ends) after p a (inr f) n = first_all D c g ends n.1 p a f.2 n.3

gives_once : (D : Decls) (c : ℕ) (giving : List (Atom ℕ)) (ends : List End) (p q : Place) (a b : Atom ℕ) → GivesLack D c giving ends p a → GivesLack D c giving ends q b → OnePoint p q a b
gives_once D c [] ends p q a b f h = absurd f
gives_once D c (g ∷ giving) ends p q a b (inl f) (inl h) = first_once D c g ends p q a b f h
gives_once D c (g ∷ giving) ends p q a b (inl f) (inr h) = absurd (first_all D c g ends h.0 p a f h.1)
gives_once D c (g ∷ giving) ends p q a b (inr f) (inl h) = absurd (first_all D c g ends f.0 q b h f.1)
gives_once D c (g ∷ giving) ends p q a b (inr f) (inr h) = gives_once D c giving f.0 p q a b f.2 (subst (λ z. GivesLack D c giving z q b) (all_need_same D c g ends h.0 f.0 h.1 f.1) h.2)

-- seen from the commands
data LacksShape (D : Decls) (names : List ℕ) (R : List (Atom ℕ)) (n : ℕ) (c : Command) (rest : List Command) (p : Place) (a : Atom ℕ) : Type 0 where
  Here_shape : p ≡ place_of c → LacksOp D R (op_of c) a → LacksShape D names R n c rest p a
  Later_shape : (S : List (Atom ℕ)) (k : ℕ) → Acts D R n (to_of c) (op_of c) S k → Lacks D (to_of c ∷ names) S k rest p a → LacksShape D names R n c rest p a
  Inside_shape : (branches : List Opening) → OpensIn D R (op_of c) branches → LacksIn D names n branches p a → LacksShape D names R n c rest p a
  Given_shape : (branches : List Opening) (ends : List End) (k : ℕ) → OpensIn D R (op_of c) branches → GuidedAll D names n branches ends k → GivesLack D (to_of c) (giving_of (op_of c)) ends p a → LacksShape D names R n c rest p a
  After_shape : (branches : List Opening) (ends : List End) (k : ℕ) (J : List (Atom ℕ)) → OpensIn D R (op_of c) branches → GuidedAll D names n branches ends k → Joins D names R (to_of c) (giving_of (op_of c)) ends J → Lacks D (to_of c ∷ names) J k rest p a → LacksShape D names R n c rest p a

abbrev OfCommands : Decls → List ℕ → List (Atom ℕ) → ℕ → List Command → Place → Atom ℕ → Type 0
OfCommands D names R n [] p a = ⊥
OfCommands D names R n (c ∷ rest) p a = LacksShape D names R n c rest p a

lacks_shape : (D : Decls) (names : List ℕ) (R : List (Atom ℕ)) (n : ℕ) (commands : List Command) (p : Place) (a : Atom ℕ) → Lacks D names R n commands p a → OfCommands D names R n commands p a
lacks_shape D _ _ _ _ _ _ (Lacks_here names R n c rest a l) = Here_shape refl l
lacks_shape D _ _ _ _ _ _ (Lacks_later names R n c rest S k p a b l) = Later_shape S k b l
lacks_shape D _ _ _ _ _ _ (Lacks_inside names R n c rest branches p a o l) = Inside_shape branches o l
lacks_shape D _ _ _ _ _ _ (Lacks_given names R n c rest branches ends k p a o all l) = Given_shape branches ends k o all l
lacks_shape D _ _ _ _ _ _ (Lacks_after names R n c rest branches ends k J p a o all j l) = After_shape branches ends k J o all j l

abbrev OfBranches : Decls → List ℕ → ℕ → List Opening → Place → Atom ℕ → Type 0
OfBranches D names n [] p a = ⊥
OfBranches D names n (b ∷ branches) p a = Lacks D names (b.begins n) (n + b.takes) (commands_in b.body) p a ⊎ ((T : List (Atom ℕ)) × (k : ℕ) × Guided D names (b.begins n) (n + b.takes) (commands_in b.body) T k × LacksIn D names k branches p a)

branches_shape : (D : Decls) (names : List ℕ) (n : ℕ) (branches : List Opening) (p : Place) (a : Atom ℕ) → LacksIn D names n branches p a → OfBranches D names n branches p a
branches_shape D _ _ _ _ _ (Lacks_first names n b branches p a l) = inl l
branches_shape D _ _ _ _ _ (Lacks_next names n b branches T k p a g l) = inr (T, k, g, l)

mutual
  pub lacks_once : (D : Decls) (names : List ℕ) (R : List (Atom ℕ)) (n : ℕ) (commands : List Command) (p q : Place) (a b : Atom ℕ) → Lacks D names R n commands p a → Lacks D names R n commands q b → OnePoint p q a b
  lacks_once D _ _ _ _ _ q _ b (Lacks_here names R n c rest a l) h = elim (lacks_shape D names R n (c ∷ rest) q b h) [
    | Here_shape e m ↦ (sym e, op_once D R (op_of c) a b l m)
    | Later_shape S k x m ↦ absurd (acts_not D R n (to_of c) (op_of c) a S k l x)
    | Inside_shape bs o m ↦ absurd (opens_not D R (op_of c) a bs l o)
    | Given_shape bs ends k o all m ↦ absurd (opens_not D R (op_of c) a bs l o)
    | After_shape bs ends k J o all j m ↦ absurd (opens_not D R (op_of c) a bs l o)
  ]
  lacks_once D _ _ _ _ _ q _ b (Lacks_later names R n c rest S k p a x l) h = elim (lacks_shape D names R n (c ∷ rest) q b h) [
    | Here_shape e m ↦ absurd (acts_not D R n (to_of c) (op_of c) b S k m x)
    | Later_shape S2 k2 y m ↦ (let e = acts_same D R n (to_of c) (op_of c) S S2 k k2 x y in lacks_once D (to_of c ∷ names) S k rest p q a b l (subst (λ z. Lacks D (to_of c ∷ names) S z rest q b) (sym e.1) (subst (λ z. Lacks D (to_of c ∷ names) z k2 rest q b) (sym e.0) m)))
    | Inside_shape bs o m ↦ absurd (no_acts D R n (to_of c) (op_of c) S k bs x o)
    | Given_shape bs ends k2 o all m ↦ absurd (no_acts D R n (to_of c) (op_of c) S k bs x o)
    | After_shape bs ends k2 J o all j m ↦ absurd (no_acts D R n (to_of c) (op_of c) S k bs x o)
  ]
  lacks_once D _ _ _ _ _ q _ b (Lacks_inside names R n c rest branches p a o l) h = elim (lacks_shape D names R n (c ∷ rest) q b h) [
    | Here_shape e m ↦ absurd (opens_not D R (op_of c) b branches m o)
    | Later_shape S k x m ↦ absurd (no_acts D R n (to_of c) (op_of c) S k branches x o)
    | Inside_shape bs o2 m ↦ lacks_in_once D names n branches p q a b l (subst (λ z. LacksIn D names n z q b) (sym (opens_same D R (op_of c) branches bs o o2)) m)
    | Given_shape bs ends k o2 all m ↦ absurd (lacks_in_not D names n branches p a ends k l (subst (λ z. GuidedAll D names n z ends k) (sym (opens_same D R (op_of c) branches bs o o2)) all))
    | After_shape bs ends k J o2 all j m ↦ absurd (lacks_in_not D names n branches p a ends k l (subst (λ z. GuidedAll D names n z ends k) (sym (opens_same D R (op_of c) branches bs o o2)) all))
  ]
  lacks_once D _ _ _ _ _ q _ b (Lacks_given names R n c rest branches ends k p a o all l) h = elim (lacks_shape D names R n (c ∷ rest) q b h) [
    | Here_shape e m ↦ absurd (opens_not D R (op_of c) b branches m o)
    | Later_shape S k2 x m ↦ absurd (no_acts D R n (to_of c) (op_of c) S k2 branches x o)
    | Inside_shape bs o2 m ↦ absurd (lacks_in_not D names n branches q b ends k (subst (λ z. LacksIn D names n z q b) (sym (opens_same D R (op_of c) branches bs o o2)) m) all)
    | Given_shape bs ends2 k2 o2 all2 m ↦ (let e = all_same_ends D names n branches ends ends2 k k2 all (subst (λ z. GuidedAll D names n z ends2 k2) (sym (opens_same D R (op_of c) branches bs o o2)) all2) in gives_once D (to_of c) (giving_of (op_of c)) ends p q a b l (subst (λ z. GivesLack D (to_of c) (giving_of (op_of c)) z q b) (sym e.0) m))
    | After_shape bs ends2 k2 J o2 all2 j m ↦ (let e = all_same_ends D names n branches ends ends2 k k2 all (subst (λ z. GuidedAll D names n z ends2 k2) (sym (opens_same D R (op_of c) branches bs o o2)) all2) in absurd (gives_not D (to_of c) (giving_of (op_of c)) ends j.given p a l (subst (λ z. Gives D (to_of c) (giving_of (op_of c)) z j.given) (sym e.0) j.gives)))
  ]
  lacks_once D _ _ _ _ _ q _ b (Lacks_after names R n c rest branches ends k J p a o all j l) h = elim (lacks_shape D names R n (c ∷ rest) q b h) [
    | Here_shape e m ↦ absurd (opens_not D R (op_of c) b branches m o)
    | Later_shape S k2 x m ↦ absurd (no_acts D R n (to_of c) (op_of c) S k2 branches x o)
    | Inside_shape bs o2 m ↦ absurd (lacks_in_not D names n branches q b ends k (subst (λ z. LacksIn D names n z q b) (sym (opens_same D R (op_of c) branches bs o o2)) m) all)
    | Given_shape bs ends2 k2 o2 all2 m ↦ (let e = all_same_ends D names n branches ends ends2 k k2 all (subst (λ z. GuidedAll D names n z ends2 k2) (sym (opens_same D R (op_of c) branches bs o o2)) all2) in absurd (gives_not D (to_of c) (giving_of (op_of c)) ends j.given q b (subst (λ z. GivesLack D (to_of c) (giving_of (op_of c)) z q b) (sym e.0) m) j.gives))
    | After_shape bs ends2 k2 K o2 all2 j2 m ↦ (
        let e = all_same_ends D names n branches ends ends2 k k2 all (subst (λ z. GuidedAll D names n z ends2 k2) (sym (opens_same D R (op_of c) branches bs o o2)) all2) in
        let join : J ≡ K = joins_same D names R (to_of c) (giving_of (op_of c)) ends J K j (subst (λ z. Joins D names R (to_of c) (giving_of (op_of c)) z K) (sym e.0) j2) in
        lacks_once D (to_of c ∷ names) J k rest p q a b l (subst (λ z. Lacks D (to_of c ∷ names) J z rest q b) (sym e.1) (subst (λ z. Lacks D (to_of c ∷ names) z k2 rest q b) (sym join) m)))
  ]

  pub lacks_in_once : (D : Decls) (names : List ℕ) (n : ℕ) (branches : List Opening) (p q : Place) (a b : Atom ℕ) → LacksIn D names n branches p a → LacksIn D names n branches q b → OnePoint p q a b
  lacks_in_once D _ _ _ _ q _ b (Lacks_first names n c branches p a l) h = elim (branches_shape D names n (c ∷ branches) q b h) [
    | inl m ↦ lacks_once D names (c.begins n) (n + c.takes) (commands_in c.body) p q a b l m
    | inr m ↦ absurd (lacks_not D names (c.begins n) (n + c.takes) (commands_in c.body) p a m.0 m.1 l m.2)
  ]
  lacks_in_once D _ _ _ _ q _ b (Lacks_next names n c branches T k p a g l) h = elim (branches_shape D names n (c ∷ branches) q b h) [
    | inl m ↦ absurd (lacks_not D names (c.begins n) (n + c.takes) (commands_in c.body) q b T k m g)
    | inr m ↦ (let e = guided_same D names (c.begins n) (n + c.takes) (commands_in c.body) T m.0 k m.1 g m.2 in lacks_in_once D names k branches p q a b l (subst (λ z. LacksIn D names z branches q b) (sym e.1) m.3))
  ]
