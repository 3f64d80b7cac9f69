-- What is guided lacks nothing.
use Rattle.std.proofs.Common.{◌≡◌, ◌⊎◌, inl, inr, ℕ, ◌+◌, List, [], ◌∷◌, ◌++◌, length, Option, Some, sym, ◌∙◌, subst}
use Rattle.mz_tree.specs.Plain.{Ty, Atom, Int_type, Dynamic_type, Locked_type, Named_type, Has_atom}
use Rattle.mz_tree.specs.Code.{Op, Command, Arith_op, Read_op, Write_op, Retag_op, If_op, Match_op, Call_op, Give_op, Take_op, New_lock_op, Acquire_op, Release_op, Spawn_op, Print_op, to_of, op_of, commands_in}
use Rattle.mz_tree.specs.Programs.{Con, Sig}
use Rattle.mz_tree.specs.declared.types.Place.{Place}
use Rattle.mz_decl.specs.Declarations.{Decls, only_of}
use Rattle.mz_decl.specs.Signatures.{needed, at_args}
use Rattle.mz_index.specs.Finding.{IsFirst, InClass}
use Rattle.mz_goal.specs.Needs.{Need, NeedBeside, Needs, FirstUnmet}
use Rattle.mz_goal.proofs.Unique.{need_same}
use Rattle.mz_elab.specs.Acting.{FindsBlock, Changing, SignedWith, FindsFunction, AdoptsSome, Giving, Taking, GuardsSome, Releasing, Acts}
use Rattle.mz_elab.specs.Opening.{Opening, OpensIn, giving_of}
use Rattle.mz_elab.specs.Joins.{End, AllNeed, Gives, Joins}
use Rattle.mz_elab.specs.Guided.{Guided, GuidedAll}
use Rattle.mz_elab.specs.Lacking.{NoBlock, CantChange, NoneOf, NeedsOf, CantRelease, CantGive, CantTake, LacksOp, FirstLacks, GivesLack, Lacks, Lacks_here, Lacks_later, Lacks_inside, Lacks_given, Lacks_after, LacksIn, Lacks_first, Lacks_next}
use Rattle.mz_elab.proofs.Same.{function_same, adopter_same, lock_same, acts_same}
use Rattle.mz_elab.proofs.OneWay.{opens_same, no_acts, all_need_same, joins_same, By_rule, In_branches, body_shape, branches_shape, guided_same, all_same_ends}

some_is : {A : Type 0} (a b : A) → Some a ≡ Some b → a ≡ b
some_is a b e = cc

pub unmet_not : (D : Decls) (R p : List (Atom ℕ)) (a : Atom ℕ) (T : List (Atom ℕ)) → FirstUnmet D R p a → Needs D R p T → ⊥
unmet_not D R [] a T f n = f
unmet_not D R (g ∷ p) a T (inl f) n = f.0 n.0 n.1
unmet_not D R (g ∷ p) a T (inr f) n = unmet_not D f.0 p a T f.2 (subst (λ S. Needs D S p T) (need_same D R g n.0 f.0 n.1 f.1) n.2)

block_not : (D : Decls) (R : List (Atom ℕ)) (x con n : ℕ) (S : List (Atom ℕ)) (m place y : ℕ) (ys : List ℕ) (c : Option ℕ) (a : Atom ℕ) → NoBlock D R x con a → FindsBlock D R x con n S m place y ys c → ⊥
block_not D R x con n S m place y ys c a b (inl f) = b.no_block place _ f.first.stands f.first.fits
block_not D R x con n S m place y ys c a b (inr f) =
    let made : f.made ≡ b.made = some_is f.made b.made (sym f.is_con ∙ b.is_con) in
    let none = b.no_data (subst (λ (z : Con). only_of D z.variety ≡ Some con) made f.only) in
    let first = subst (λ (z : Con). IsFirst (InClass R x (λ t. t ≡ Named_type z.variety)) R f.at (Has_atom y (Named_type z.variety))) made f.first in
    none f.at _ first.stands first.fits

change_not : (D : Decls) (R : List (Atom ℕ)) (n c x con : ℕ) (becomes : List ℕ → Option ℕ → Ty ℕ → Type 0) (T : List (Atom ℕ)) (m : ℕ) (a : Atom ℕ) → CantChange D R x con a → Changing D R n c x con becomes T m → ⊥
change_not D R n c x con becomes T m a (inl b) w = block_not D R x con n w.state m w.place w.name w.names w.clause a b w.found
change_not D R n c x con becomes T m a (inr b) w = b.immutable w.mutable

needs_not : (D : Decls) (R : List (Atom ℕ)) (g : ℕ) (ys : List ℕ) (a : Atom ℕ) (sig : Sig) (T : List (Atom ℕ)) → NoneOf R g (SignedWith D (length ys)) a ⊎ NeedsOf D R g ys a → FindsFunction D R g (length ys) sig → Needs D R (at_args ys (needed sig.needs)) T → ⊥
needs_not D R g ys a sig T (inl f) w n = f.none w.place w.one w.first.stands w.first.fits
needs_not D R g ys a sig T (inr f) w n = unmet_not D R (at_args ys (needed f.sig.needs)) a T f.unmet (subst (λ (z : Sig). Needs D R (at_args ys (needed z.needs)) T) (function_same D R g (length ys) sig f.sig w f.found) n)

give_not : (D : Decls) (R : List (Atom ℕ)) (c x y : ℕ) (a : Atom ℕ) (T : List (Atom ℕ)) → NoneOf R y (AdoptsSome D) a ⊎ CantGive D R x y a → Giving D R c x y T → ⊥
give_not D R c x y a T (inl f) w = f.none w.place w.found.found w.found.first.stands w.found.first.fits
give_not D R c x y a T (inr f) w =
    let s = adopter_same D R y w.u f.u w.place f.place w.adopter f.adopter w.state f.state w.found f.found in
    f.unmet w.left (subst (λ z. NeedBeside D f.state f.place f.adopter (Has_atom x (Named_type z)) w.left) s.clause (subst (λ z. NeedBeside D f.state f.place z (Has_atom x (Named_type w.u)) w.left) s.adopter (subst (λ z. NeedBeside D f.state z w.adopter (Has_atom x (Named_type w.u)) w.left) s.at (subst (λ z. NeedBeside D z w.place w.adopter (Has_atom x (Named_type w.u)) w.left) s.state w.need))))

take_not : (D : Decls) (R : List (Atom ℕ)) (c x y : ℕ) (a : Atom ℕ) (T : List (Atom ℕ)) → NoneOf R y (AdoptsSome D) a ⊎ CantTake D R x y a → Taking D R c x y T → ⊥
take_not D R c x y a T (inl f) w = f.none w.place w.found.found w.found.first.stands w.found.first.fits
take_not D R c x y a T (inr f) w =
    let s = adopter_same D R y w.u f.u w.place f.place w.adopter f.adopter w.state f.state w.found f.found in
    f.unmet w.left (subst (λ z. Need D z (Has_atom x Dynamic_type) w.left) s.state w.need)

release_not : (D : Decls) (R : List (Atom ℕ)) (c l : ℕ) (a : Atom ℕ) (T : List (Atom ℕ)) → NoneOf R l GuardsSome a ⊎ CantRelease D R l a → Releasing D R c l T → ⊥
release_not D R c l a T (inl f) w = f.none w.found.place w.found.one w.found.first.stands w.found.first.fits
release_not D R c l a T (inr f) w =
    unmet_not D R (f.guarded ++ Has_atom l Locked_type ∷ []) a w.meets.left f.unmet (subst (λ z. Needs D R (z ++ Has_atom l Locked_type ∷ []) w.meets.left) (lock_same R l w.guarded f.guarded w.found f.found) w.meets.needs)

pub acts_not : (D : Decls) (R : List (Atom ℕ)) (n c : ℕ) (op : Op) (a : Atom ℕ) (T : List (Atom ℕ)) (m : ℕ) → LacksOp D R op a → Acts D R n c op T m → ⊥
acts_not D R n c (Arith_op o y z) a T m l w = unmet_not D R (Has_atom y Int_type ∷ Has_atom z Int_type ∷ []) a w.0.left l w.0.needs
acts_not D R n c (Read_op x con field) a T m l w = block_not D R x con n w.state m w.place w.name w.names w.clause a l w.found
acts_not D R n c (Write_op x con field z) a T m l w = change_not D R n c x con _ T m a l w
acts_not D R n c (Retag_op x old new) a T m l w = change_not D R n c x old _ T m a l w
acts_not D R n c (Call_op g ys) a T m l w = needs_not D R g ys a w.0.sig w.0.left l w.0.found w.0.needs
acts_not D R n c (Spawn_op g y) a T m l w = needs_not D R g (y ∷ []) a w.0.sig w.0.left l w.0.found w.0.needs
acts_not D R n c (Give_op x y) a T m l w = give_not D R c x y a T l w.0
acts_not D R n c (Take_op x y) a T m l w = take_not D R c x y a T l w.0
acts_not D R n c (New_lock_op p) a T m l w = unmet_not D R p a w.0.left l w.0.needs
acts_not D R n c (Acquire_op k) a T m l w = l.none w.0.found.place w.0.found.one w.0.found.first.stands w.0.found.first.fits
acts_not D R n c (Release_op k) a T m l w = release_not D R c k a T l w.0
acts_not D R n c (Print_op y) a T m l w = unmet_not D R (Has_atom y Int_type ∷ []) a w.0.left l w.0.needs
acts_not D R n c (If_op y one two giving) a T m l w = w
acts_not D R n c (Match_op y d cases giving) a T m l w = w
acts_not D R n c op a T m l w = l

pub opens_not : (D : Decls) (R : List (Atom ℕ)) (op : Op) (a : Atom ℕ) (b : List Opening) → LacksOp D R op a → OpensIn D R op b → ⊥
opens_not D R (If_op y one two giving) a b l w = unmet_not D R (Has_atom y Int_type ∷ []) a w.left l w.needs
opens_not D R (Match_op y d cases giving) a b l (inl w) = l.no_block w.place w.one w.first.stands w.first.fits
opens_not D R (Match_op y d cases giving) a b l (inr w) = l.no_data w.place w.one w.first.stands w.first.fits
opens_not D R op a b l w = w

pub first_not : (D : Decls) (c : ℕ) (g : Atom ℕ) (ends after : List End) (place : Place) (a : Atom ℕ) → FirstLacks D c g ends place a → AllNeed D c g ends after → ⊥
first_not D c g [] after place a l n = l
first_not D c g (e ∷ ends) after place a (inl l) n = l.0 n.0 n.2
first_not D c g (e ∷ ends) after place a (inr l) n = first_not D c g ends n.1 place a l.2 n.3

pub gives_not : (D : Decls) (c : ℕ) (giving : List (Atom ℕ)) (ends after : List End) (place : Place) (a : Atom ℕ) → GivesLack D c giving ends place a → Gives D c giving ends after → ⊥
gives_not D c [] ends after place a l g = l
gives_not D c (b ∷ giving) ends after place a (inl l) g = first_not D c b ends g.0 place a l g.1
gives_not D c (b ∷ giving) ends after place a (inr l) g = gives_not D c giving l.0 after place a l.2 (subst (λ z. Gives D c giving z after) (all_need_same D c b ends g.0 l.0 g.1 l.1) g.2)

mutual
  pub lacks_not : (D : Decls) (names : List ℕ) (R : List (Atom ℕ)) (n : ℕ) (commands : List Command) (place : Place) (a : Atom ℕ) (T : List (Atom ℕ)) (m : ℕ) → Lacks D names R n commands place a → Guided D names R n commands T m → ⊥
  lacks_not D _ _ _ _ _ _ T m (Lacks_here names R n c rest a l) g = elim (body_shape D names R n (c ∷ rest) T m g) [
    | By_rule S k b i ↦ acts_not D R n (to_of c) (op_of c) a S k l b
    | In_branches branches ends k J o all q i ↦ opens_not D R (op_of c) a branches l o
  ]
  lacks_not D _ _ _ _ _ _ T m (Lacks_later names R n c rest S k place a b l) g = elim (body_shape D names R n (c ∷ rest) T m g) [
    | By_rule S2 k2 b2 i ↦ (let e = acts_same D R n (to_of c) (op_of c) S S2 k k2 b b2 in lacks_not D (to_of c ∷ names) S k rest place a T m l (subst (λ z. Guided D (to_of c ∷ names) S z rest T m) (sym e.1) (subst (λ z. Guided D (to_of c ∷ names) z k2 rest T m) (sym e.0) i)))
    | In_branches branches ends k2 J o all q i ↦ no_acts D R n (to_of c) (op_of c) S k branches b o
  ]
  lacks_not D _ _ _ _ _ _ T m (Lacks_inside names R n c rest branches place a o l) g = elim (body_shape D names R n (c ∷ rest) T m g) [
    | By_rule S2 k2 b2 i ↦ no_acts D R n (to_of c) (op_of c) S2 k2 branches b2 o
    | In_branches branches2 ends k J o2 all q i ↦ lacks_in_not D names n branches place a ends k l (subst (λ z. GuidedAll D names n z ends k) (sym (opens_same D R (op_of c) branches branches2 o o2)) all)
  ]
  lacks_not D _ _ _ _ _ _ T m (Lacks_given names R n c rest branches ends k place a o all l) g = elim (body_shape D names R n (c ∷ rest) T m g) [
    | By_rule S2 k2 b2 i ↦ no_acts D R n (to_of c) (op_of c) S2 k2 branches b2 o
    | In_branches branches2 ends2 k2 J o2 all2 q i ↦ (
        let b = opens_same D R (op_of c) branches branches2 o o2 in
        let e = all_same_ends D names n branches ends ends2 k k2 all (subst (λ z. GuidedAll D names n z ends2 k2) (sym b) all2) in
        gives_not D (to_of c) (giving_of (op_of c)) ends q.given place a l (subst (λ z. Gives D (to_of c) (giving_of (op_of c)) z q.given) (sym e.0) q.gives))
  ]
  lacks_not D _ _ _ _ _ _ T m (Lacks_after names R n c rest branches ends k J place a o all q l) g = elim (body_shape D names R n (c ∷ rest) T m g) [
    | By_rule S2 k2 b2 i ↦ no_acts D R n (to_of c) (op_of c) S2 k2 branches b2 o
    | In_branches branches2 ends2 k2 K o2 all2 q2 i ↦ (
        let b = opens_same D R (op_of c) branches branches2 o o2 in
        let e = all_same_ends D names n branches ends ends2 k k2 all (subst (λ z. GuidedAll D names n z ends2 k2) (sym b) all2) in
        let join : J ≡ K = joins_same D names R (to_of c) (giving_of (op_of c)) ends J K q (subst (λ z. Joins D names R (to_of c) (giving_of (op_of c)) z K) (sym e.0) q2) in
        lacks_not D (to_of c ∷ names) J k rest place a T m l (subst (λ z. Guided D (to_of c ∷ names) J z rest T m) (sym e.1) (subst (λ z. Guided D (to_of c ∷ names) z k2 rest T m) (sym join) i)))
  ]

  pub lacks_in_not : (D : Decls) (names : List ℕ) (n : ℕ) (branches : List Opening) (place : Place) (a : Atom ℕ) (ends : List End) (m : ℕ) → LacksIn D names n branches place a → GuidedAll D names n branches ends m → ⊥
  lacks_in_not D _ _ _ _ _ ends m (Lacks_first names n b branches place a l) g =
      let s = branches_shape D names n (b ∷ branches) ends m g in
      lacks_not D names (b.begins n) (n + b.takes) (commands_in b.body) place a s.0 s.1 l s.3
  lacks_in_not D _ _ _ _ _ ends m (Lacks_next names n b branches T k place a i l) g =
      let s = branches_shape D names n (b ∷ branches) ends m g in
      let e = guided_same D names (b.begins n) (n + b.takes) (commands_in b.body) T s.0 k s.1 i s.3 in
      lacks_in_not D names k branches place a s.2 m l (subst (λ z. GuidedAll D names z branches s.2 m) (sym e.1) s.4)
