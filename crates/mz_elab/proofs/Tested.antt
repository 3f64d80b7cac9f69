-- A command that tests a number and goes on in one of two bodies.
use Rattle.std.proofs.Common.{◌≡◌, ℕ, List, [], ◌∷◌, Result, Err, refl, sym, subst}
use Rattle.mz_tree.specs.Plain.{Atom, Int_type, Has_atom}
use Rattle.mz_tree.specs.Code.{Body, Command, If_op, to_of, op_of, place_of, commands_in}
use Rattle.mz_tree.specs.View.{plain_atom}
use Rattle.mz_tree.specs.declared.types.Place.{Place}
use Rattle.mz_decl.specs.Declarations.{Decls}
use Rattle.mz_deriv.specs.Scripts.{Item}
use Rattle.mz_goal.specs.Needs.{Needs, FirstUnmet}
use Rattle.mz_elab.specs.Opening.{Opening, OpensIn, begin_with, giving_of}
use Rattle.mz_elab.specs.Joining.{MeetsGoals, plain_end}
use Rattle.mz_elab.specs.Lacking.{Lacks, LacksOp}
use Rattle.mz_elab.specs.Walking.{GoesOver, BodyOr, WalksTo, JoinsOr}
use Rattle.mz_elab.specs.declared.ends.End.{End as CodeEnd}
use Rattle.mz_elab.specs.declared.fault.ElabFault.{ElabFault}
use Rattle.mz_elab.specs.declared.fault.ElabFault.TheVariants.{NoPermission, Memory}
use Rattle.mz_elab.proofs.Forked.{lacks_here, lacks_inside, goes_joined, first_walked, first_lacks, next_lacks, one_walked, one_lacks, takes_none, takes_none_lacks}

module _ (D : Decls) (names : List ℕ) (R : List (Atom ℕ)) (n : ℕ) (c : Command) (y : ℕ) (one two : Body) (giving : List (Atom ℕ)) (is : op_of c ≡ If_op y one two giving) where
  -- the name isn't held as an integer
  pub test_lacks : (place : Place) (a : Atom ℕ) → (place ≡ place_of c) × FirstUnmet D R (Has_atom y Int_type ∷ []) a → (rest : List Command) → Lacks D names R n (c ∷ rest) place a
  test_lacks place a l rest = subst (λ p. Lacks D names R n (c ∷ rest) p a) (sym l.0) (lacks_here D names R n c a (subst (λ op. LacksOp D R op a) (sym is) l.1) rest)

  pub test_fault : (K : ℕ → Type 0) (goals T S : List (Atom ℕ)) (items more : List Item) (k : ℕ) (fault : ElabFault) → goals ≡ Has_atom y Int_type ∷ [] → MeetsGoals {A = Unit {0}} D K R goals (place_of c) T items more (Err fault) → GoesOver {A = Unit {0}} D names R n c S k (Err fault)
  test_fault K goals T S items more k (NoPermission place a) e l = test_lacks place (plain_atom a) (l.0, subst (λ g. FirstUnmet D R g (plain_atom a)) e l.1)
  test_fault K goals T S items more k Memory e l = record {}

  module _ (L : List (Atom ℕ)) (needs : Needs D R (Has_atom y Int_type ∷ []) L) where
    abbrev pub both : List Opening
    both = begin_with L one ∷ begin_with L two ∷ []

    opens : OpensIn D R (op_of c) both
    opens = subst (λ op. OpensIn D R op both) (sym is) (record { left = L; needs = needs; same = refl })

    pub first_body_lacks : (place : Place) (a : Atom ℕ) → Lacks D names L n (commands_in one) place a → (rest : List Command) → Lacks D names R n (c ∷ rest) place a
    first_body_lacks place a l = lacks_inside D names R n c both opens place a (first_lacks D names n (begin_with L one) (begin_with L two ∷ []) place a (takes_none_lacks D names L n (commands_in one) place a l))

    pub first_fault : (k j : ℕ) (S : List (Atom ℕ)) (fault : ElabFault) → BodyOr D names L n one k (Err fault) → GoesOver {A = Unit {0}} D names R n c S j (Err fault)
    first_fault k j S (NoPermission place a) l = first_body_lacks place (plain_atom a) l
    first_fault k j S Memory l = record {}

    module _ (k : ℕ) (e : CodeEnd) (w : WalksTo D names L n one k e) where
      pub second_body_lacks : (place : Place) (a : Atom ℕ) → Lacks D names L k (commands_in two) place a → (rest : List Command) → Lacks D names R n (c ∷ rest) place a
      second_body_lacks place a l = lacks_inside D names R n c both opens place a (next_lacks D names n (begin_with L one) (begin_with L two ∷ []) k e place a (takes_none D names L n one k e w)
          (one_lacks D names k (begin_with L two) place a (takes_none_lacks D names L k (commands_in two) place a l)))

      pub second_fault : (m j : ℕ) (S : List (Atom ℕ)) (fault : ElabFault) → BodyOr D names L k two m (Err fault) → GoesOver {A = Unit {0}} D names R n c S j (Err fault)
      second_fault m j S (NoPermission place a) l = second_body_lacks place (plain_atom a) l
      second_fault m j S Memory l = record {}

      pub test_joined : {A : Type 0} (m : ℕ) (f : CodeEnd) (J : List (Atom ℕ)) (result : Result A ElabFault) → WalksTo D names L k two m f → JoinsOr D names R (to_of c) giving (plain_end e ∷ plain_end f ∷ []) J result → GoesOver D names R n c J m result
      test_joined m f J result v j = goes_joined D names R n c both opens (plain_end e ∷ plain_end f ∷ []) m J result
          (first_walked D names n (begin_with L one) (begin_with L two ∷ []) k e (plain_end f ∷ []) m (takes_none D names L n one k e w) (one_walked D names k (begin_with L two) m f (takes_none D names L k two m f v)))
          (subst (λ op. JoinsOr D names R (to_of c) (giving_of op) (plain_end e ∷ plain_end f ∷ []) J result) (sym is) j)
