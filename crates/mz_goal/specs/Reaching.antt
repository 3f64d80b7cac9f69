-- Names that are reached from one along equations, and the steps that say so.
use Rattle.std.specs.Prelude.{◌≡◌, ◌⊎◌, ◌+◌, ◌++◌, ◌∷◌, ◌&&◌, ◌==◌, ℕ, Bool, true, false, List, [], Option, Some, None, map}
use Rattle.std.specs.List.{list_any}
use Rattle.mz_tree.specs.Plain.{Atom, Has_atom, Same_atom}
use Rattle.mz_decl.specs.Declarations.{Decls}
use Rattle.mz_perm.specs.Lists.{In}
use Rattle.mz_view.specs.Steps.{Step, Drop_step, Rename_step, Equal_step, plain_steps}
use Rattle.mz_view.specs.declared.step.ViewStep.{ViewStep}
use Rattle.mz_goal.specs.Added.{Added}

-- whether the name is one of these
abbrev pub has : List ℕ → ℕ → Bool
has names n = list_any (λ m. m == n) names

-- x equals each of these
abbrev pub equal_to : ℕ → List ℕ → List (Atom ℕ)
equal_to x names = map (λ n. Same_atom x n) names

-- both sides of the equation are among the names, or neither is
abbrev pub IsLevel : Atom ℕ → List ℕ → Type 0
IsLevel (Has_atom x t) names = Unit {0}
IsLevel (Same_atom l r) names = has names l ≡ has names r

-- the equation joins this name, which isn't among the others, to one of them
abbrev pub JoinsOne : Atom ℕ → List ℕ → ℕ → Type 0
JoinsOne (Has_atom x t) names m = ⊥
JoinsOne (Same_atom l r) names m = ((has names l ≡ true) × (has names r ≡ false) × (m ≡ r)) ⊎ ((has names l ≡ false) × (has names r ≡ true) × (m ≡ l))

-- where the equation is held and x equals each of these, the steps that were added say that x equals this name too
abbrev pub SaysEqual : Atom ℕ → ℕ → List ℕ → ℕ → List ViewStep → List ViewStep → Type 0
SaysEqual a x names m p q = (D : Decls) (Q : List (Atom ℕ)) → In a Q → ((n : ℕ) → has names n ≡ true → In (Same_atom x n) Q) → Added D Q (plain_steps p) (plain_steps q) (Q ++ Same_atom x m ∷ [])

-- from `x = l` over the equation `l = r` to `x = r`, and from `x = r` to `x = l`
abbrev pub over_steps : ℕ → ℕ → ℕ → List Step
over_steps x l r = Equal_step x l ∷ Rename_step (Same_atom l r) x ∷ Drop_step (Same_atom l x) ∷ []

abbrev pub back_steps : ℕ → ℕ → ℕ → List Step
back_steps x l r = Equal_step l r ∷ (over_steps x r l ++ Drop_step (Same_atom r l) ∷ [])

-- all of these are dropped
abbrev pub drop_steps : List (Atom ℕ) → List Step
drop_steps p = map (λ a. Drop_step a) p

-- where `l = r` is held, and l is x or `x = l` is held, the steps that were added say that x equals r
abbrev pub Follows : ℕ → ℕ → ℕ → List Step → List Step → Type 0
Follows x l r p q = (D : Decls) (Q : List (Atom ℕ)) → In (Same_atom l r) Q → (l ≡ x) ⊎ In (Same_atom x l) Q → Added D Q p q (Q ++ Same_atom x r ∷ [])

-- and back: where r is x or `x = r` is held, that x equals l
abbrev pub FollowsBack : ℕ → ℕ → ℕ → List Step → List Step → Type 0
FollowsBack x l r p q = (D : Decls) (Q : List (Atom ℕ)) → In (Same_atom l r) Q → (r ≡ x) ⊎ In (Same_atom x r) Q → Added D Q p q (Q ++ Same_atom x l ∷ [])

-- one name more is reached from x over one equation; or none is
abbrev pub Reaches : Option ℕ → Atom ℕ → ℕ → List ℕ → List ViewStep → List ViewStep → Type 0
Reaches (Some m) a x names p q = JoinsOne a (x ∷ names) m × SaysEqual a x names m p q
Reaches None a x names p q = IsLevel a (x ∷ names) × (q ≡ p)

-- and over one of several
pub record ReachesBy (R : List (Atom ℕ)) (x : ℕ) (names : List ℕ) (m : ℕ) (p q : List ViewStep) : Type 0 where
  pub equation : Atom ℕ
  pub held : In equation R
  pub joins : JoinsOne equation (x ∷ names) m
  pub steps : SaysEqual equation x names m p q

abbrev pub ReachesOne : Option ℕ → List (Atom ℕ) → ℕ → List ℕ → List ViewStep → List ViewStep → Type 0
ReachesOne (Some m) R x names p q = ReachesBy R x names m p q
ReachesOne None R x names p q = (l r : ℕ) → In (Same_atom l r) R → has (x ∷ names) l ≡ has (x ∷ names) r

-- the equations that aren't inside
abbrev pub one_outside : Bool → ℕ
one_outside true = 0
one_outside false = 1

abbrev pub ends_outside : Atom ℕ → List ℕ → ℕ
ends_outside (Has_atom x t) names = 0
ends_outside (Same_atom l r) names = one_outside (has names l && has names r)

abbrev pub outside : List (Atom ℕ) → List ℕ → ℕ
outside [] names = 0
outside (a ∷ R) names = ends_outside a names + outside R names
