-- What comes of a thread suits it.
use Rattle.std.proofs.Common.{◌≡◌, ℕ, List, Option, Some, None, MatchOption, subst}
use Rattle.std.proofs.lemmas.Option.{slice_get_within}
use Rattle.mz_tree.specs.Programs.{Program}
use Rattle.mz_named.specs.Planning.{Comes, By_command, By_end}
use Rattle.mz_named.specs.Moving.{Suits}
use Rattle.mz_named.specs.declared.config.Cell.{Cell as CodeCell}
use Rattle.mz_named.specs.declared.config.Frame.{Frame as CodeFrame}
use Rattle.mz_named.specs.declared.config.Suspended.{Suspended as CodeSuspended}
use Rattle.mz_named.specs.declared.plan.Plan.{Plan}
use Rattle.mz_named.specs.declared.plan.Plan.TheVariants as plan

-- what holds of an option that is known
pub found : {A : Type 0} (o : Option A) (x : A) (N : Type 0) (S : A → Type 0) → MatchOption o N S → o ≡ Some x → S x
found None x N S m e = absurd (cc)
found (Some y) x N S m e = subst S (cc) m

module _ (p : Program) (cells cells' : List CodeCell) (prints prints' : List ℕ) (f : CodeFrame) (below : List CodeSuspended) where
  pub suits : (plan : Plan) → Comes p cells prints f below plan cells' prints' → Suits f below plan
  suits (plan.Goes values) (By_command command first plans) = slice_get_within f.rest.commands f.rest.next command first
  suits plan.FailsArith (By_command command first plans) = tt
  suits plan.FailsTake (By_command command first plans) = tt
  suits (plan.Branches to rest) (By_command command first plans) = slice_get_within f.rest.commands f.rest.next command first
  suits (plan.Calls to frame) (By_command command first plans) = slice_get_within f.rest.commands f.rest.next command first
  suits (plan.Spawns frame values) (By_command command first plans) = slice_get_within f.rest.commands f.rest.next command first
  suits (plan.Joins values) (By_command command first plans) = absurd plans
  suits (plan.Returns values) (By_command command first plans) = absurd plans
  suits plan.Ends (By_command command first plans) = absurd plans
  suits plan.Waits (By_command command first plans) = tt
  suits plan.Wrong (By_command command first plans) = tt
  suits (plan.Joins values) (By_end none j same_cells same_prints) = (j.before, j.level, j.last)
  suits (plan.Returns values) (By_end none r same_cells same_prints) = (r.before, r.waiting, r.last)
  suits plan.Ends (By_end none l same_cells same_prints) = tt
  suits (plan.Goes values) (By_end none l same_cells same_prints) = absurd l
  suits plan.FailsArith (By_end none l same_cells same_prints) = absurd l
  suits plan.FailsTake (By_end none l same_cells same_prints) = absurd l
  suits (plan.Branches to rest) (By_end none l same_cells same_prints) = absurd l
  suits (plan.Calls to frame) (By_end none l same_cells same_prints) = absurd l
  suits (plan.Spawns frame values) (By_end none l same_cells same_prints) = absurd l
  suits plan.Waits (By_end none l same_cells same_prints) = absurd l
  suits plan.Wrong (By_end none l same_cells same_prints) = absurd l
