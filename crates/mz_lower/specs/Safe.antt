-- When the code of a program is safe.
use Rattle.std.specs.Prelude.{◌≤◌}
use Rattle.mz_tree.specs.Programs.{Program}
use Rattle.mz_words.specs.declared.code.Code.{Code}
use Rattle.mz_words.specs.declared.options.Options.{Options}
use Rattle.mz_words.specs.Raw.{Raw, Events, Opens}
use Rattle.mz_words.specs.Tame.{most_steps, Tame}
use Rattle.mz_named.specs.Machine.{Config, IsOpening}
use Rattle.mz_lower.specs.Laws.{StandsSafely}

-- the code is tame, the program has an opening, and whatever events come, the state that they lead to stands for where the named run
-- of just the steps that they gave has come to, from that opening
pub record Safe (p : Program) (c : Code) : Type 0 where
  pub tame : Tame c
  pub start : Config
  pub opens : IsOpening p start
  pub stands : (o : Options) (first s : Raw) → o.steps ≤ most_steps → Opens c first → (events : Events c o first s) → StandsSafely p c o first start s events
