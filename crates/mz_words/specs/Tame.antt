-- When code is tame: whatever events come, no thread's next act is a fault, and no two threads race. No program is spoken of.
use Rattle.std.specs.Prelude.{◌≤◌, ℕ}
use Rattle.mz_words.specs.declared.code.Code.{Code}
use Rattle.mz_words.specs.declared.options.Options.{Options}
use Rattle.mz_words.specs.Raw.{Raw, Events, Opens}
use Rattle.mz_words.specs.Faults.{NoFault, NoRace}
use Rattle.mz_words.specs.InRange.{CodeInRange}

-- the most word steps and calls that one thread may be allowed
abbrev pub most_steps : ℕ
most_steps = 1000000

-- the state is one that some list of events on the code leads to, from the opening words
abbrev pub IsReached : Code → Options → Raw → Raw → Type 0
IsReached c o first s = Opens c first × Events c o first s

-- the code is in range, and whatever events come, no thread's next act is a fault and no two threads race
pub record Tame (c : Code) : Type 0 where
  pub in_range : CodeInRange c
  pub faultless : (o : Options) (first s : Raw) → o.steps ≤ most_steps → IsReached c o first s → NoFault c o s
  pub raceless : (o : Options) (first s : Raw) → o.steps ≤ most_steps → IsReached c o first s → NoRace c o s
