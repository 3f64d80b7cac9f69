-- How much a thread may still do before its turn has to end.
use Rattle.std.specs.Prelude.{◌+◌, ◌-◌, ◌*◌, ℕ, List, [], ◌∷◌}
use Rattle.mz_words.specs.declared.options.Options.{Options}
use Rattle.mz_words.specs.declared.stages.Stage.{Stage}
use Rattle.mz_words.specs.declared.stages.Stage.TheVariants.{Idle, IdleStop, IdleLive, LoadFun, LoadArg, Entering, Border, Closing, Over}
use Rattle.mz_words.specs.declared.stages.Waiting.{Waiting}
use Rattle.mz_words.specs.Standing.{Standing}

-- how many instructions are left in the frames of code with n instructions, four for each
abbrev pub weights : ℕ → List Waiting → ℕ
weights n [] = 0
weights n (w ∷ below) = (n - w.at) * 4 + 4 + weights n below

abbrev pub weight : ℕ → Standing → ℕ
weight n t = weights n t.below + (n - t.at) * 4

-- how near a stage is to the next instruction, or to the end
abbrev pub rank : ℕ → Stage → ℕ
rank n Idle = n * 4 + 20
rank n IdleStop = n * 4 + 19
rank n IdleLive = n * 4 + 18
rank n LoadFun = n * 4 + 12
rank n (LoadArg f) = n * 4 + 11
rank n (Entering f arg) = n * 4 + 10
rank n Border = 3
rank n (Closing e) = 1
rank n (Over e) = 0
rank n _ = 2

-- each unit is worth more than all that can be done without one
unfoldable pub turn_left : ℕ → Options → Standing → ℕ
turn_left n o t = (o.steps - t.units) * (o.steps * (n * 4 + 4) + n * 8 + 40) + (weight n t + rank n t.stage)
