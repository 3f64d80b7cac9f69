-- What the code of a thread asks of its callers.
use Rattle.std.specs.Prelude.{◌<◌, ℕ, ◌+◌, ◌==◌, leb, if◌then◌else◌, slice_get}
use Rattle.mz_words.specs.declared.asks.Ask.{Ask}
use Rattle.mz_words.specs.declared.asks.Ask.TheVariants.{Frames, Nothing}
use Rattle.mz_words.specs.declared.stages.Stage.{Stage}
use Rattle.mz_words.specs.declared.stages.Stage.TheVariants.{Making, Spawning, Taking, Ready, Border, Entering}
use Rattle.mz_words.specs.declared.ends.End.TheVariants as ending
use Rattle.mz_tree.specs.declared.types.Place.{Place}
use Rattle.mz_words.specs.Standing.{Standing}
use Rattle.mz_words.specs.Steps.{ask_found, unit_at, stop, gives}
use Rattle.mz_words.specs.declared.code.Act.{Act}
use Rattle.mz_words.specs.declared.code.Act.TheVariants.{Call}
use Rattle.mz_words.specs.declared.asks.Answer.{Answer}
use Rattle.mz_words.specs.declared.asks.Answer.TheVariants.{Quiet}
use Rattle.mz_words.specs.declared.code.Code.{Code}
use Rattle.mz_words.specs.declared.options.Options.{Options}

-- a frame is asked for, which the words don't answer
abbrev pub IsFrame : Ask → Type 0
IsFrame (Frames n) = Unit {0}
IsFrame _ = ⊥

-- counts that have room to rise
abbrev pub StageSmall : Stage → Type 0
StageSmall (Making base i) = i < 18446744073709551615
StageSmall (Spawning k i) = i < 18446744073709551615
StageSmall _ = Unit {0}

pub record Small (t : Standing) : Type 0 where
  pub units : t.units < 18446744073709551615
  pub lost : t.lost < 18446744073709551615
  pub stage : StageSmall t.stage

-- the number that a Spawn has drawn is a thread's
abbrev pub IsThreadNumber : Stage → Type 0
IsThreadNumber (Spawning k i) = k < 64
IsThreadNumber _ = Unit {0}

-- what is asked inside an instruction
abbrev pub ask_inner : Code → Options → Standing → Stage → Ask
ask_inner c o t (Making base i) = ask_found c o t (Making base i) (slice_get c.instrs t.at)
ask_inner c o t Taking = ask_found c o t Taking (slice_get c.instrs t.at)
ask_inner c o t (Spawning k i) = ask_found c o t (Spawning k i) (slice_get c.instrs t.at)
ask_inner c o t _ = Nothing

-- a block's base was drawn
abbrev pub drew : Options → Place → ℕ → ℕ → Standing → Standing
drew o place base words t = if leb (base + words) o.heap then unit_at (Making base 0) t else stop (ending.HeapFull place) (unit_at Ready t)

-- one of the words of a block was stored
abbrev pub stored_one : ℕ → ℕ → ℕ → ℕ → Standing → Standing
stored_one to base i words t = if i + 1 == words then gives to base (unit_at Ready t) else unit_at (Making base (i + 1)) t

-- inside an instruction
abbrev pub IsInside : Stage → Type 0
IsInside (Making base i) = Unit {0}
IsInside Taking = Unit {0}
IsInside (Spawning k i) = Unit {0}
IsInside _ = ⊥

abbrev pub IsAtInstr : Stage → Type 0
IsAtInstr Border = Unit {0}
IsAtInstr Ready = Unit {0}
IsAtInstr stage = IsInside stage

abbrev pub IsCall : Act → Type 0
IsCall (Call to callee args) = Unit {0}
IsCall _ = ⊥

-- a frame was made, or memory was refused
abbrev pub framed : Answer → Standing → Standing → Standing
framed Quiet next t = next
framed _ next t = stop ending.Memory t

-- the stages at which a frame is asked for
abbrev pub WantsFrame : Stage → Type 0
WantsFrame (Entering f arg) = Unit {0}
WantsFrame Ready = Unit {0}
WantsFrame _ = ⊥
