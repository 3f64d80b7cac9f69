-- What a turn is asked, and what it keeps.
use Rattle.std.specs.Prelude.{◌≡◌, ◌<◌, ◌≤◌, ℕ, Option, Some, None, slice_get}
use Rattle.mz_words.specs.declared.code.Act.{Act}
use Rattle.mz_words.specs.declared.code.Act.TheVariants.{Branch, Jump}
use Rattle.mz_words.specs.declared.code.Instr.{Instr}
use Rattle.mz_words.specs.declared.code.Code.{Code}
use Rattle.mz_words.specs.declared.options.Options.{Options}
use Rattle.mz_words.specs.declared.stages.Stage.{Stage}
use Rattle.mz_words.specs.declared.stages.Stage.TheVariants.{Idle, IdleStop, IdleLive, LoadFun, LoadArg, Over}
use Rattle.mz_words.specs.Standing.{Standing}

-- a target stands behind the instruction that names it
abbrev pub IsForward : ℕ → Act → Type 0
IsForward at (Branch test zero) = at < zero
IsForward at (Jump target) = at < target
IsForward at _ = Unit {0}

abbrev pub IsForwardAt : ℕ → Option Instr → Type 0
IsForwardAt at None = Unit {0}
IsForwardAt at (Some i) = IsForward at i.act

-- of code in range, a turn needs this alone to come to its end
abbrev pub GoesForward : Code → Type 0
GoesForward c = (at : ℕ) → IsForwardAt at (slice_get c.instrs at)

-- thread k may make turns by this code on so many words. Of the limits of a run, a turn needs no others
pub record MayTurn (c : Code) (o : Options) (k words : ℕ) : Type 0 where
  pub forward : GoesForward c
  pub actor : k < 64
  pub steps : o.steps ≤ 1000000
  pub tries : 0 < o.tries
  pub few_tries : o.tries ≤ 4294967295
  pub size : words ≡ o.heap
  pub heap : 197 ≤ o.heap

-- the thread's count of failed tries is the words' own, and there is room for the entries that are left of its start, and for
-- the one that closes its record. Where it is over, there is nothing to keep
abbrev pub HeldAt : Stage → ℕ → ℕ → ℕ → Type 0
HeldAt Idle mine theirs spare = (mine ≡ theirs) × (4 ≤ spare)
HeldAt IdleStop mine theirs spare = (mine ≡ theirs) × (4 ≤ spare)
HeldAt IdleLive mine theirs spare = (mine ≡ theirs) × (4 ≤ spare)
HeldAt LoadFun mine theirs spare = (mine ≡ theirs) × (3 ≤ spare)
HeldAt (LoadArg f) mine theirs spare = (mine ≡ theirs) × (2 ≤ spare)
HeldAt (Over e) mine theirs spare = Unit {0}
HeldAt _ mine theirs spare = (mine ≡ theirs) × (1 ≤ spare)

unfoldable pub Held : Standing → ℕ → ℕ → Type 0
Held t theirs spare = HeldAt t.stage t.lost theirs spare

abbrev pub IsOver : Stage → Type 0
IsOver (Over e) = Unit {0}
IsOver _ = ⊥
