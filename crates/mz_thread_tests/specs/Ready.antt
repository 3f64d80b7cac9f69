-- A thread that may make a turn on plain words.
use Rattle.std.specs.Prelude.{◌≡◌, length}
use Rattle.mz_words.specs.declared.code.Code.{Code}
use Rattle.mz_words.specs.declared.options.Options.{Options}
use Rattle.mz_words.specs.declared.plain.PlainWords.{PlainWords}
use Rattle.mz_words.specs.Plain.{view_of}
use Rattle.mz_words.specs.Replays.{Follows}
use Rattle.mz_thread.specs.declared.thread.Thread.{Thread}
use Rattle.mz_thread.specs.Keeping.{MayTurn, Held}
use Rattle.mz_thread.specs.Noted.{IsNoted}

-- all that a turn asks, of thread 0
pub record IsReady (c : Code) (o : Options) (t : Thread) (w : PlainWords) : Type 0 where
  pub zero : t.actor ≡ 0
  pub own : t.actor ≡ (view_of w).actor
  pub may : MayTurn c o t.actor (view_of w).size
  pub follows : Follows c o t.actor (view_of w).part t.machine
  pub held : Held t.machine (view_of w).lost (view_of w).spare
  pub noted : IsNoted c t.machine (view_of w).note (length (view_of w).part)

-- all that an actor sees has stayed but the words
abbrev pub KeepsView : PlainWords → PlainWords → Type 0
KeepsView w v = view_of v ≡ record (view_of w) { told = (view_of v).told }
