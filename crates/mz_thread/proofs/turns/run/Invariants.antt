use Rattle.std.proofs.Common.{◌≡◌, length, false}
use Rattle.mz_words.specs.Turns.{Leads}
use Rattle.mz_words.specs.Replays.{Follows}
use Rattle.mz_thread.specs.Keeping.{Held, MayTurn}
use Rattle.mz_thread.specs.Inside.{Inside}
use Rattle.mz_thread.specs.Measure.{turn_left}
use Rattle.mz_thread.specs.Noted.{IsNoted}
use Rattle.mz_thread.proofs.turns.run.Given as goal

abbrev pub invariant-events : goal.invariant-events
invariant-events g l = record {
  follows : Follows l.code l.options l.actor (g.W.Words.sees l.words).part l.machine;
  leads : Leads l.code l.options l.actor l.from (g.W.Words.sees l.fn.words) l.fn.machine (g.W.Words.sees l.words) l.machine false;
  inside : Inside l.options l.machine;
  held : Held l.machine (g.W.Words.sees l.words).lost (g.W.Words.sees l.words).spare;
  noted : IsNoted l.code l.machine (g.W.Words.sees l.words).note (length (g.W.Words.sees l.words).part);
  turns : MayTurn l.code l.options l.actor (g.W.Words.sees l.words).size;
  from : l.from ≡ l.fn.machine.units;
  own : l.actor ≡ (g.W.Words.sees l.words).actor;
  actor : (g.W.Words.sees l.words).actor ≡ (g.W.Words.sees l.fn.words).actor;
  size : (g.W.Words.sees l.words).size ≡ (g.W.Words.sees l.fn.words).size;
  rest : g.W.Words.rest l.words ≡ g.W.Words.rest l.fn.words;
}

abbrev pub decreases-events : goal.decreases-events
decreases-events g l = turn_left (length l.code.instrs) l.options l.machine
