-- What a turn asks of the words and the thread that have it holds between turns, and what it leaves holds between turns again.
use Rattle.std.proofs.Common.{◌≡◌, ◌<◌, ℕ, List, length, Some, Bool, refl, sym, ap, ◌∙◌, subst, arith}
use Rattle.std.specs.Prelude.{slice_get, slice_set, slice_index_or, vec_len}
use Rattle.mz_tape.specs.Tapes.{TapeView}
use Rattle.mz_tape.specs.declared.entry.Entry.{Entry}
use Rattle.mz_words.specs.declared.plain.PlainWords.{PlainWords}
use Rattle.mz_words.specs.declared.code.Code.{Code}
use Rattle.mz_words.specs.declared.options.Options.{Options}
use Rattle.mz_words.specs.declared.opening.Tries.{Tries}
use Rattle.mz_words.specs.FirstWords.{no_tries}
use Rattle.mz_words.specs.Plain.{no_tape, view_of, others_of}
use Rattle.mz_words.specs.Standing.{Standing}
use Rattle.mz_words.specs.Views.{WordsView}
use Rattle.mz_words.specs.Raw.{Opens}
use Rattle.mz_words.specs.Replays.{Follows}
use Rattle.mz_words.specs.Turns.{Leads}
use Rattle.mz_words.proofs.Replaying.{replays}
use Rattle.mz_thread.specs.declared.thread.Thread.{Thread}
use Rattle.mz_thread.specs.Keeping.{Held, MayTurn}
use Rattle.mz_thread.specs.Noted.{IsNoted}
use Rattle.mz_sched.specs.Running.{view_at, first_state, IsReady, IsRunnable, Running}
use Rattle.mz_sched.proofs.Turned.{view_turned, tape_same, tries_same, next}

pub opens : (c : Code) → Opens c (first_state c)
opens c = record { word = λ p. refl; thread = λ k. refl; blocks = λ b. refl; born = refl; prints = refl }

some_thread : {x y : Thread} → Some x ≡ Some y → x ≡ y
some_thread q = cc

module _ (c : Code) (o : Options) (w v : PlainWords) (ts : List Thread) (k : ℕ) (number : k < 64) (t : Thread) (runnable : IsRunnable c o) (running : Running c o w ts) (found : slice_get ts k ≡ Some t)
    (turn : v.turn ≡ k) (words : v.words ≡ w.words) (tapes : v.tapes ≡ w.tapes) (tries : v.tries ≡ w.tries) where
  mine : IsReady c o running.last running.events w ts k
  mine = running.each k number

  same : mine.stands.thread ≡ t
  same = some_thread (sym mine.stands.found ∙ found)

  pub actor : t.actor ≡ k
  actor = ap (λ (x : Thread). x.actor) (sym same) ∙ mine.stands.number

  stands : t.machine ≡ running.last.thread k
  stands = ap (λ (x : Thread). x.machine) (sym same) ∙ mine.stands.stands

  pub view : view_of v ≡ view_at w k
  view = view_turned w v k turn words tapes tries

  pub own : t.actor ≡ v.turn
  own = actor ∙ sym turn

  pub turns_of : MayTurn c o t.actor (vec_len v.words)
  turns_of = record {
    forward = runnable.forward;
    actor = subst (λ x. x < 64) (sym actor) number;
    steps = runnable.steps;
    tries = runnable.tries;
    few_tries = runnable.few_tries;
    size = ap (λ (x : WordsView). x.size) view ∙ running.size;
    heap = let h = runnable.heap in omega (arith, h);
  }

  pub follows : Follows c o t.actor (view_of v).part t.machine
  follows = subst (λ x. Follows c o x (view_of v).part t.machine) (sym actor)
      (subst (λ (x : Standing). Follows c o k (view_of v).part x) (sym stands)
      (subst (λ (l : List Entry). Follows c o k l (running.last.thread k)) (sym (ap (λ (x : WordsView). x.part) view ∙ mine.seen.part))
      (replays c o (first_state c) running.last (opens c) running.events k)))

  pub held : Held t.machine (view_of v).lost (view_of v).spare
  held = subst (λ (x : Standing). Held x (view_of v).lost (view_of v).spare) (sym stands) (subst (λ (x : WordsView). Held (running.last.thread k) x.lost x.spare) (sym view) mine.held)

  pub noted : IsNoted c t.machine (view_of v).note (length (view_of v).part)
  noted = subst (λ (x : Standing). IsNoted c x (view_of v).note (length (view_of v).part)) (sym stands) (subst (λ (x : WordsView). IsNoted c (running.last.thread k) x.note (length x.part)) (sym view) mine.noted)

  pub after : (u : Thread) (z : PlainWords) (paused : Bool) → Leads c o t.actor t.machine.units (view_of v) t.machine (view_of z) u.machine paused → z.turn ≡ v.turn → vec_len z.words ≡ vec_len v.words → u.actor ≡ t.actor
      → Held u.machine (view_of z).lost (view_of z).spare → IsNoted c u.machine (view_of z).note (length (view_of z).part) → others_of z ≡ others_of v → Running c o z (slice_set ts k u)
  after u z paused leads turn' size number' held' noted' others =
      next c o w z ts (slice_set ts k u) k number t u paused running found refl
      (subst (λ x. Leads c o x t.machine.units (view_at w k) t.machine (view_of z) u.machine paused) actor
      (subst (λ (x : WordsView). Leads c o t.actor t.machine.units x t.machine (view_of z) u.machine paused) view leads))
      (turn' ∙ turn) (size ∙ ap (λ (x : WordsView). x.size) view ∙ running.size) number' held' noted'
      (λ j d. tape_same k v z turn (turn' ∙ turn) others j d ∙ ap (λ (x : List TapeView). slice_index_or x j no_tape) (ap (λ x. x.items) tapes))
      (λ j d. tries_same k v z turn (turn' ∙ turn) others j d ∙ ap (λ (x : List Tries). slice_index_or x j no_tries) (ap (λ x. x.items) tries))
