-- A turn of one thread leaves the words and the threads those of a longer run.
use Rattle.std.proofs.Common.{◌≡◌, ◌≢◌, ◌<◌, ℕ, inl, inr, List, length, Option, Some, Bool, refl, sym, ap, ◌∙◌, subst}
use Rattle.std.proofs.lemmas.Bool.{cases_eq}
use Rattle.std.proofs.lemmas.List.{get_or-set_other, length-set}
use Rattle.std.specs.Prelude.{slice_get, slice_set, slice_index_or, vec_len}
use Rattle.mz_tape.specs.declared.entry.Entry.{Entry}
use Rattle.mz_words.specs.declared.plain.PlainWords.{PlainWords}
use Rattle.mz_words.specs.declared.code.Code.{Code}
use Rattle.mz_words.specs.declared.options.Options.{Options}
use Rattle.mz_tape.specs.Tapes.{TapeView}
use Rattle.mz_words.specs.declared.opening.Tries.{Tries}
use Rattle.mz_words.specs.FirstWords.{no_tries}
use Rattle.mz_words.specs.Plain.{no_tape, Others, view_of, others_of}
use Rattle.mz_words.specs.Standing.{Standing}
use Rattle.mz_words.specs.Views.{WordsView}
use Rattle.mz_words.specs.Histories.{history}
use Rattle.mz_words.specs.Interleavings.{IsNoted}
use Rattle.mz_words.specs.Turns.{Leads}
use Rattle.mz_words.specs.Laws.{Tells, IsSeen, GoesOn}
use Rattle.mz_words.specs.Raw.{Raw, Events}
use Rattle.mz_words.proofs.Lists.{set_here, set_other}
use Rattle.mz_words.proofs.Turning.{turns, noted_more}
use Rattle.mz_thread.specs.declared.thread.Thread.{Thread}
use Rattle.mz_thread.specs.Keeping.{Held}
use Rattle.mz_thread.specs.Noted.{IsNoted as MayNote}
use Rattle.mz_sched.specs.Running.{view_at, first_state, StandsAt, IsReady, Running}

-- what the others keep stays
module _ (k : ℕ) (w v : PlainWords) (turn_w : w.turn ≡ k) (turn_v : v.turn ≡ k) (same : others_of v ≡ others_of w) (j : ℕ) (other : j ≢ k) where
  pub tape_same : slice_index_or v.tapes.items j no_tape ≡ slice_index_or w.tapes.items j no_tape
  tape_same = sym (get_or-set_other v.tapes.items v.turn j no_tape no_tape (λ z. other (z ∙ turn_v)))
      ∙ ap (λ (x : Others). slice_index_or x.tapes j no_tape) same ∙ get_or-set_other w.tapes.items w.turn j no_tape no_tape (λ z. other (z ∙ turn_w))

  pub tries_same : slice_index_or v.tries.items j no_tries ≡ slice_index_or w.tries.items j no_tries
  tries_same = sym (get_or-set_other v.tries.items v.turn j no_tries no_tries (λ z. other (z ∙ turn_v)))
      ∙ ap (λ (x : Others). slice_index_or x.tries j no_tries) same ∙ get_or-set_other w.tries.items w.turn j no_tries no_tries (λ z. other (z ∙ turn_w))

-- where it is the turn of k, its view is that of whoever has the turn
pub view_turned : (w v : PlainWords) (k : ℕ) → v.turn ≡ k → v.words ≡ w.words → v.tapes ≡ w.tapes → v.tries ≡ w.tries → view_of v ≡ view_at w k
view_turned w v k t a b c = cc

view_own : (v : PlainWords) (k : ℕ) → v.turn ≡ k → view_of v ≡ view_at v k
view_own v k t = cc

module _ (c : Code) (o : Options) where
  others_seen : (mid last : Raw) (events : Events c o (first_state c) mid) (k : ℕ) (t : Standing) (w : WordsView) (g : GoesOn c o (first_state c) mid events k w t last) (j : ℕ) → j ≢ k → (before after : WordsView)
      → IsSeen c o (first_state c) mid events j before → after.actor ≡ j → after.part ≡ before.part → after.note ≡ before.note → after.told ≡ w.told → IsSeen c o (first_state c) last g.all j after
  others_seen mid last events k t w g j d before after seen actor part note told = record {
    actor = actor;
    part = part ∙ seen.part ∙ sym (g.parts j d);
    noted = λ n e. subst (λ (l : List Entry). IsNoted (first_state c).word l j n) (sym g.more) (noted_more (first_state c).word (history events) g.made j n (seen.noted n (sym note ∙ e)));
    told = subst (λ (x : Option (List ℕ)). Tells last.word x) (sym told) g.seen.told;
  }

  -- thread k after its turn, and each other
  module _ (w v : PlainWords) (ts us : List Thread) (k : ℕ) (number : k < 64) (t u : Thread) (paused : Bool) (running : Running c o w ts) (found : slice_get ts k ≡ Some t) (set : us ≡ slice_set ts k u)
      (leads : Leads c o k t.machine.units (view_at w k) t.machine (view_of v) u.machine paused) (turn : v.turn ≡ k) (size : vec_len v.words ≡ o.heap) (actor : u.actor ≡ t.actor)
      (held : Held u.machine (view_of v).lost (view_of v).spare) (noted : MayNote c u.machine (view_of v).note (length (view_of v).part))
      (tapes : (j : ℕ) → j ≢ k → slice_index_or v.tapes.items j no_tape ≡ slice_index_or w.tapes.items j no_tape)
      (tries : (j : ℕ) → j ≢ k → slice_index_or v.tries.items j no_tries ≡ slice_index_or w.tries.items j no_tries) where
    mine : StandsAt ts k (running.last.thread k)
    mine = (running.each k number).stands

    same_thread : mine.thread ≡ t
    same_thread = some_inj (sym mine.found ∙ found)
      where
        some_inj : {x y : Thread} → Some x ≡ Some y → x ≡ y
        some_inj q = cc

    stood : t.machine ≡ running.last.thread k
    stood = ap (λ (x : Thread). x.machine) (sym same_thread) ∙ mine.stands

    went : (last : Raw) × GoesOn c o (first_state c) running.last running.events k (view_of v) u.machine last
    went = turns c o k t.machine.units (first_state c) running.last running.events (view_at w k) (view_of v) u.machine paused number (running.each k number).seen
        (subst (λ (x : Standing). Leads c o k t.machine.units (view_at w k) x (view_of v) u.machine paused) stood leads)

    found_next : slice_get us k ≡ Some u
    found_next = ap (λ (l : List Thread). slice_get l k) set ∙ set_here ts k u t found

    ready : (j : ℕ) → j < 64 → IsReady c o went.0 went.1.all v us j
    ready j h = elim (cases_eq j k) [
      | inl e ↦ subst (λ x. IsReady c o went.0 went.1.all v us x) (sym e) (record {
        seen = subst (λ (x : WordsView). IsSeen c o (first_state c) went.0 went.1.all k x) (view_own v k turn) went.1.seen;
        stands = record { thread = u; found = found_next; number = actor ∙ ap (λ (x : Thread). x.actor) (sym same_thread) ∙ mine.number; stands = sym went.1.mine };
        held = subst (λ (x : Standing). Held x (view_at v k).lost (view_at v k).spare) (sym went.1.mine) (subst (λ (x : WordsView). Held u.machine x.lost x.spare) (view_own v k turn) held);
        noted = subst (λ (x : Standing). MayNote c x (view_at v k).note (length (view_at v k).part)) (sym went.1.mine) (subst (λ (x : WordsView). MayNote c u.machine x.note (length x.part)) (view_own v k turn) noted);
      })
      | inr d ↦ (let r = running.each j h in record {
        seen = others_seen running.last went.0 running.events k u.machine (view_of v) went.1 j d (view_at w j) (view_at v j) r.seen refl (ap (λ (x : TapeView). x.list) (tapes j d)) (ap (λ (x : Tries). x.note) (tries j d)) refl;
        stands = record {
          thread = r.stands.thread;
          found = ap (λ (l : List Thread). slice_get l j) set ∙ set_other ts k j u d ∙ r.stands.found;
          number = r.stands.number;
          stands = r.stands.stands ∙ sym (went.1.others j d);
        };
        held = subst (λ (x : Standing). Held x (view_at v j).lost (view_at v j).spare) (sym (went.1.others j d))
            (subst (λ (x : Tries). Held (running.last.thread j) x.lost (view_at v j).spare) (sym (tries j d)) (subst (λ (x : TapeView). Held (running.last.thread j) (view_at w j).lost x.spare) (sym (tapes j d)) r.held));
        noted = subst (λ (x : Standing). MayNote c x (view_at v j).note (length (view_at v j).part)) (sym (went.1.others j d))
            (subst (λ (x : Tries). MayNote c (running.last.thread j) x.note (length (view_at v j).part)) (sym (tries j d)) (subst (λ (x : TapeView). MayNote c (running.last.thread j) (view_at w j).note (length x.list)) (sym (tapes j d)) r.noted));
      })
    ]

    pub next : Running c o v us
    next = record { last = went.0; events = went.1.all; size = size; many = ap (λ (l : List Thread). length l) set ∙ length-set ts k u ∙ running.many; each = ready }
