-- Rounds, unless memory was refused.
use Rattle.std.proofs.Common.{inl, inr, ℕ, suc, List}
use Rattle.mz_words.specs.declared.plain.PlainWords.{PlainWords}
use Rattle.mz_words.specs.declared.code.Code.{Code}
use Rattle.mz_words.specs.declared.options.Options.{Options}
use Rattle.mz_thread.specs.declared.thread.Thread.{Thread}
use Rattle.mz_sched.specs.Schedules.{State, Round, Round_begins, No_rounds, More_rounds}
use Rattle.mz_sched.specs.Running.{state_of, HasRefusal, InRound, AfterRounds}

pub begins : (c : Code) (o : Options) (w : PlainWords) (ts : List Thread) → InRound c o (state_of w ts) 0 w ts
begins c o w ts = inl Round_begins

pub no_rounds : (c : Code) (o : Options) (w : PlainWords) (ts : List Thread) → AfterRounds c o (state_of w ts) w ts
no_rounds c o w ts = inl (0, No_rounds)

pub one_more : (c : Code) (o : Options) (w v : PlainWords) (ts us : List Thread) → InRound c o (state_of w ts) 64 v us → (HasRefusal ts → HasRefusal us) → (first : State) → AfterRounds c o first w ts → AfterRounds c o first v us
one_more c o w v ts us (inl r) stays first (inl p) = inl (suc p.0, More_rounds p.0 (state_of w ts) (state_of v us) p.1 r)
one_more c o w v ts us (inr h) stays first a = inr h
one_more c o w v ts us (inl r) stays first (inr h) = inr (stays h)

pub on : (c : Code) (o : Options) (first : State) (k : ℕ) (w v : PlainWords) (ts us : List Thread) → ((first : State) → Round c o first k (state_of w ts) → InRound c o first (suc k) v us) → (HasRefusal ts → HasRefusal us)
    → InRound c o first k w ts → InRound c o first (suc k) v us
on c o first k w v ts us goes stays (inl r) = goes first r
on c o first k w v ts us goes stays (inr h) = inr (stays h)
