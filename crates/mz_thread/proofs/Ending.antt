-- A thread that is over.
use Rattle.std.proofs.Common.{◌≡◌, ℕ, Bool, false, sym, subst, slice_get}
use Rattle.mz_words.specs.declared.code.Code.{Code}
use Rattle.mz_words.specs.declared.ends.End.{End}
use Rattle.mz_words.specs.declared.options.Options.{Options}
use Rattle.mz_words.specs.declared.asks.Ask.TheVariants.{Nothing}
use Rattle.mz_words.specs.declared.stages.Stage.{Stage}
use Rattle.mz_words.specs.declared.stages.Stage.TheVariants.{Over}
use Rattle.mz_words.specs.Standing.{Standing}
use Rattle.mz_words.specs.Steps.{ask}
use Rattle.mz_words.specs.Views.{WordsView}
use Rattle.mz_words.specs.Turns.{Leads, Leads_nowhere}
use Rattle.mz_thread.specs.declared.thread.Turn.{Turn}
use Rattle.mz_thread.specs.declared.thread.Turn.TheVariants.{Again, Ended, Wild}
use Rattle.mz_thread.specs.Keeping.{IsOver}
use Rattle.mz_thread.specs.Turned.{AnswersAs, LostAs, LostAtEnd, Turned}
use Rattle.mz_thread.specs.Inside.{Inside, LostWithin}
use Rattle.mz_thread.proofs.Steps.{over_asks}

by_answer : (o : Options) (s : Stage) (paused : Bool) (r : Turn) (lost : ℕ) → LostWithin o s lost → AnswersAs s paused r → LostAs o r lost
by_answer o s paused (Ended e) lost l a = subst (λ (x : Stage). LostWithin o x lost) a l
by_answer o s paused Again lost l a = tt
by_answer o s paused Wild lost l a = tt

-- it has as many tries failed as its end says
pub lost_as : (o : Options) (t : Standing) (paused : Bool) (r : Turn) → Inside o t → AnswersAs t.stage paused r → LostAs o r t.lost
lost_as o t paused r i a = by_answer o t.stage paused r t.lost i.lost a

pub over_lost : (o : Options) (t : Standing) (e : End) → Inside o t → t.stage ≡ Over e → LostAtEnd o e t.lost
over_lost o t e i s = subst (λ (x : Stage). LostWithin o x t.lost) s i.lost

over_nothing : (c : Code) (o : Options) (k : ℕ) (t : Standing) (e : End) → t.stage ≡ Over e → ask c o k t ≡ Nothing
unfolding ask
over_nothing c o k t e s = over_asks c o k t t.stage (slice_get c.instrs t.at) (subst (λ (x : Stage). IsOver x) (sym s) tt)

-- a turn of it has no events
pub over_leads : (c : Code) (o : Options) (k : ℕ) (w : WordsView) (t : Standing) (e : End) → t.stage ≡ Over e → (paused : Bool) × Leads c o k t.units w t w t paused × Turned c o k t paused (Ended e)
over_leads c o k w t e s = (false, Leads_nowhere, record { told = s; wild = λ _. over_nothing c o k t e s })
