-- A schedule has no choice.
use Rattle.std.specs.Prelude.{◌≡◌, map}
use Rattle.mz_words.specs.declared.code.Code.{Code}
use Rattle.mz_words.specs.declared.options.Options.{Options}
use Rattle.mz_words.specs.declared.reports.Report.{Report}
use Rattle.mz_sched.specs.Schedules.{Sched}

-- two reports tell the same. For how many more entries a record has room isn't told
pub record TellTheSame (r s : Report) : Type 0 where
  pub parts : map (λ tape. tape.list) r.parts ≡ map (λ tape. tape.list) s.parts
  pub ends : r.ends ≡ s.ends
  pub lost : r.lost ≡ s.lost
  pub words : r.words ≡ s.words

-- code has at most one report for its options
abbrev pub OneReport : Type 0
OneReport = (c : Code) (o : Options) (r s : Report) → Sched c o r → Sched c o s → TellTheSame r s
