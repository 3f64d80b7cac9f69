use Rattle.mz_scoped.proofs.ScopedTexts.{read_scoped}
use Rattle.mz_scoped.proofs.laws.what_reads_is_scoped.Goals as goal

pub returns : goal.returns
returns c = read_scoped
