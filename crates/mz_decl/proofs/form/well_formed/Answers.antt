use Rattle.mz_tree.specs.View.{plain_program}
use Rattle.mz_decl.proofs.Limits.{numbered_of}
use Rattle.mz_decl.proofs.form.well_formed.Goals as goal

pub copied-requires : goal.copied-requires
copied-requires c = numbered_of (plain_program c.args.program.now) c.requires.scoped
