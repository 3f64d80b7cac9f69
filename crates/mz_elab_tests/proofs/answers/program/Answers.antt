use Rattle.mz_tree.specs.View.{plain_program}
use Rattle.mz_scoped.proofs.ScopedTexts.{read_scoped}
use Rattle.mz_elab_tests.proofs.answers.program.Goals as goal

pub returns-in-Ok-resolve : goal.returns-in-Ok-resolve
returns-in-Ok-resolve c = read_scoped c.args.source.now (plain_program c.in-Ok-resolve.program) (record {
  tokens = c.in-Ok.found;
  surface = c.in-Ok-parse.surface;
  text = c.in-Ok.ensures.text;
  lexes = c.in-Ok.ensures.lexes;
  parses = c.in-Ok-parse.ensures.parses;
  within = c.in-Ok-parse.ensures.within;
  flattens = c.in-Ok-resolve.ensures;
})
