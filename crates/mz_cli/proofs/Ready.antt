-- The program of a text of the first form is ready to run: it is one of cells, it was read, it has a derivation, and so it is
-- safe.
use Rattle.std.proofs.Common.{◌≤◌, length, sym, subst, arith}
use Rattle.mz_tree.specs.Code.{Body, commands_in}
use Rattle.mz_tree.specs.Programs.{Program}
use Rattle.mz_tree.specs.Scoped.{Scoped}
use Rattle.mz_named.specs.Safety.{NamedSafe}
use Rattle.mz_resource.proofs.Soundness.{sound}
use Rattle.mz_scoped.proofs.ScopedTexts.{read_scoped}
use Rattle.mz_cli.specs.Mains.{IsMain}
use Rattle.mz_cli.specs.Outcome.{IsDerivable}
use Rattle.mz_cli.specs.Answered.{IsReady}
use Rattle.mz_cli.proofs.Cells.{IsOfCells, main_is, has_main}
use Rattle.mz_cli.proofs.CellTexts.{cells_read}
use Rattle.mz_cli.proofs.FewNames.{few_names}
use Rattle.mz_cli.proofs.Derived.{derived}

module _ (program : Program) (ready : IsReady program) where
  pub cells : IsOfCells program
  cells = cells_read ready.0 program ready.1.reads ready.1.first

  pub scoped : Scoped program
  scoped = read_scoped ready.0 program ready.1.reads

  pub derivable : IsDerivable program
  derivable = derived program cells scoped

  -- by the law of ownership
  pub safe : NamedSafe program
  safe = sound program derivable.0 scoped derivable.1

  -- its `main` has at most 256 commands
  pub few_commands : (body : Body) → IsMain program body → length (commands_in body) ≤ 256
  few_commands body main =
      let few = few_names cells.names cells.body cells.spelling cells.kinded (subst Scoped cells.is scoped) in
      subst (λ b. length (commands_in b) ≤ 256) (sym (main_is program body cells main)) (omega (arith, few.1))

  pub main_there : IsMain program cells.body
  main_there = has_main program cells
