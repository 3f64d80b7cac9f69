use Rattle.std.proofs.Common.{sym, ap₂, ap, ◌∙◌}
use Rattle.mz_tree.specs.Code.{The_body, commands_of}
use Rattle.mz_tree.specs.View.{plain_commands}
use Rattle.mz_tree.proofs.CodeViews.{plain_new_body}
use Rattle.mz_scope.specs.Making.{Came_to}
use Rattle.mz_scope.specs.View.{made_of}
use Rattle.mz_scope.proofs.making.Making.end.Goals as goal

pub returns : goal.returns
unfolding made_of
returns c =
    ap₂ (λ b commands. Came_to b (made_of (record c.args.self.now { commands = commands })))
    (ap (λ l. The_body (commands_of (plain_commands l)) c.args.value c.args.place) (sym c.replace-commands.ensures.value) ∙ sym (plain_new_body c.replace-commands.result c.args.value c.args.place))
    (sym c.replace-commands.ensures.after)
