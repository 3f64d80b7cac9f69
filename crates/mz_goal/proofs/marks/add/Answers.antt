use Rattle.std.proofs.Common.{◌++◌, ◌∷◌, [], ap, ◌∙◌, slice_set, arith}
use Rattle.mz_tree.specs.View.{plain_atom}
use Rattle.mz_goal.specs.Marked.{entries}
use Rattle.mz_goal.proofs.Marking.{add_short, add_long}
use Rattle.mz_goal.specs.declared.marks.Mark.TheVariants.{Unused as UnusedCode}
use Rattle.mz_goal.proofs.marks.add.Goals as goal

pub returns-then-place-len-clause-entries : goal.returns-then-place-len-clause-entries
returns-then-place-len-clause-entries c =
    let R = c.args.state.now in
    let M = c.args.marks.now in
    let a = plain_atom c.args.atom in
    ap (λ l. entries l c.set.new.self) c.in_ok-add.ensures.added ∙ ap (entries (R ++ a ∷ [])) (c.set.ensures ∙ ap (λ n. slice_set M n UnusedCode) c.len-place.ensures) ∙ add_long R M a (omega arith)

pub returns-else-place-len-clause-entries : goal.returns-else-place-len-clause-entries
returns-else-place-len-clause-entries c =
    let R = c.args.state.now in
    let M = c.args.marks.now in
    let a = plain_atom c.args.atom in
    ap (λ l. entries l M) c.in_ok-add.ensures.added ∙ add_short R M a (omega arith)
