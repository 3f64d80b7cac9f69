use Rattle.std.proofs.Common.{ℕ, Option, Some, None, if◌then◌else◌, sym, ap, ◌∙◌}
use Rattle.std.specs.Option.{option_or}
use Rattle.std.specs.Str.{bytes_eq}
use Rattle.mz_names.specs.Names.{Names, find}
use Rattle.mz_names.specs.Chains.{names_of}
use Rattle.mz_names.proofs.Growing.{find_more}
use Rattle.mz_names.proofs.scope.Scope.push.Goals as goal

pub invariant_of-self : goal.invariant_of-self
invariant_of-self c = λ name.
    c.in_ok-tree.ensures name
    ∙ ap (λ (o : Option ℕ). option_or o (if bytes_eq c.args.text.now name then Some c.args.number else None)) (c.self.invariant name)
    ∙ sym (find_more (names_of c.self.inside.names) c.args.text.now c.args.number name)
    ∙ ap (λ (l : Names ℕ). find l name) (sym c.in_ok-names.ensures)
