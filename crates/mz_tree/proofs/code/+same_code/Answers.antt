use Rattle.std.proofs.Common.{◌≡◌, refl, sym, ap, ◌∙◌, arith, rules}
use Rattle.mz_tree.specs.declared.code.Body.{out-Body}
use Rattle.mz_tree.proofs.Bodies.{same_parts}
use Rattle.mz_tree.proofs.Lists.{same_by_place}
use Rattle.mz_tree.proofs.code.+same_code.Goals as goal

pub same_commands-returns : goal.same_commands-returns
same_commands-returns t c = (λ _. same_by_place _ _ (omega arith) (λ k h. c.loop-i.invariant k (omega arith)), λ _. refl)

pub same_cases-returns : goal.same_cases-returns
same_cases-returns t c = (λ _. same_by_place _ _ (omega arith) (λ k h. c.loop-i.invariant k (omega arith)), λ _. refl)

pub BodyAlike::same-returns : goal.BodyAlike::same-returns
BodyAlike::same-returns t c =
    let commands = c.same_commands.ensures in
    let left = c.as_slice.ensures in
    let right = c.as_slice-2.ensures in
    let places : (out-Body c.args.self.now).place ≡ (out-Body c.args.other.now).place = search rules in (
      λ yes. same_parts _ _ (sym left ∙ commands.0 yes ∙ right) c.if-result-other.false places,
      λ same. commands.1 (left ∙ ap (λ b. (out-Body b).commands) same ∙ sym right),
    )
