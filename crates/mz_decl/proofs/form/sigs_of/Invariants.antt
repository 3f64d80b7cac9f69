use Rattle.std.proofs.Common.{◌≡◌, map, take}
use Rattle.mz_tree.specs.declared.program.Fun.{Fun as CodeFun}
use Rattle.mz_decl.proofs.form.sigs_of.Given as goal

abbrev pub invariant-loop-i : goal.invariant-loop-i
invariant-loop-i l = l.numbers ≡ map (λ (f : CodeFun). f.sig) (take l.i l.all)
