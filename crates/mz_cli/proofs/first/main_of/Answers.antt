use Rattle.std.proofs.Common.{rules, ◌≡◌, ◌<◌, length, ap, subst, arith, codes, get_or}
use Rattle.mz_cli.proofs.Mains.{main_here, no_main, one_more}
use Rattle.mz_cli.proofs.first.main_of.Goals as goal

pub returns-then-eq : goal.returns-then-eq
returns-then-eq c =
    let named : c.function-item.result.name ≡ codes "main" = search rules in
    let inside : c.loop-function.function-index < length c.args.program.now.funs = omega (arith, ap length c.as_slice-function-items.ensures) in
    let here : c.function-item.result ≡ get_or c.args.program.now.funs c.loop-function.function-index c.function-item.result =
    subst (λ l. c.function-item.result ≡ get_or l c.loop-function.function-index c.function-item.result) c.as_slice-function-items.ensures c.function-item.is in
    main_here c.args.program.now c.loop-function.function-index c.function-item.result inside here named

pub loop-function-preserved : goal.loop-function-preserved
loop-function-preserved c = λ k f below found named.
    let other : c.function-item.result.name ≡ codes "main" → ⊥ = λ same. search rules in
    let here : c.function-item.result ≡ get_or c.args.program.now.funs c.loop-function.function-index c.function-item.result =
    subst (λ l. c.function-item.result ≡ get_or l c.loop-function.function-index c.function-item.result) c.as_slice-function-items.ensures c.function-item.is in
    one_more c.args.program.now.funs c.loop-function.function-index c.function-item.result (omega (arith, ap length c.as_slice-function-items.ensures)) here other c.loop-function.invariant k f below found named

pub returns : goal.returns
returns c = λ body main. no_main c.args.program.now body (λ k f inside here named. c.loop-function.invariant k f (omega (arith, ap length c.as_slice-function-items.ensures)) here named) main
