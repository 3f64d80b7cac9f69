use Rattle.std.proofs.Common.{sym, subst}
use Rattle.mz_tree.specs.View.{plain_op}
use Rattle.mz_decl.specs.View.{plain_decls}
use Rattle.mz_elab.specs.Acting.{Acts}
use Rattle.mz_elab.specs.Doing.{ActsOr}
use Rattle.mz_elab.proofs.steps.act.Goals as goal

pub returns-in_ok-make_number-in-Int : goal.returns-in_ok-make_number-in-Int
returns-in_ok-make_number-in-Int c =
    let D = plain_decls c.args.decls.now in
    subst (λ op. Acts D c.args.state.now c.args.next.now c.args.to (plain_op op) c.make_number.new.state c.args.next.now) (sym c.in-Int.is) (c.in_ok-make_number-in-Int.ensures D)

pub returns-in_ok-make_unit-in-Unit : goal.returns-in_ok-make_unit-in-Unit
returns-in_ok-make_unit-in-Unit c =
    let D = plain_decls c.args.decls.now in
    subst (λ op. Acts D c.args.state.now c.args.next.now c.args.to (plain_op op) c.make_unit.new.state c.args.next.now) (sym c.in-Unit.is) (c.in_ok-make_unit-in-Unit.ensures D)

pub returns-in_ok-make_copy-in-Copy : goal.returns-in_ok-make_copy-in-Copy
returns-in_ok-make_copy-in-Copy c =
    let D = plain_decls c.args.decls.now in
    subst (λ op. Acts D c.args.state.now c.args.next.now c.args.to (plain_op op) c.make_copy.new.state c.args.next.now) (sym c.in-Copy.is) (c.in_ok-make_copy-in-Copy.ensures D)

pub returns-in-Arith : goal.returns-in-Arith
returns-in-Arith c =
    let D = plain_decls c.args.decls.now in
    subst (λ op. ActsOr D c.args.state.now c.args.next.now c.args.to (plain_op op) c.args.place c.compute.new.state c.args.next.now c.compute.result) (sym c.in-Arith.is) (c.compute.ensures c.in-Arith.op)

pub returns-in_ok-make_block-in-New : goal.returns-in_ok-make_block-in-New
returns-in_ok-make_block-in-New c =
    let D = plain_decls c.args.decls.now in
    subst (λ op. Acts D c.args.state.now c.args.next.now c.args.to (plain_op op) c.make_block.new.state c.args.next.now) (sym c.in-New.is) (c.in_ok-make_block-in-New.ensures D)
