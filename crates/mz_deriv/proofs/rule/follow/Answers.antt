use Rattle.std.proofs.Common.{option_map, ap}
use Rattle.std.specs.Option.{option_copied}
use Rattle.mz_tree.specs.View.{plain_atom, plain_op, plain_command}
use Rattle.mz_decl.specs.View.{plain_decls}
use Rattle.mz_flow.specs.Commands.{PlainRule}
use Rattle.mz_adopt.specs.Adopting.{GiveRule, TakeRule}
use Rattle.mz_lockrule.specs.Locking.{NewLockRule, AcquireRule, ReleaseRule, SpawnRule}
use Rattle.mz_deriv.proofs.Following.{follows, is_give, is_take, is_new_lock, is_acquire, is_release, is_spawn, is_plain}
use Rattle.mz_deriv.proofs.OwnRules.{no_own_rule}
use Rattle.mz_deriv.proofs.rule.follow.Goals as goal

pub returns-in-Give : goal.returns-in-Give
returns-in-Give c =
    let D = plain_decls c.args.decls.now in
    let R = c.args.state.now in
    let k = plain_command c.args.command.now in
    let u = option_map plain_atom (option_copied c.args.uses) in
    follows D R c.give_rule.new.state k u (λ which. GiveRule which D R) c.give_rule.result (is_give D R c.args.command.now.to (plain_op c.args.command.now.op) u c.in-Give.block c.in-Give.adopter (ap plain_op c.in-Give.is)) c.give_rule.ensures

pub returns-in-Take : goal.returns-in-Take
returns-in-Take c =
    let D = plain_decls c.args.decls.now in
    let R = c.args.state.now in
    let k = plain_command c.args.command.now in
    let u = option_map plain_atom (option_copied c.args.uses) in
    follows D R c.take_rule.new.state k u (λ which. TakeRule D R) c.take_rule.result (is_take D R c.args.command.now.to (plain_op c.args.command.now.op) u c.in-Take.block c.in-Take.adopter (ap plain_op c.in-Take.is)) c.take_rule.ensures

pub returns-in-NewLock : goal.returns-in-NewLock
returns-in-NewLock c =
    let D = plain_decls c.args.decls.now in
    let R = c.args.state.now in
    let k = plain_command c.args.command.now in
    let u = option_map plain_atom (option_copied c.args.uses) in
    follows D R c.newlock_rule.new.state k u (λ which. NewLockRule which D R) c.newlock_rule.result (is_new_lock D R c.args.command.now.to (plain_op c.args.command.now.op) u _ (ap plain_op c.in-NewLock.is)) c.newlock_rule.ensures

pub returns-in-Acquire : goal.returns-in-Acquire
returns-in-Acquire c =
    let D = plain_decls c.args.decls.now in
    let R = c.args.state.now in
    let k = plain_command c.args.command.now in
    let u = option_map plain_atom (option_copied c.args.uses) in
    follows D R c.acquire_rule.new.state k u (λ which. AcquireRule R) c.acquire_rule.result (is_acquire D R c.args.command.now.to (plain_op c.args.command.now.op) u c.in-Acquire.field-0 (ap plain_op c.in-Acquire.is)) c.acquire_rule.ensures

pub returns-in-Release : goal.returns-in-Release
returns-in-Release c =
    let D = plain_decls c.args.decls.now in
    let R = c.args.state.now in
    let k = plain_command c.args.command.now in
    let u = option_map plain_atom (option_copied c.args.uses) in
    follows D R c.release_rule.new.state k u (λ which. ReleaseRule which D R) c.release_rule.result (is_release D R c.args.command.now.to (plain_op c.args.command.now.op) u c.in-Release.field-0 (ap plain_op c.in-Release.is)) c.release_rule.ensures

pub returns-in-Spawn : goal.returns-in-Spawn
returns-in-Spawn c =
    let D = plain_decls c.args.decls.now in
    let R = c.args.state.now in
    let k = plain_command c.args.command.now in
    let u = option_map plain_atom (option_copied c.args.uses) in
    follows D R c.spawn_rule.new.state k u (λ which. SpawnRule which D R) c.spawn_rule.result (is_spawn D R c.args.command.now.to (plain_op c.args.command.now.op) u c.in-Spawn.callee c.in-Spawn.arg (ap plain_op c.in-Spawn.is)) c.spawn_rule.ensures

pub returns-in_default : goal.returns-in_default
returns-in_default c =
    let D = plain_decls c.args.decls.now in
    let R = c.args.state.now in
    let k = plain_command c.args.command.now in
    let u = option_map plain_atom (option_copied c.args.uses) in
    follows D R c.plain_rule.new.state k u (λ which. PlainRule which D R) c.plain_rule.result
    (is_plain D R c.args.command.now.to (plain_op c.args.command.now.op) u (no_own_rule c.args.command.now.op c.in_default.not-Give c.in_default.not-Take c.in_default.not-NewLock c.in_default.not-Acquire c.in_default.not-Release c.in_default.not-Spawn)) c.plain_rule.ensures
