use Rattle.std.proofs.Common.{subst}
use Rattle.mz_named.specs.Moving.{Suits}
use Rattle.mz_named.specs.declared.plan.Plan.{Plan}
use Rattle.mz_named.proofs.settling.turn.Goals as goal

pub go_on-requires : goal.go_on-requires
go_on-requires c = (c.requires.0, c.requires.1, c.requires.2, subst (λ (p : Plan). Suits c.requires.0 c.requires.1.items p) c.in-Goes.is c.requires.3)

pub go_on-requires-in-Spawns : goal.go_on-requires-in-Spawns
go_on-requires-in-Spawns c = (c.requires.0, c.requires.1, c.requires.2, subst (λ (p : Plan). Suits c.requires.0 c.requires.1.items p) c.in-Spawns.is c.requires.3)

pub branch-thread-requires : goal.branch-thread-requires
branch-thread-requires c = (c.requires.0, c.requires.1, c.requires.2, subst (λ (p : Plan). Suits c.requires.0 c.requires.1.items p) c.in-Branches.is c.requires.3)

pub call-requires : goal.call-requires
call-requires c = (c.requires.0, c.requires.1, c.requires.2, subst (λ (p : Plan). Suits c.requires.0 c.requires.1.items p) c.in-Calls.is c.requires.3)

pub join-requires : goal.join-requires
join-requires c =
    let last = subst (λ (p : Plan). Suits c.requires.0 c.requires.1.items p) c.in-Joins.is c.requires.3 in
    (c.requires.0, c.requires.1, last.0, last.1, c.requires.2, last.2)

pub give_back-requires : goal.give_back-requires
give_back-requires c =
    let last = subst (λ (p : Plan). Suits c.requires.0 c.requires.1.items p) c.in-Returns.is c.requires.3 in
    (c.requires.0, c.requires.1, last.0, last.1, c.requires.2, last.2)
