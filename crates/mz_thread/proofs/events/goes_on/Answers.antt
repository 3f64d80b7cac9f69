use Rattle.std.proofs.Common.{arith}
use Rattle.mz_thread.proofs.Goes.{follows_on, leads_on, actor_on, size_on, lost_on}
use Rattle.mz_thread.proofs.Steps.{inside_next, held_next, falls_next, small, number, room_for}
use Rattle.mz_thread.proofs.Noted.{noted_next}
use Rattle.mz_thread.proofs.events.goes_on.Goals as goal

pub event-answer-requires-clause-small : goal.event-answer-requires-clause-small
event-answer-requires-clause-small g c = small c.args.options.now _ (omega (arith, c.requires.turns.steps)) c.requires.turns.few_tries c.requires.inside

pub event-answer-requires-clause-number : goal.event-answer-requires-clause-number
event-answer-requires-clause-number g c = number c.args.options.now _ c.requires.inside

pub event-answer-requires-clause-spare : goal.event-answer-requires-clause-spare
event-answer-requires-clause-spare g c = (room_for c.args.code.now c.args.options.now c.args.actor _ _ _ c.requires.turns.few_tries c.requires.inside c.requires.held c.requires.alive).1

pub event-answer-requires-clause-lost : goal.event-answer-requires-clause-lost
event-answer-requires-clause-lost g c = (room_for c.args.code.now c.args.options.now c.args.actor _ _ _ c.requires.turns.few_tries c.requires.inside c.requires.held c.requires.alive).0

pub returns-clause-inside : goal.returns-clause-inside
returns-clause-inside g c = inside_next _ _ _ _ _ c.event-answer.result c.requires.turns.forward c.requires.turns.tries c.requires.inside c.event-answer.ensures.may c.event-answer.ensures.moved

pub returns-clause-held : goal.returns-clause-held
returns-clause-held g c = held_next _ _ _ _ _ c.event-answer.result _ _ _ _ c.requires.turns.forward c.requires.inside c.requires.held c.event-answer.ensures.may
    (record { lost_is = lost_on _ c.event-answer.result _ _ _ c.event-answer.ensures.may c.event-answer.ensures.answered; room = c.event-answer.ensures.spare }) c.event-answer.ensures.moved

pub returns-clause-follows : goal.returns-clause-follows
returns-clause-follows g c = follows_on _ _ _ _ _ _ _ c.event-answer.result _ c.requires.own c.requires.follows c.event-answer.ensures.may c.event-answer.ensures.moved c.event-answer.ensures.answered

pub returns-clause-leads : goal.returns-clause-leads
returns-clause-leads g c = λ ws t l. leads_on _ _ _ _ ws _ _ t _ _ c.event-answer.result _ _ l c.event-answer.ensures.may c.event-answer.ensures.told c.event-answer.ensures.moved c.event-answer.ensures.answered c.pauses.ensures

pub returns-clause-actor : goal.returns-clause-actor
returns-clause-actor g c = actor_on _ c.event-answer.result _ _ _ c.event-answer.ensures.answered

pub returns-clause-size : goal.returns-clause-size
returns-clause-size g c = size_on _ c.event-answer.result _ _ _ c.event-answer.ensures.answered

pub returns-clause-fewer : goal.returns-clause-fewer
returns-clause-fewer g c = λ f. falls_next _ _ _ c.args.from _ _ c.event-answer.result _ c.requires.turns.forward c.requires.turns.tries c.requires.inside c.event-answer.ensures.may c.event-answer.ensures.moved c.pauses.ensures f

pub returns-clause-noted : goal.returns-clause-noted
returns-clause-noted g c = noted_next _ _ _ _ _ c.event-answer.result _ _ _ c.requires.turns.forward c.requires.inside c.requires.noted c.event-answer.ensures.may c.event-answer.ensures.answered c.event-answer.ensures.moved
