use Rattle.std.proofs.Common.{◌≡◌, ◌≤◌, ◌+◌, List, Err, length, drop, subst, sym, arith, length-drop}
use Rattle.std.proofs.lemmas.List.{take_rest}
use Rattle.mz_token.specs.Tokens.{InOrder}
use Rattle.mz_token.specs.declared.token.Token.{Token}
use Rattle.mz_token.specs.declared.token.LexFault.{LexFault}
use Rattle.mz_token.specs.Lexes.{Lexes, Faults, HasCause, Gives, Refuses}
use Rattle.mz_token.specs.Fronts.{BeginsWith}
use Rattle.mz_token.proofs.Unique.{one_list, list_or_fault}
use Rattle.mz_token.proofs.CutLemmas.{scanned_none, scanned_more, scanned_all, scanned_room, scanned_fault, all_within, front_size, fault_caused, fault_gives, fault_refuses}
use Rattle.mz_token.proofs.scan.tokens.Goals as goal
use Rattle.mz_token.proofs.scan.tokens.Goals.{After-loop-at}

pub place_after-place-requires-clause-columns : goal.place_after-place-requires-clause-columns
place_after-place-requires-clause-columns c =
    let bytes = c.args.bytes.now in
    let begins : BeginsWith (drop c.loop-at.at bytes) c.in-Ok.kind c.in-Ok.size = rw take_rest at c.in-Ok.ensures in
    let within : c.loop-at.at + c.in-Ok.size ≤ length bytes = omega (arith, (front_size (drop c.loop-at.at bytes) c.in-Ok.kind c.in-Ok.size begins).1, length-drop c.loop-at.at bytes, c.loop-at.invariant.within) in
    omega (arith, (scanned_room bytes c.loop-at.at c.loop-at.items c.loop-at.place c.in-Ok.size c.loop-at.invariant.scanned within).1)

pub place_after-place-requires-clause-lines : goal.place_after-place-requires-clause-lines
place_after-place-requires-clause-lines c =
    let bytes = c.args.bytes.now in
    let begins : BeginsWith (drop c.loop-at.at bytes) c.in-Ok.kind c.in-Ok.size = rw take_rest at c.in-Ok.ensures in
    let within : c.loop-at.at + c.in-Ok.size ≤ length bytes = omega (arith, (front_size (drop c.loop-at.at bytes) c.in-Ok.kind c.in-Ok.size begins).1, length-drop c.loop-at.at bytes, c.loop-at.invariant.within) in
    omega (arith, (scanned_room bytes c.loop-at.at c.loop-at.items c.loop-at.place c.in-Ok.size c.loop-at.invariant.scanned within).0)

pub loop-at-init : goal.loop-at-init
loop-at-init c = record { scanned = rw c.new-items.ensures (scanned_none c.args.bytes.now); within = omega arith }

pub loop-at-preserved : goal.loop-at-preserved
loop-at-preserved c =
    let bytes = c.args.bytes.now in
    let begins : BeginsWith (drop c.loop-at.at bytes) c.in-Ok.kind c.in-Ok.size = rw take_rest at c.in-Ok.ensures in
    record {
      scanned = scanned_more bytes c.loop-at.at c.loop-at.items c.push_word.new.items c.loop-at.place c.place_after-place.result c.in-Ok.kind c.in-Ok.size c.loop-at.invariant.scanned begins c.in_ok-push_word-in-Ok.ensures c.place_after-place.ensures;
      within = omega (arith, (front_size (drop c.loop-at.at bytes) c.in-Ok.kind c.in-Ok.size begins).1, length-drop c.loop-at.at bytes, c.loop-at.invariant.within);
    }

pub returns-in-Err-clause-cause : goal.returns-in-Err-clause-cause
returns-in-Err-clause-cause c =
    let here = scanned_fault c.args.bytes.now c.loop-at.at c.loop-at.items c.loop-at.place c.in-Err.cause c.loop-at.invariant.scanned c.in-Err.ensures in
    subst (HasCause c.args.bytes.now) (sym c.at.ensures) (fault_caused c.in-Err.cause c.args.bytes.now c.loop-at.place here)

pub returns-in-Err-clause-gives : goal.returns-in-Err-clause-gives
returns-in-Err-clause-gives c =
    let here = scanned_fault c.args.bytes.now c.loop-at.at c.loop-at.items c.loop-at.place c.in-Err.cause c.loop-at.invariant.scanned c.in-Err.ensures in
    subst (λ (f : LexFault). (tokens : List Token) → Lexes c.args.bytes.now tokens → Gives (Err f) tokens) (sym c.at.ensures) (fault_gives c.in-Err.cause c.args.bytes.now c.loop-at.place here)

pub returns-in-Err-clause-refuses : goal.returns-in-Err-clause-refuses
returns-in-Err-clause-refuses c =
    let here = scanned_fault c.args.bytes.now c.loop-at.at c.loop-at.items c.loop-at.place c.in-Err.cause c.loop-at.invariant.scanned c.in-Err.ensures in
    subst (λ (f : LexFault). (other : LexFault) → Faults c.args.bytes.now other → Refuses (Err f) other) (sym c.at.ensures) (fault_refuses c.in-Err.cause c.args.bytes.now c.loop-at.place here)

pub returns-clause-lexes : goal.returns-clause-lexes
returns-clause-lexes c = scanned_all c.args.bytes.now c.loop-at.at c.loop-at.items c.loop-at.place c.loop-at.invariant.scanned c.loop-at-test.false

-- at the end the cut has come to the text's length
whole_order : (c : After-loop-at) → InOrder 0 c.loop-at.items (length c.args.bytes.now)
whole_order c =
    let end : c.loop-at.at ≡ length c.args.bytes.now = omega (arith, c.loop-at-test.false, c.loop-at.invariant.within) in
    subst (InOrder 0 c.loop-at.items) end c.loop-at.invariant.scanned.order

pub returns-clause-in_order : goal.returns-clause-in_order
returns-clause-in_order c = whole_order c

pub returns-clause-within : goal.returns-clause-within
returns-clause-within c = all_within 0 c.loop-at.items (length c.args.bytes.now) (whole_order c)

pub returns-clause-gives : goal.returns-clause-gives
returns-clause-gives c = λ tokens lexes. one_list c.args.bytes.now c.loop-at.items tokens (scanned_all c.args.bytes.now c.loop-at.at c.loop-at.items c.loop-at.place c.loop-at.invariant.scanned c.loop-at-test.false) lexes

pub returns-clause-refuses : goal.returns-clause-refuses
returns-clause-refuses c = λ fault f. list_or_fault c.args.bytes.now c.loop-at.items fault (scanned_all c.args.bytes.now c.loop-at.at c.loop-at.items c.loop-at.place c.loop-at.invariant.scanned c.loop-at-test.false) f
