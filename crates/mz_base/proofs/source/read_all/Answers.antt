use Rattle.std.proofs.Common.{rules, arith, length, length-append, vec_len, ◌≡◌, take}
use Rattle.std.proofs.KnownBytes.{Consumes-trans}
use Rattle.mz_base.proofs.source.read_all.Goals as goal

-- what the last read gave is gone too, though there was no memory to keep it
pub returns-in_err-extend_from_slice-in-Ok-clause-memory :
    goal.returns-in_err-extend_from_slice-in-Ok-clause-memory
returns-in_err-extend_from_slice-in-Ok-clause-memory g c =
    let both = Consumes-trans _ _ _ _ _ c.loop-room.invariant.got c.in-Ok.ensures.bytes.0 in
    let part = take c.in-Ok.count c.read.new.room in
    let held : length c.loop-room.bytes.items ≡ vec_len c.loop-room.bytes = search rules in
    let room : length c.read.new.room ≡ c.min-size.result = search rules in
    let size = c.min-size.ensures in
    let len = c.len-in-loop-room.ensures in
    λ _. (_, omega (arith, length-append c.loop-room.bytes.items part, held, room, size, len, c.in-Ok.ensures.bound.0, c.in-Ok.ensures.bound.1, c.loop-room.invariant.short), both)
