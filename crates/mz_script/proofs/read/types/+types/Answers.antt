use Rattle.std.proofs.Common.{◌≡◌, true, suc, length, map, [], ◌∷◌, ◌++◌, ◌-◌, ◌+◌, Ok, sym, ap, ◌∙◌, arith, rules}
use Rattle.mz_grammar.specs.Answers.{begin}
use Rattle.mz_grammar.specs.Reading.{many_at}
use Rattle.mz_grammar.proofs.Loops.{many_more, with_front}
use Rattle.mz_tree.specs.View.{plain_atom, plain_atoms, plain_program}
use Rattle.mz_script.specs.ReadWords.{atoms_by, is_space, next_atom_by, below}
use Rattle.mz_script.proofs.Spelling.{map_append}
use Rattle.mz_tree.proofs.Views.{plain_lock}
use Rattle.mz_script.proofs.ReaderParts.{lock_done}
use Rattle.mz_script.proofs.read.types.+types.Goals as goal

-- the loop goes on with one more
pub next_atoms-loop-i-preserved : goal.next_atoms-loop-i-preserved
next_atoms-loop-i-preserved t c =
    let reader = next_atom_by (plain_program c.args.program.now) (below (plain_program c.args.program.now) (suc c.args.depth)) in
    let next : begin is_space c.loop-i.rest.now ≡ true = search rules in
    let more = many_more is_space reader (plain_atoms c.loop-i.items) (length c.args.bytes.now - c.loop-i.i) (length c.args.bytes.now - (c.loop-i.i + 1)) c.loop-i.rest.now c.in_ok-item.more.now (plain_atom c.in_ok-item.item) next c.in_ok-item.ensures (omega arith) in
    let pushed = ap plain_atoms c.in_ok-push.ensures.ok ∙ map_append plain_atom c.loop-i.items (c.in_ok-item.item ∷ []) in
    ap (λ l. with_front l (many_at is_space reader (length c.args.bytes.now - (c.loop-i.i + 1)) c.in_ok-item.more.now)) pushed ∙ sym more ∙ c.loop-i.invariant

-- a lock is seen as the views of what it guards
pub lock-returns : goal.lock-returns
lock-returns t c =
    let p = plain_program c.args.program.now in
    lock_done p (below p c.args.depth) c.args.depth c.args.bytes.now c.in_ok-rest.rest.now c.in_ok-guarded.rest.now c.in_ok-rest-2.rest.now (plain_atoms c.in_ok-guarded.guarded) c.in_ok-rest.ensures.gives
    (ap (λ k. atoms_by p (below p k) c.in_ok-rest.rest.now) c.in_ok-rest.ensures.inside ∙ c.in_ok-guarded.ensures) c.in_ok-rest-2.ensures ∙ ap (λ ty. Ok (ty, c.in_ok-rest-2.rest.now)) (sym (plain_lock c.in_ok-guarded.guarded))
