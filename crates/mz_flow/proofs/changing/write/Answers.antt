use Rattle.std.proofs.Common.{◌≡◌, slice_set, ap, ◌∙◌, arith}
use Rattle.mz_tree.specs.Plain.{Block_type, Has_atom}
use Rattle.mz_tree.specs.View.{plain_atom}
use Rattle.mz_perm.specs.Lists.{Any_copy, First_copy}
use Rattle.mz_flow.specs.Blocks.{adopts_of}
use Rattle.mz_flow.specs.Commands.{Replaces, Writes}
use Rattle.mz_flow.proofs.Answering.{answers_alike}
use Rattle.mz_flow.proofs.Blocks.{writes_to, writes_from}
use Rattle.mz_flow.proofs.changing.write.Goals as goal

pub returns : goal.returns
returns c D modes =
    let a = plain_atom c.args.atom.now in
    let fields = c.in-Some.fields.now in
    let adopts = c.in-Some.ensures.0 in
    let block : a ≡ Has_atom c.args.block (Block_type c.args.con fields adopts) = c.in-Some.ensures.1 in
    let b = Has_atom c.args.block (Block_type c.args.con c.set.new.self c.adopts_of.result) in
    let left : c.adopts_of.result ≡ adopts = c.adopts_of.ensures ∙ ap adopts_of block in
    let written : c.set.new.self ≡ slice_set fields c.args.field c.args.from = c.set.ensures ∙ ap (λ l. slice_set l c.args.field c.args.from) c.in_ok-fields.ensures in
    let changed : b ≡ Has_atom c.args.block (Block_type c.args.con (slice_set fields c.args.field c.args.from) adopts) = ap (λ l. Has_atom c.args.block (Block_type c.args.con l c.adopts_of.result)) written ∙ ap (λ o. Has_atom c.args.block (Block_type c.args.con (slice_set fields c.args.field c.args.from) o)) left in
    answers_alike (λ which. Replaces which a b c.args.state.now c.args.to) (λ which. Writes which D c.args.state.now c.args.to c.args.block c.args.con c.args.field c.args.from a) c.args.state.now c.change.new.state c.change.result
    (writes_to First_copy D c.args.state.now c.args.to c.args.block c.args.con c.args.field c.args.from a b fields adopts block changed (c.if-not-is_mutable_con.ensures D modes) (omega arith))
    (writes_from Any_copy D c.args.state.now c.args.to c.args.block c.args.con c.args.field c.args.from a b fields adopts block changed)
    c.change.ensures
