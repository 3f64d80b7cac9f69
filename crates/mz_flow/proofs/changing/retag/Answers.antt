use Rattle.std.proofs.Common.{◌≡◌, ap, ◌∙◌, subst, arith}
use Rattle.mz_tree.specs.Plain.{Block_type, Has_atom}
use Rattle.mz_tree.specs.View.{plain_atom}
use Rattle.mz_decl.specs.View.{plain_decls}
use Rattle.mz_perm.specs.Lists.{Any_copy, First_copy}
use Rattle.mz_flow.specs.Blocks.{adopts_of}
use Rattle.mz_flow.specs.Commands.{Replaces, LeavesAdopts, Retags}
use Rattle.mz_flow.proofs.Answering.{answers_alike}
use Rattle.mz_flow.proofs.Blocks.{retags_to, retags_from}
use Rattle.mz_flow.proofs.changing.retag.Goals as goal

pub returns : goal.returns
returns c =
    let D = plain_decls c.args.decls.now in
    let a = plain_atom c.args.atom.now in
    let fields = c.in-Some.fields.now in
    let adopts = c.in-Some.ensures.0 in
    let block : a ≡ Has_atom c.args.block (Block_type c.args.old_con fields adopts) = c.in-Some.ensures.1 in
    let kept = c.adopts_left-adopts.result in
    let b = Has_atom c.args.block (Block_type c.args.new_con c.in_ok-fields.fields kept) in
    let before : c.adopts_of.result ≡ adopts = c.adopts_of.ensures ∙ ap adopts_of block in
    let leaves : LeavesAdopts D c.args.new_con adopts kept = subst (λ o. LeavesAdopts D c.args.new_con o kept) before (c.adopts_left-adopts.ensures D c.requires) in
    let changed : b ≡ Has_atom c.args.block (Block_type c.args.new_con fields kept) = ap (λ l. Has_atom c.args.block (Block_type c.args.new_con l kept)) c.in_ok-fields.ensures in
    answers_alike (λ which. Replaces which a b c.args.state.now c.args.to) (λ which. Retags which D c.args.state.now c.args.to c.args.block c.args.old_con c.args.new_con a) c.args.state.now c.change.new.state c.change.result
    (retags_to First_copy D c.args.state.now c.args.to c.args.block c.args.old_con c.args.new_con a b fields adopts kept block changed (c.if-not-is_mutable_con.ensures D c.requires) (omega (arith, c.cons.ensures)) leaves)
    (retags_from Any_copy D c.args.state.now c.args.to c.args.block c.args.old_con c.args.new_con a b fields adopts kept block changed leaves)
    c.change.ensures
