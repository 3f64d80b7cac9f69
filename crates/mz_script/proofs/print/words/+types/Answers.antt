use Rattle.std.proofs.Common.{◌≡◌, ◌++◌, OnOk, ap, sym, subst, ◌∙◌}
use Rattle.mz_tree.specs.Plain.{Lock_type, atoms_of}
use Rattle.mz_tree.specs.View.{plain_ty, plain_atoms, plain_program}
use Rattle.mz_tree.proofs.Views.{plain_lock}
use Rattle.mz_script.specs.Words.{type_text}
use Rattle.mz_script.proofs.print.words.+types.Goals as goal

pub ty-returns-in-Lock : goal.ty-returns-in-Lock
ty-returns-in-Lock t c =
    let p = plain_program c.args.program.now in
    let is : plain_ty c.args.ty.now ≡ Lock_type (atoms_of (plain_atoms c.in-Lock.guarded)) = ap plain_ty c.in-Lock.is ∙ plain_lock c.in-Lock.guarded in
    let written : Lock_type (atoms_of (plain_atoms c.as_slice.result.now)) ≡ plain_ty c.args.ty.now = ap (λ l. Lock_type (atoms_of (plain_atoms l))) c.as_slice.ensures ∙ sym is in
    subst (λ t. OnOk c.lock.result (c.lock.new.out.items ≡ c.args.out.now.items ++ type_text p t)) written c.lock.ensures
