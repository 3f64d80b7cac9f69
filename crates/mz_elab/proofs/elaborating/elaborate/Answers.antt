use Rattle.std.proofs.Common.{Err, sym, ap, ◌∙◌, subst}
use Rattle.std.proofs.lemmas.Result.{err_from_is_err_and}
use Rattle.mz_tree.specs.View.{plain_fun, plain_program}
use Rattle.mz_decl.specs.Declarations.{Decls}
use Rattle.mz_decl.specs.View.{plain_decls}
use Rattle.mz_modes.specs.Adopted.{IsNotExclusive}
use Rattle.mz_elab.specs.Elaborating.{Elaborates}
use Rattle.mz_elab.proofs.FromScoped.{fun_scoped}
use Rattle.mz_elab.proofs.WholeFunctions.{fun_at, fun_body, fun_signed, funs_next, program_fault, program_guided}
use Rattle.mz_elab.proofs.elaborating.elaborate.Goals as goal

pub lawful_modes-requires : goal.lawful_modes-requires
lawful_modes-requires c = λ place n. c.requires.declared.exclusive place (subst (λ (D : Decls). IsNotExclusive D place) c.in_ok-decls.ensures n)

pub elaborate_fun-requires-clause-signed : goal.elaborate_fun-requires-clause-signed
elaborate_fun-requires-clause-signed c =
    let p = plain_program c.args.program.now in
    let f = plain_fun c.index-funs-k.result in
    let at = fun_at c.args.program.now (plain_decls c.in_ok-decls.decls) c.as_slice-funs.result.now c.in_ok-decls.ensures c.as_slice-funs.ensures c.loop-k.k c.index-funs-k.result c.loop-k-test.true c.index-funs-k.is in
    fun_signed p (plain_decls c.in_ok-decls.decls) c.in_ok-decls.ensures f (fun_scoped p c.requires.scoped c.loop-k.k f at)

pub elaborate_fun-requires-clause-scoped : goal.elaborate_fun-requires-clause-scoped
elaborate_fun-requires-clause-scoped c =
    let p = plain_program c.args.program.now in
    let f = plain_fun c.index-funs-k.result in
    let at = fun_at c.args.program.now (plain_decls c.in_ok-decls.decls) c.as_slice-funs.result.now c.in_ok-decls.ensures c.as_slice-funs.ensures c.loop-k.k c.index-funs-k.result c.loop-k-test.true c.index-funs-k.is in
    fun_body p (plain_decls c.in_ok-decls.decls) c.in_ok-decls.ensures f (fun_scoped p c.requires.scoped c.loop-k.k f at)

pub returns-in_err-script : goal.returns-in_err-script
returns-in_err-script c =
    let p = err_from_is_err_and c.from_residual-in_err-script.result c.from_residual-in_err-script.ensures.1 in
    record {
      guided = subst (λ r. Elaborates (plain_program c.args.program.now) r) (sym (p.1 ∙ ap Err p.2))
          (program_fault c.args.program.now (plain_decls c.in_ok-decls.decls) c.as_slice-funs.result.now c.in_ok-decls.ensures c.as_slice-funs.ensures c.loop-k.k c.index-funs-k.result c.in_err-script.field-0.0 c.loop-k-test.true c.index-funs-k.is c.loop-k.invariant c.in_err-script.ensures);
    }

pub loop-k-preserved : goal.loop-k-preserved
loop-k-preserved c = funs_next (plain_decls c.in_ok-decls.decls) c.as_slice-funs.result.now c.loop-k.k c.index-funs-k.result c.loop-k-test.true c.index-funs-k.is c.loop-k.invariant c.in_ok-script.ensures

pub returns : goal.returns
returns c = record { guided = program_guided c.args.program.now (plain_decls c.in_ok-decls.decls) c.as_slice-funs.result.now c.in_ok-decls.ensures c.as_slice-funs.ensures c.loop-k.k c.requires.declared c.loop-k-test.false c.loop-k.invariant }
