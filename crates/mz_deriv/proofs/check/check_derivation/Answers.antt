use Rattle.std.proofs.Common.{◌<◌, length, map, slice_get, Err, sym, ap, ◌∙◌, arith, subst}
use Rattle.std.proofs.lemmas.Option.{slice_get_within}
use Rattle.std.proofs.lemmas.Result.{err_from_is_err_and}
use Rattle.mz_tree.specs.View.{plain_fun, plain_program}
use Rattle.mz_decl.specs.Declarations.{Decls}
use Rattle.mz_decl.specs.View.{plain_decls}
use Rattle.mz_modes.specs.Adopted.{IsNotExclusive}
use Rattle.mz_deriv.specs.Numbers.{AreNumbers}
use Rattle.mz_deriv.specs.View.{plain_item, plain_derivation}
use Rattle.mz_deriv.specs.Refused.{Checks}
use Rattle.mz_deriv.proofs.WholePrograms.{image_at, derived_next, all_derived, one_refused}
use Rattle.mz_deriv.proofs.check.check_derivation.Goals as goal

pub lawful_modes-requires : goal.lawful_modes-requires
lawful_modes-requires c = λ place n. c.requires.declared.exclusive place (subst (λ D. IsNotExclusive D place) c.in_ok-decls.ensures n)

pub check_fun-requires-clause-signed : goal.check_fun-requires-clause-signed
check_fun-requires-clause-signed c =
    let p = plain_program c.args.program.now in
    let f = c.requires.scoped.funs c.loop-k.k (plain_fun c.index-funs-k.result) (ap (λ l. slice_get (map plain_fun l) c.loop-k.k) (sym c.as_slice-funs.ensures) ∙ image_at plain_fun c.as_slice-funs.result.now c.loop-k.k c.index-funs-k.result c.loop-k-test.true c.index-funs-k.is) in
    let signed : c.index-funs-k.result.sig < length p.sigs = slice_get_within p.sigs c.index-funs-k.result.sig f.sig f.signed in
    subst (λ (D : Decls). c.index-funs-k.result.sig < length D.sigs) (sym c.in_ok-decls.ensures) signed

pub loop-k-init : goal.loop-k-init
loop-k-init c = λ m f s l ef es. absurd (omega (arith, l))

pub returns-in_err-check_fun : goal.returns-in_err-check_fun
returns-in_err-check_fun c =
    let p = err_from_is_err_and c.from_residual-in_err-check_fun.result c.from_residual-in_err-check_fun.ensures.1 in
    let refused =
    one_refused c.args.program.now c.args.derivation.now (plain_decls c.in_ok-decls.decls) c.as_slice-funs.result.now c.as_slice-scripts.result.now c.in_ok-decls.ensures c.as_slice-funs.ensures c.as_slice-scripts.ensures c.loop-k.k c.index-funs-k.result c.index-scripts-k.result c.in_err-check_fun.field-0.0
    c.loop-k-test.true c.index-funs-k.is (omega (arith, c.requires.one_each, ap length c.as_slice-funs.ensures, ap length c.as_slice-scripts.ensures)) c.index-scripts-k.is c.loop-k.invariant c.in_err-check_fun.ensures in
    subst (λ r. Checks {A = Unit {0}} (plain_program c.args.program.now) (plain_derivation c.args.derivation.now) r) (sym (p.1 ∙ ap Err p.2)) refused

pub loop-k-preserved : goal.loop-k-preserved
loop-k-preserved c =
    derived_next (plain_decls c.in_ok-decls.decls) c.as_slice-funs.result.now c.as_slice-scripts.result.now c.loop-k.k c.index-funs-k.result c.index-scripts-k.result
    c.loop-k-test.true c.index-funs-k.is (omega (arith, c.requires.one_each, ap length c.as_slice-funs.ensures, ap length c.as_slice-scripts.ensures)) c.index-scripts-k.is c.loop-k.invariant c.in_ok-check_fun.ensures
    (subst (λ l. AreNumbers (map plain_item l)) c.as_slice.ensures c.read_items.ensures)

pub returns : goal.returns
returns c =
    all_derived c.args.program.now c.args.derivation.now (plain_decls c.in_ok-decls.decls) c.as_slice-funs.result.now c.as_slice-scripts.result.now c.in_ok-decls.ensures c.as_slice-funs.ensures c.as_slice-scripts.ensures c.loop-k.k
    c.requires.scoped c.requires.declared c.requires.one_each c.loop-k-test.false c.loop-k.invariant
