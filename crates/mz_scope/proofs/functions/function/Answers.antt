use Rattle.std.proofs.Common.{◌≡◌, map, slice_get, ap, ◌∙◌, subst}
use Rattle.mz_scope.specs.Making.{CoreName, Came_to}
use Rattle.mz_scope.specs.Declarations.{too_many}
use Rattle.mz_scope.specs.FunctionBodies.{function_body_of}
use Rattle.mz_scope.specs.Trees.{fun_tree}
use Rattle.mz_scope.specs.View.{made_of, core_name_of}
use Rattle.mz_scope.proofs.FunSteps.{first_fun, function_came}
use Rattle.mz_scope.proofs.functions.function.Goals as goal

pub returns : goal.returns
returns c =
    let g = c.args.source.now.globals.now in
    let bytes = c.args.source.now.text.now in
    let m3 = made_of c.body_of.new.making in
    let m4 = made_of c.too_many.new.making in
    function_came g c.args.number (fun_tree bytes c.args.one.now) c.fun_named.result c.in_ok-sig.sig (function_body_of c.in_ok-parts.parts) c.in_ok-from_slice.field-0 c.in_ok-spelling.spelling
    (made_of c.args.making.now) (made_of c.declares.new.making) (made_of c.sig_by_name.new.making) m3 m4
    (c.fun_named.ensures ∙ ap (first_fun g) c.spelled-name.ensures) c.in_ok-declares.ensures c.in_ok-sig.ensures c.in_ok-parts.ensures
    (subst (λ l. too_many (slice_get (map core_name_of l) 256) m3 ≡ Came_to tt m4) c.as_slice.ensures c.in_ok-too_many.ensures)
    (c.in_ok-from_slice.ensures ∙ c.spelled-name.ensures)
    (c.in_ok-spelling.ensures ∙ ap (λ l. map (λ (n : CoreName). n.spelling) (map core_name_of l)) c.as_slice-2.ensures)
