use Rattle.std.proofs.Common.{◌≡◌, [], ◌∷◌, ◌++◌, length, map, sym, ap, ap₂, ◌∙◌, subst}
use Rattle.std.proofs.lemmas.List.{length-map, map-append}
use Rattle.mz_tree.specs.View.{plain_atom, plain_need}
use Rattle.mz_scope.specs.declared.fault.Cause.TheVariants.{Twice}
use Rattle.mz_scope.specs.Syntax.{ParamTree}
use Rattle.mz_scope.specs.Names.{find, numbered}
use Rattle.mz_scope.specs.Making.{Came_to, fault_if}
use Rattle.mz_scope.specs.Types.{flat_typed, flat_atoms}
use Rattle.mz_scope.specs.Declarations.{is_other, declares, params_of, all_of, params_from, needs_of}
use Rattle.mz_scope.specs.Trees.{atom_trees, param_tree, need_tree, sig_tree}
use Rattle.mz_scope.specs.View.{made_of}
use Rattle.mz_scope.proofs.DataSteps.{first_type}
use Rattle.mz_scope.proofs.SigSteps.{signature_came, sig_same}
use Rattle.mz_scope.proofs.signatures.signature.Goals as goal

pub returns : goal.returns
returns c =
    let g = c.args.source.now.globals.now in
    let bytes = c.args.source.now.text.now in
    let one = c.args.one.now in
    let x = sig_tree bytes one in
    let m = made_of c.args.making.now in
    let m1 = made_of c.declares.new.making in
    let m2 = made_of c.params.new.making in
    let m3 = made_of c.needs.new.making in
    let m4 = made_of c.fault_if.new.self in
    let m5 = made_of c.typed.new.making in
    let m6 = made_of c.atoms.new.making in
    let count = c.in_ok-params_count.params_count in
    let asked = c.in_ok-asked.asked in
    let others = c.in_ok-others.others in
    let a = c.in_ok-typed.field-0 in
    let more = c.in_ok-more.more in
    let text = c.spelled-result_name.result.now in
    let all = c.push.new.self in
    let count_is : count ≡ length x.params = c.in_ok-params_count.ensures ∙ c.len.ensures ∙ sym (length-map one.params (param_tree bytes)) in
    let scope_is : c.in_ok-scope.scope ≡ params_of x = c.in_ok-scope.ensures ∙ ap (λ l. numbered 0 (map (λ (p : ParamTree). p.name) (map (param_tree bytes) l))) c.as_slice.ensures in
    let text_is : text ≡ x.result.text = c.spelled-result_name.ensures in
    let all_is : all ≡ all_of x = c.in_ok-push.ensures ∙ ap (λ s. s ++ (text, count) ∷ []) scope_is ∙ ap₂ (λ t n. params_of x ++ (t, n) ∷ []) text_is count_is in
    let twice_is : c.is_other-twice.result ≡ is_other (find (all_of x) x.result.text) (length x.params) = c.is_other-twice.ensures ∙ ap₂ is_other (c.find.ensures ∙ ap₂ find all_is text_is) count_is in
    let gives_are : c.append-2.new.self ≡ a ∷ more = c.in_ok-append-2.ensures ∙ ap (λ l. l ++ more) (c.in_ok-push-2.ensures.ok ∙ ap (λ l. l ++ a ∷ []) c.new-given.ensures) in
    signature_came g c.args.before x (map plain_need asked) (map plain_need others) (plain_atom a) (map plain_atom more) m m1 m2 m3 m4 m5 m6 (record {
      declared = subst (λ o. declares o c.args.before 1000 x.name m ≡ Came_to tt m1) (c.type_position.ensures ∙ ap (first_type g) c.spelled-name.ensures) c.in_ok-declares.ensures;
      params = subst (λ l. params_from g (params_of x) 0 (map (param_tree bytes) l) m1 ≡ Came_to (map plain_need asked) m2) c.as_slice-2.ensures (subst (λ s. params_from g s 0 (map (param_tree bytes) c.as_slice-2.result.now) m1 ≡ Came_to (map plain_need asked) m2) scope_is c.in_ok-asked.ensures);
      needs = subst (λ l. needs_of g (params_of x) (map (need_tree bytes) l) m2 ≡ Came_to (map plain_need others) m3) c.as_slice-3.ensures (subst (λ s. needs_of g s (map (need_tree bytes) c.as_slice-3.result.now) m2 ≡ Came_to (map plain_need others) m3) scope_is c.in_ok-others.ensures);
      once = subst (λ b. fault_if b Twice x.result.place m3 ≡ Came_to tt m4) twice_is c.in_ok-fault_if.ensures;
      typed = subst (λ n. flat_typed g (all_of x) n x.ty m4 ≡ Came_to (plain_atom a) m5) count_is (subst (λ s. flat_typed g s count x.ty m4 ≡ Came_to (plain_atom a) m5) all_is c.in_ok-typed.ensures);
      given = subst (λ l. flat_atoms g (all_of x) (atom_trees bytes l) m5 ≡ Came_to (map plain_atom more) m6) c.as_slice-4.ensures (subst (λ s. flat_atoms g s (atom_trees bytes c.as_slice-4.result.now) m5 ≡ Came_to (map plain_atom more) m6) all_is c.in_ok-more.ensures);
    })
    ∙ sig_same m6 (c.in_ok-from_slice.ensures ∙ c.spelled-name.ensures) count_is (ap (map plain_need) c.in_ok-append.ensures ∙ map-append plain_need asked others) (ap (map plain_atom) gives_are)
