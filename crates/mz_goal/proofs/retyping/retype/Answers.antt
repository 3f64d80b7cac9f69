use Rattle.std.proofs.Common.{◌++◌, ◌∷◌, ◌∙◌, [], slice_index_or, ap, subst, sym, arith}
use Rattle.mz_tree.specs.Plain.{Has_atom}
use Rattle.mz_tree.specs.View.{plain_ty}
use Rattle.mz_perm.proofs.Orders.{perm_refl}
use Rattle.mz_view.specs.Steps.{plain_steps}
use Rattle.mz_goal.specs.Added.{Added}
use Rattle.mz_goal.proofs.Reached.{added_none, added_then}
use Rattle.mz_goal.proofs.Putting.{indexed, as_long, place_joined, place_stands, retyped_none, retyped_next, retyped_all}
use Rattle.mz_goal.proofs.retyping.retype.Goals as goal

pub loop-i-init : goal.loop-i-init
loop-i-init c =
    let S = c.args.state.now in
    let t = plain_ty c.args.from.now in
    let R = S ++ Has_atom c.args.name t ∷ [] in
    let p = plain_steps c.args.steps.now in
    record {
      typed = retyped_none S t (plain_ty c.in_ok-ty.ty) c.as_slice-after.result.now (ap plain_ty c.in_ok-ty.ensures);
      steps = λ D m. subst (λ u. Added D R p p (S ++ Has_atom c.args.name (plain_ty u) ∷ [])) (sym c.in_ok-ty.ensures) (added_none D R R p (perm_refl R));
    }

pub bounds-before-i : goal.bounds-before-i
bounds-before-i c =
    let long = as_long c.args.state.now (plain_ty c.args.from.now) (plain_ty c.args.to.now) c.requires c.as_slice-before.result.now c.as_slice-after.result.now (c.as_slice-before.ensures ∙ c.in_ok-old.ensures) (c.as_slice-after.ensures ∙ c.in_ok-new.ensures) in
    omega (arith, long)

pub put-requires-clause-stands : goal.put-requires-clause-stands
put-requires-clause-stands c =
    let ys = c.as_slice-before.result.now in
    let zs = c.as_slice-after.result.now in
    let i = c.loop-i.i in
    let old = c.as_slice-before.ensures ∙ c.in_ok-old.ensures in
    let new = c.as_slice-after.ensures ∙ c.in_ok-new.ensures in
    let long = as_long c.args.state.now (plain_ty c.args.from.now) (plain_ty c.args.to.now) c.requires ys zs old new in
    place_stands c.args.state.now (plain_ty c.args.from.now) (plain_ty c.args.to.now) c.requires ys zs old new i (slice_index_or ys i 0) (plain_ty c.loop-i.ty) (indexed ys i (omega (arith, long))) c.loop-i.invariant.typed

pub put-requires-clause-equal : goal.put-requires-clause-equal
put-requires-clause-equal c =
    let ys = c.as_slice-before.result.now in
    let zs = c.as_slice-after.result.now in
    let i = c.loop-i.i in
    let old = c.as_slice-before.ensures ∙ c.in_ok-old.ensures in
    let new = c.as_slice-after.ensures ∙ c.in_ok-new.ensures in
    let long = as_long c.args.state.now (plain_ty c.args.from.now) (plain_ty c.args.to.now) c.requires ys zs old new in
    place_joined c.args.state.now (plain_ty c.args.from.now) (plain_ty c.args.to.now) c.requires ys zs old new i (slice_index_or ys i 0) (slice_index_or zs i 0) (indexed ys i (omega (arith, long))) (indexed zs i (omega arith))

pub loop-i-preserved : goal.loop-i-preserved
loop-i-preserved c =
    let S = c.args.state.now in
    let x = c.args.name in
    let t = plain_ty c.args.from.now in
    let ys = c.as_slice-before.result.now in
    let zs = c.as_slice-after.result.now in
    let i = c.loop-i.i in
    let old = c.as_slice-before.ensures ∙ c.in_ok-old.ensures in
    let new = c.as_slice-after.ensures ∙ c.in_ok-new.ensures in
    let u = plain_ty c.loop-i.ty in
    let v = plain_ty c.put.new.ty in
    record {
      typed = retyped_next S t (plain_ty c.args.to.now) c.requires ys zs old new i (slice_index_or zs i 0) u v (indexed zs i (omega arith)) c.in_ok-put.ensures.puts c.loop-i.invariant.typed;
      steps = λ D m. added_then D (S ++ Has_atom x t ∷ []) (S ++ Has_atom x u ∷ []) (S ++ Has_atom x v ∷ []) (plain_steps c.args.steps.now) (plain_steps c.loop-i.steps) (plain_steps c.put.new.steps) (c.loop-i.invariant.steps D m) (c.in_ok-put.ensures.leads D m);
    }

pub returns : goal.returns
returns c D m =
    let S = c.args.state.now in
    let t = plain_ty c.args.from.now in
    let w = plain_ty c.args.to.now in
    let old = c.as_slice-before.ensures ∙ c.in_ok-old.ensures in
    let new = c.as_slice-after.ensures ∙ c.in_ok-new.ensures in
    let same = retyped_all S t w c.requires c.as_slice-before.result.now c.as_slice-after.result.now old new c.loop-i.i (plain_ty c.loop-i.ty) (omega arith) c.loop-i.invariant.typed in
    subst (λ u. Added D (S ++ Has_atom c.args.name t ∷ []) (plain_steps c.args.steps.now) (plain_steps c.loop-i.steps) (S ++ Has_atom c.args.name u ∷ [])) same (c.loop-i.invariant.steps D m)
