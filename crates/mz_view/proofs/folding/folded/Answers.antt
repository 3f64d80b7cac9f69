use Rattle.std.proofs.Common.{◌≡◌, ◌⊎◌, ℕ, true, false, map, length, Option, None, sym, ap, ◌∙◌, subst}
use Rattle.std.proofs.lemmas.List.{length-map}
use Rattle.mz_tree.specs.View.{plain_atom, plain_con, plain_field}
use Rattle.mz_decl.specs.View.{plain_decls}
use Rattle.mz_modes.specs.Affine.{AffineAtom}
use Rattle.mz_decl.specs.Contents.{contents}
use Rattle.mz_modes.specs.Answers.{UsedAll}
use Rattle.mz_view.proofs.Parts.{not_block, not_contents, folds}
use Rattle.mz_view.proofs.folding.folded.Goals as goal

pub returns-then-not-use_up : goal.returns-then-not-use_up
returns-then-not-use_up c = not_block (plain_decls c.args.decls.now) c.args.state.now c.in_ok-next.next (plain_atom c.args.atom.now) c.args.name c.args.con c.args.fields.now c.args.adopts c.requires.parts c.in_ok-next.ensures (c.if-not-use_up.ensures (plain_decls c.args.decls.now) c.requires.modes).0

pub returns-then-not-branch : goal.returns-then-not-branch
returns-then-not-branch c =
    not_contents (plain_decls c.args.decls.now) c.args.state.now c.in_ok-next.next c.use_up.new.state (plain_atom c.args.atom.now) c.args.name c.args.con c.args.fields.now c.args.adopts (plain_con c.in-Some.made.now) c.requires.parts c.in_ok-next.ensures c.in-Some.ensures (c.if-not-use_up.ensures (plain_decls c.args.decls.now) c.requires.modes)
    (subst (λ l. UsedAll false (AffineAtom (plain_decls c.args.decls.now)) (contents c.args.fields.now (map plain_field l)) c.use_up.new.state c.use_contents.new.state) c.as_slice-contents.ensures
    (subst (λ b. UsedAll b (AffineAtom (plain_decls c.args.decls.now)) (contents c.args.fields.now (map plain_field c.as_slice-contents.result.now)) c.use_up.new.state c.use_contents.new.state) c.if-not-branch.true c.in_ok-use_contents.ensures))

pub returns : goal.returns
returns c =
    folds (plain_decls c.args.decls.now) c.args.state.now c.in_ok-next.next c.use_up.new.state c.use_contents.new.state c.add.new.self (plain_atom c.args.atom.now) c.args.name c.args.con c.args.fields.now c.args.adopts (plain_con c.in-Some.made.now) c.requires.parts c.in_ok-next.ensures c.in-Some.ensures
    (sym c.len.ensures ∙ c.if-len-contents.false ∙ ap length c.as_slice-contents.ensures ∙ sym (length-map c.in-Some.made.now.fields plain_field))
    (subst (λ (k : Option ℕ). (c.args.adopts ≡ None) ⊎ (c.args.adopts ≡ k)) c.clause_at.ensures (c.may_fold.ensures.0 c.if-not-may_fold.false))
    (c.if-not-use_up.ensures (plain_decls c.args.decls.now) c.requires.modes)
    (subst (λ l. UsedAll true (AffineAtom (plain_decls c.args.decls.now)) (contents c.args.fields.now (map plain_field l)) c.use_up.new.state c.use_contents.new.state) c.as_slice-contents.ensures
    (subst (λ b. UsedAll b (AffineAtom (plain_decls c.args.decls.now)) (contents c.args.fields.now (map plain_field c.as_slice-contents.result.now)) c.use_up.new.state c.use_contents.new.state) c.if-not-branch.false c.in_ok-use_contents.ensures))
    c.in_ok-add.ensures.added
