use Rattle.std.proofs.Common.{◌≡◌, sym}
use Rattle.mz_decl.specs.View.{plain_decls}
use Rattle.mz_modes.specs.Answers.{LeadsNowhere}
use Rattle.mz_modes.specs.Opening.{Opens}
use Rattle.mz_view.proofs.Parts.{not_unfolds}
use Rattle.mz_view.proofs.opening.unfold.Goals as goal

pub returns-in-Err-NoInstance : goal.returns-in-Err-NoInstance
returns-in-Err-NoInstance c =
    let nowhere : LeadsNowhere (λ which. Opens which (plain_decls c.args.decls.now) c.args.state.now c.args.name c.args.variety c.in-Some.con c.args.fresh) × (c.open_at.new.state ≡ c.args.state.now) = rw c.in-Err-NoInstance.field-0-is at c.in-Err-NoInstance.ensures in
    (not_unfolds (plain_decls c.args.decls.now) c.args.state.now c.args.name c.args.variety c.in-Some.con c.args.fresh (sym c.in-Some.ensures) nowhere.0, nowhere.1)
