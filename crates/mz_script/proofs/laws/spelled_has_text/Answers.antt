use Rattle.std.proofs.Common.{refl}
use Rattle.mz_script.specs.Texts.{script_text}
use Rattle.mz_script.proofs.laws.spelled_has_text.Goals as goal

pub returns : goal.returns
returns c = λ p scripts. (λ h. (script_text p scripts, record { spelled = h; same = refl }), λ t. (let is = t.1 in is.spelled))
