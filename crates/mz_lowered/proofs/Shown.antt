-- A program with a branch, a call and two functions has a derivation: so its code is safe. And each code has words to begin with.
use Rattle.std.proofs.Common.{[], ◌∷◌, None, refl}
use Rattle.mz_words.specs.declared.code.Code.{Code}
use Rattle.mz_words.specs.Steps.{opening}
use Rattle.mz_words.specs.Raw.{Raw, opening_word}
use Rattle.mz_lower.specs.Layout.{code_of}
use Rattle.mz_lower.specs.Safe.{Safe}
use Rattle.mz_resource.specs.Examples.{doubling, doubling_scripts}
use Rattle.mz_resource.proofs.Shown.Doubling.{scoped, derivable}
use Rattle.mz_lowered.specs.Laws.{AllCodeOpens}
use Rattle.mz_lowered.proofs.SafeCode.{derivable_is_safe}

abbrev first_state : Code → Raw
first_state c = record { word = opening_word c.main; thread = λ k. opening; blocks = λ b. None; born = 0 ∷ []; prints = [] }

pub all_code_opens : AllCodeOpens
all_code_opens c = (first_state c, record { word = λ p. refl; thread = λ k. refl; blocks = λ b. refl; born = refl; prints = refl })

pub doubling_runs_safely : Safe doubling (code_of doubling)
doubling_runs_safely = derivable_is_safe doubling doubling_scripts scoped derivable
