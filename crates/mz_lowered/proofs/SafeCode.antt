-- The code of a program that is safe by name is safe, and so is that of one with a derivation.
use Rattle.std.specs.Prelude.{◌≤◌}
use Rattle.mz_words.specs.declared.options.Options.{Options}
use Rattle.mz_words.specs.Raw.{Raw, Events, Opens}
use Rattle.mz_lower.specs.Layout.{code_of}
use Rattle.mz_lower.specs.Laws.{StandsSafely}
use Rattle.mz_words.specs.Tame.{most_steps}
use Rattle.mz_lower.proofs.Simulated.{all_stand}
use Rattle.mz_resource.proofs.Soundness.{sound}
use Rattle.mz_lowered.specs.Laws.{LowersSafely, DerivableIsSafeInCode}
use Rattle.mz_lowered.proofs.Lowerable.{lowerable, opening}
use Rattle.mz_lowered.proofs.InRange.{code_range}

pub lowers_safely : LowersSafely
lowers_safely p scoped safe =
    let start = opening p scoped in
    let runs : (o : Options) (first s : Raw) → o.steps ≤ most_steps → Opens (code_of p) first → (events : Events (code_of p) o first s) → StandsSafely p (code_of p) o first start.0 s events =
    λ o first s few opens events. all_stand p o first s start.0 (lowerable p scoped) few opens start.1 safe events in
    record {
      tame = record {
        in_range = code_range p scoped;
        faultless = λ o first s few reached. (runs o first s few reached.0 reached.1).faultless;
        raceless = λ o first s few reached. (runs o first s few reached.0 reached.1).raceless;
      };
      start = start.0;
      opens = start.1;
      stands = runs;
    }

pub derivable_is_safe : DerivableIsSafeInCode
derivable_is_safe p scripts scoped derivable = lowers_safely p scoped (sound p scripts scoped derivable)
