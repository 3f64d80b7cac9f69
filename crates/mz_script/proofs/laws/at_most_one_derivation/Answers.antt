use Rattle.mz_script.specs.Cutting.{lines}
use Rattle.mz_script.proofs.Exact.{one_derivation}
use Rattle.mz_script.proofs.NoEnds.{text_lines}
use Rattle.mz_script.proofs.laws.at_most_one_derivation.Goals as goal

pub returns : goal.returns
returns c = λ p s bytes one other a b. one_derivation p s (lines bytes) one other (text_lines p s bytes one a) (text_lines p s bytes other b)
