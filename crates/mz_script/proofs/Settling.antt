-- What the call for a whole text comes to, by what the readers on lists answer.
use Rattle.std.proofs.Common.{◌≡◌, ◌==◌, ◌+◌, ◌-◌, ℕ, Bool, true, false, if◌then◌else◌, List, [], ◌∷◌, map, length, Result, Ok, Err, refl, sym, ap, subst, ◌∙◌, arith}
use Rattle.mz_grammar.specs.Brackets.{no_brackets}
use Rattle.mz_grammar.specs.Answers.{Stops}
use Rattle.mz_grammar.specs.Wholes.{IsFirstWrong}
use Rattle.mz_tree.specs.Programs.{Program}
use Rattle.mz_tree.specs.Scoped.{Scoped}
use Rattle.mz_deriv.specs.Scripts.{Item}
use Rattle.mz_deriv.specs.View.{plain_derivation, plain_script}
use Rattle.mz_deriv.specs.declared.script.Derivation.{Derivation}
use Rattle.mz_deriv.specs.declared.script.Script.{Script}
use Rattle.mz_script.specs.Cutting.{before_first, lines}
use Rattle.mz_script.specs.Texts.{IsScript, IsScriptText, IsWrongLine}
use Rattle.mz_script.specs.Reading.{script_by}
use Rattle.mz_script.specs.ReadLines.{piece_of}
use Rattle.mz_script.specs.Reads.{GivesScripts, HasCause, Settles, TellsLine, IsFaultOf}
use Rattle.mz_script.specs.Stops.{cause}
use Rattle.mz_script.specs.declared.fault.ScriptFault.{ScriptFault}
use Rattle.mz_script.specs.declared.fault.ScriptFault.TheVariants.{Line, Memory}
use Rattle.mz_script.specs.declared.read.stop.Stop.{Stop}
use Rattle.mz_script.specs.declared.read.stop.Stop.TheVariants.{Unexpected, Memory as NoMemory}
use Rattle.mz_script.proofs.WholeScripts.{read_all, read_less, read_wrong, text_of_lines, wrong_line, no_wrong_line, one_wrong_line, few_lines}
use Rattle.mz_script.proofs.NoEnds.{text_lines}
use Rattle.mz_script.proofs.Exact.{one_derivation}

-- bytes that are none have no line, and others have one
no_lines : (rest : List ℕ) → length rest ≡ 0 → lines rest ≡ []
no_lines [] e = refl
no_lines (b ∷ rest) e = absurd (omega (arith, e))

module _ (p : Program) (S : Scoped p) (bytes : List ℕ) where
  pub settled_stop : (stop : Stop) → Stops (cause stop) (script_by (piece_of p) p.funs (lines bytes)) → Settles p bytes (Err stop)
  settled_stop (Unexpected left) (rest, e, count) = subst (IsFirstWrong no_brackets 0 (IsScript p) (lines bytes)) (sym count) (read_wrong p S (lines bytes) rest e)
  settled_stop NoMemory h = tt

  pub settled_end : (rest : List ℕ) (scripts : List Script) → length rest ≡ 0 → script_by (piece_of p) p.funs (lines bytes) ≡ Ok (map plain_script scripts, lines rest) → Settles p bytes (Ok scripts)
  settled_end rest scripts none e = read_all p S (lines bytes) (map plain_script scripts) (e ∙ ap (λ l. Ok (map plain_script scripts, l)) (no_lines rest none))

  pub settled_more : (rest : List ℕ) (scripts : List (List Item)) (n : ℕ) → (lines rest ≡ [] → ⊥) → n ≡ length (lines rest) → script_by (piece_of p) p.funs (lines bytes) ≡ Ok (scripts, lines rest) → Settles p bytes (Err (Unexpected n))
  settled_more rest scripts n some count e = subst (IsFirstWrong no_brackets 0 (IsScript p) (lines bytes)) (sym count) (read_less p S (lines bytes) (lines rest) scripts some e)

  -- ---- the answer

  pub is_text : (scripts : List Script) → Settles p bytes (Ok scripts) → IsScriptText p bytes (map plain_script scripts)
  is_text scripts h = text_of_lines p S bytes (map plain_script scripts) h

  pub gives_it : (d : Derivation) (scripts : List (List Item)) → IsScriptText p bytes (plain_derivation d) → IsScriptText p bytes scripts → plain_derivation d ≡ scripts
  gives_it d scripts one two = one_derivation p S (lines bytes) (plain_derivation d) scripts (text_lines p S bytes (plain_derivation d) one) (text_lines p S bytes scripts two)

  pub is_wrong : (left n : ℕ) → Settles p bytes (Err (Unexpected left)) → n ≡ (length (lines bytes) - left) + 1 → IsWrongLine p bytes n
  is_wrong left n h e = wrong_line p S bytes left n h e

  pub no_text : (n : ℕ) (scripts : List (List Item)) → IsWrongLine p bytes n → IsScriptText p bytes scripts → ⊥
  no_text n scripts w is = no_wrong_line p S bytes scripts n is w

  pub same_line : (m n : ℕ) → IsWrongLine p bytes m → IsWrongLine p bytes n → m ≡ n
  same_line m n one two = one_wrong_line p S bytes m n one two

  -- what comes of a stop
  pub stop_cause : (stop : Stop) (fault : ScriptFault) → Settles p bytes (Err stop) → IsFaultOf bytes stop fault → HasCause p bytes fault
  stop_cause (Unexpected left) (Line n) h e = is_wrong left n h e
  stop_cause (Unexpected left) Memory h e = tt
  stop_cause NoMemory (Line n) h e = absurd e
  stop_cause NoMemory Memory h e = tt

  pub stop_gives : (stop : Stop) (fault : ScriptFault) → Settles p bytes (Err stop) → IsFaultOf bytes stop fault → (scripts : List (List Item)) → IsScriptText p bytes scripts → GivesScripts (Err fault) scripts
  stop_gives (Unexpected left) (Line n) h e scripts is = no_text n scripts (is_wrong left n h e) is
  stop_gives (Unexpected left) Memory h e scripts is = tt
  stop_gives NoMemory (Line n) h e scripts is = absurd e
  stop_gives NoMemory Memory h e scripts is = tt

  pub stop_tells : (stop : Stop) (fault : ScriptFault) → Settles p bytes (Err stop) → IsFaultOf bytes stop fault → (n : ℕ) → IsWrongLine p bytes n → TellsLine (Err fault) n
  stop_tells (Unexpected left) (Line m) h e n w = same_line m n (is_wrong left m h e) w
  stop_tells (Unexpected left) Memory h e n w = tt
  stop_tells NoMemory (Line m) h e n w = absurd e
  stop_tells NoMemory Memory h e n w = tt

-- bytes have a line
pub some_lines : (rest : List ℕ) → (length rest ≡ 0 → ⊥) → lines rest ≡ [] → ⊥
some_lines [] some e = some refl
some_lines (b ∷ rest) some e = never rest e
  where
    first_some : (ls : List (List ℕ)) → before_first b ls ≡ [] → ⊥
    first_some [] h = cc
    first_some (l ∷ ls) h = cc

    never : (rest : List ℕ) → lines (b ∷ rest) ≡ [] → ⊥
    never rest h = by_test (b == 10) h
      where
        by_test : (t : Bool) → (if t then (10 ∷ []) ∷ lines rest else before_first b (lines rest)) ≡ [] → ⊥
        by_test true g = cc
        by_test false g = first_some (lines rest) g
