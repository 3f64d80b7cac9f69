-- What holds of the texts of derivations: each derivation that can be written has one, and a text is the text of one.
use Rattle.std.specs.Prelude.{◌≡◌, ◌↔◌, ℕ, List}
use Rattle.mz_tree.specs.Programs.{Program}
use Rattle.mz_tree.specs.Scoped.{Scoped}
use Rattle.mz_deriv.specs.Scripts.{Item}
use Rattle.mz_script.specs.Texts.{AreSpelled, IsScriptText}

-- a derivation has at most one text
abbrev pub AtMostOneText : Type 0
AtMostOneText = (p : Program) (scripts : List (List Item)) (one other : List ℕ) → IsScriptText p one scripts → IsScriptText p other scripts → one ≡ other

-- a text is the text of at most one derivation of a program that was read
abbrev pub AtMostOneDerivation : Type 0
AtMostOneDerivation = (p : Program) → Scoped p → (bytes : List ℕ) (one other : List (List Item)) → IsScriptText p bytes one → IsScriptText p bytes other → one ≡ other

-- a derivation has the form of a script just where some text is its text
abbrev pub SpelledHasText : Type 0
SpelledHasText = (p : Program) (scripts : List (List Item)) → AreSpelled p scripts ↔ ((bytes : List ℕ) × IsScriptText p bytes scripts)
