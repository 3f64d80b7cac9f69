-- What the code of a program that was read comes to.
use Rattle.std.specs.Prelude.{List}
use Rattle.mz_tree.specs.Programs.{Program}
use Rattle.mz_tree.specs.Scoped.{Scoped}
use Rattle.mz_deriv.specs.Scripts.{Item}
use Rattle.mz_deriv.specs.Derivable.{Derivable}
use Rattle.mz_words.specs.declared.code.Code.{Code}
use Rattle.mz_words.specs.Raw.{Raw, Opens}
use Rattle.mz_named.specs.Safety.{NamedSafe}
use Rattle.mz_lower.specs.Layout.{code_of}
use Rattle.mz_lower.specs.Safe.{Safe}

-- where a program is safe by name its code is safe
abbrev pub LowersSafely : Type 0
LowersSafely = (p : Program) → Scoped p → NamedSafe p → Safe p (code_of p)

-- the code of a program with a derivation is safe
abbrev pub DerivableIsSafeInCode : Type 0
DerivableIsSafeInCode = (p : Program) (scripts : List (List Item)) → Scoped p → Derivable p scripts → Safe p (code_of p)

-- there is a state with the opening words, for each code: so the laws speak of some runs
abbrev pub AllCodeOpens : Type 0
AllCodeOpens = (c : Code) → (first : Raw) × Opens c first
