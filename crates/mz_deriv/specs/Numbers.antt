-- The numbers of a script that stand beside its permissions. In the program's scripts each has 32 bits; those inside of
-- permissions have them too, as a script that leads through a body has each of its permissions from a state.
use Rattle.std.specs.Prelude.{List, [], ◌∷◌}
use Rattle.mz_view.specs.Steps.{Step, Unfold_step, Rename_step, Equal_step, Dynamic_step, Clause_step, Unknown_step, Field_step, Lock_step}
use Rattle.mz_deriv.specs.Scripts.{Item, ItemChain, ScriptCases, ScriptCase, See_item, Do_item, No_items, More_items, Script_case, No_script_cases, More_script_cases}
use Rattle.mz_deriv.specs.Spelled.{IsNumber}

-- those of a view step
abbrev pub StepNumbers : Step → Type 0
StepNumbers (Unfold_step x d n) = IsNumber x × IsNumber d × IsNumber n
StepNumbers (Rename_step a z) = IsNumber z
StepNumbers (Equal_step x y) = IsNumber x × IsNumber y
StepNumbers (Dynamic_step x) = IsNumber x
StepNumbers (Clause_step a u) = IsNumber u
StepNumbers (Unknown_step x) = IsNumber x
StepNumbers (Field_step a i z) = IsNumber i × IsNumber z
StepNumbers (Lock_step a k z) = IsNumber k × IsNumber z
StepNumbers _ = Unit {0}

abbrev mutual
  -- those of an item, of the items and of the cases inside it
  pub ItemNumbers : Item → Type 0
  ItemNumbers (See_item s) = StepNumbers s
  ItemNumbers (Do_item uses cases join) = CaseNumbers cases

  pub ChainNumbers : ItemChain → Type 0
  ChainNumbers No_items = Unit {0}
  ChainNumbers (More_items i rest) = ItemNumbers i × ChainNumbers rest

  pub OneNumbers : ScriptCase → Type 0
  OneNumbers (Script_case fresh items) = IsNumber fresh × ChainNumbers items

  pub CaseNumbers : ScriptCases → Type 0
  CaseNumbers No_script_cases = Unit {0}
  CaseNumbers (More_script_cases c rest) = OneNumbers c × CaseNumbers rest

-- those of a script
abbrev pub AreNumbers : List Item → Type 0
AreNumbers [] = Unit {0}
AreNumbers (i ∷ items) = ItemNumbers i × AreNumbers items
