-- What every list of events on the code of a program comes to, where the program is safe by name.
use Rattle.std.specs.Prelude.{◌≡◌, ◌≤◌, ℕ, length, Some, slice_get, true, codes}
use Rattle.std.specs.Str.{bytes_eq}
use Rattle.mz_tree.specs.Programs.{Program, Fun, Sig}
use Rattle.mz_words.specs.declared.code.Code.{Code}
use Rattle.mz_words.specs.declared.options.Options.{Options}
use Rattle.mz_words.specs.Raw.{Raw, Events, Opens}
use Rattle.mz_named.specs.Machine.{Config, IsOpening, NSteps, IsFine, NamedSafe}
use Rattle.mz_lower.specs.Layout.{code_of}
use Rattle.mz_lower.specs.Addresses.{BindsBelow}
use Rattle.mz_lower.specs.StandsFor.{StandsFor}
use Rattle.mz_lower.specs.NamedRuns.{NamedRun}
use Rattle.mz_words.specs.Faults.{NoFault, NoRace}

-- what lowering needs of a program: its names fit its registers, no block is too long, and whatever is named `main` is the
-- function that the code begins with, and has no parameters. A program that was read has all of it
pub record Lowerable (p : Program) : Type 0 where
  pub binds : (f : ℕ) (fun : Fun) → slice_get p.funs f ≡ Some fun → BindsBelow (length fun.spelling) fun.body
  pub room : (f : ℕ) (fun : Fun) (sig : Sig) → slice_get p.funs f ≡ Some fun → slice_get p.sigs fun.sig ≡ Some sig → sig.count ≤ length fun.spelling
  pub main : (f : ℕ) (fun : Fun) → slice_get p.funs f ≡ Some fun → bytes_eq fun.name (codes "main") ≡ true → (f ≡ (code_of p).main) × (sig : Sig) × (slice_get p.sigs fun.sig ≡ Some sig) × (sig.count ≡ 0)

-- what a list of events comes to: the state that it leads to stands for where the named run of just the steps that these events
-- gave has come to; there each thread goes on or waits, and no two race; and at the words no thread's next act is a fault, and no
-- two threads race
pub record StandsSafely (p : Program) (c : Code) (o : Options) (first : Raw) (start : Config) (s : Raw) (events : Events c o first s) : Type 0 where
  pub named : Config
  pub steps : NSteps p start named
  pub run : NamedRun p c o first start s events named
  pub fine : IsFine p named
  pub stands : StandsFor p c s named
  pub faultless : NoFault c o s
  pub raceless : NoRace c o s

-- each list of events on the code of a program that is safe by name comes to that
abbrev pub Simulates : Type 0
Simulates = (p : Program) (o : Options) (first s : Raw) (start : Config) → Lowerable p → o.steps ≤ 1000000 → Opens (code_of p) first → IsOpening p start → NamedSafe p
    → (events : Events (code_of p) o first s) → StandsSafely p (code_of p) o first start s events
