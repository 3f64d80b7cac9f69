-- The calls of a device, counted from 1, of which some are to fail.
use Rattle.std.specs.Prelude.{◌≡◌, Result, IsErr, ◌↔◌, Contains}
use Rattle.mz_base.specs.declared.calls.Calls.{Calls}
use Rattle.mz_base.specs.Causes.{next_count, CountsFaults}

-- the call got the next number, failed exactly where that number is to fail, and its fault was counted
pub record Counts {T E : Type 0} (old now : Calls) (result : Result T E) : Type 0 where
  pub number : now.made ≡ next_count old.made
  pub failing : now.failing.items ≡ old.failing.items
  pub fails : IsErr result ↔ Contains old.failing.items now.made
  pub faults : CountsFaults old.faults now.faults result
