-- The named machine: all its definitions under one name.
pub use Rattle.mz_named.specs.Configurations.{Value, Int_value, Block_value, Fun_value, Cell, Block_cell, Lock_cell, Environment, Cells, Heap, Rest, Level, Frame, Suspended, Thread, Running, Ended, Stopped, Config}
pub use Rattle.mz_named.specs.Bodies.{Puts, Keeps, Binds, value_at, rest_of, start, body_in, body_for}
pub use Rattle.mz_named.specs.Operations.{IsBlock, Fresh, ReadsField, WritesField, ChangesTag, TwoBlocks, GivesBlock, TakesBlock, TakeFails, TurnsLock, ComputesTo, Acts, Stops, chosen, ChoosesCase, Chooses, IsFunction}
pub use Rattle.mz_named.specs.Steps.{next, inside, IsAt, IsDone, Moves, NStep, Step_acts, Step_stops, Step_branches, Step_joins, Step_calls, Step_returns, Step_ends, Step_spawns, NSteps, No_steps, More_steps}
pub use Rattle.mz_named.specs.Safety.{Waits, Touches, WritesTo, NRace, IsFine, IsOpening, NamedSafe}
