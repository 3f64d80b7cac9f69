-- What a configuration of the code is: the plain one.
use Rattle.std.specs.Prelude.{ℕ, List, map, length, reverse, drop, slice_get, slice_index_or, option_map}
use Rattle.std.proofs.lemmas.Option.{slice_get_past}
use Rattle.std.proofs.Common.{ap}
use Rattle.mz_tree.specs.View.{plain_commands}
use Rattle.mz_named.specs.Configurations.{Value, Int_value, Block_value, Fun_value, Cell, Block_cell, Lock_cell, Environment, Cells, Heap, Rest, Level, Frame, Suspended, Thread, Running, Ended, Stopped, Config}
use Rattle.mz_named.specs.declared.config.Value.{Value as CodeValue}
use Rattle.mz_named.specs.declared.config.Value.TheVariants as value
use Rattle.mz_named.specs.declared.config.Cell.{Cell as CodeCell}
use Rattle.mz_named.specs.declared.config.Cell.TheVariants as cell
use Rattle.mz_named.specs.declared.config.Rest.{Rest as CodeRest}
use Rattle.mz_named.specs.declared.config.Level.{Level as CodeLevel}
use Rattle.mz_named.specs.declared.config.Frame.{Frame as CodeFrame}
use Rattle.mz_named.specs.declared.config.Suspended.{Suspended as CodeSuspended}
use Rattle.mz_named.specs.declared.config.Thread.{Thread as CodeThread}
use Rattle.mz_named.specs.declared.config.Thread.TheVariants as thread
use Rattle.mz_named.specs.declared.config.NamedConfig.{NamedConfig}

abbrev pub plain_value : CodeValue → Value
plain_value (value.Int n) = Int_value n
plain_value (value.Block b) = Block_value b
plain_value (value.Fun f) = Fun_value f

abbrev pub plain_cell : CodeCell → Cell
plain_cell (cell.Block con adopter fields) = Block_cell con adopter (map plain_value fields)
plain_cell (cell.Lock held) = Lock_cell held

-- the value of a name, 0 where there is none
abbrev pub value_in : List CodeValue → ℕ → CodeValue
value_in values n = slice_index_or values n (value.Int 0)

abbrev pub env_of : List CodeValue → Environment
env_of values = λ n. plain_value (value_in values n)

abbrev pub cells_of : List CodeCell → Cells
cells_of cells = λ b. option_map plain_cell (slice_get cells b)

abbrev pub heap_of : List CodeCell → Heap
heap_of cells = record { at = cells_of cells; limit = length cells; beyond = λ b past. ap (option_map plain_cell) (slice_get_past cells b past) }

abbrev pub plain_rest : CodeRest → Rest
plain_rest r = record { commands = plain_commands (drop r.next r.commands); value = r.value }

abbrev pub plain_level : CodeLevel → Level
plain_level l = record { to = l.to; after = plain_rest l.after }

-- the innermost body is the last one that is kept
abbrev pub plain_frame : CodeFrame → Frame
plain_frame f = record { env = env_of f.values; rest = plain_rest f.rest; outer = reverse (map plain_level f.outer.items) }

abbrev pub plain_suspended : CodeSuspended → Suspended
plain_suspended s = record { to = s.to; frame = plain_frame s.frame }

-- the innermost frame that waits is the last one that is kept
abbrev pub plain_thread : CodeThread → Thread
plain_thread (thread.Running top below) = Running (plain_frame top) (reverse (map plain_suspended below.items))
plain_thread thread.Ended = Ended
plain_thread thread.Stopped = Stopped

abbrev pub config_of : List CodeCell → List CodeThread → List ℕ → Config
config_of cells threads prints = record { heap = heap_of cells; threads = map plain_thread threads; prints = prints }

abbrev pub plain_config : NamedConfig → Config
plain_config c = config_of c.cells.items c.threads.items c.prints
