-- The ownership invariant: a configuration is held by a holding.
--
-- A holding says what no configuration shows: what each thread holds, what each block adopts, and what each lock guards.
-- The invariant is kept by each step of a derivable program (`Laws.antt`), and where it holds nothing is wrong.
use Rattle.std.specs.Prelude.{◌≡◌, ℕ, Option, Some, None, slice_get}
use Rattle.mz_tree.specs.Plain.{Atoms}
use Rattle.mz_tree.specs.Programs.{Program}
use Rattle.mz_decl.specs.Declarations.{decls_of}
use Rattle.mz_named.specs.Configurations.{Value, Thread, Config}
use Rattle.mz_resource.specs.Meaning.{Owned, OwnsNothing, Sight}
use Rattle.mz_resource.specs.Frames.{ThreadHolding, ThreadIsHeld}
use Rattle.mz_resource.specs.Owners.{Owner, Of_thread, HeapIsHeld}

-- what adopts, what is guarded, and what each thread holds, by its number
pub record Holding : Type 0 where
  pub clause : ℕ → Option ℕ
  pub hides : ℕ → Option (Atoms Value)
  pub thread : ℕ → ThreadHolding

-- what permissions are about in a configuration
abbrev pub sight : Config → Holding → Sight
sight w h = record { at = w.heap.at; clause = h.clause; hides = h.hides }

-- there are owners of all that the heap and the threads hold
pub record Held (p : Program) (w : Config) (h : Holding) : Type 0 where
  pub own : Owner → Owned
  pub heap : HeapIsHeld (decls_of p) (sight w h) own
  pub threads : (k : ℕ) (t : Thread) → slice_get w.threads k ≡ Some t → ThreadIsHeld (decls_of p) (sight w h) t (h.thread k) (own (Of_thread k))
  -- a number at which there is no thread owns nothing
  pub none : (k : ℕ) → slice_get w.threads k ≡ None → OwnsNothing (own (Of_thread k))
