-- Changes of maps and environments, and where bodies begin.
use Rattle.std.specs.Prelude.{◌≡◌, ◌≢◌, ◌==◌, ℕ, Bool, true, false, List, [], ◌∷◌, Option, Some, None, slice_index_or}
use Rattle.mz_tree.specs.Code.{Case, Body, con_of, body_of, commands_in, result_of}
use Rattle.mz_tree.specs.Programs.{Fun}
use Rattle.mz_named.specs.Configurations.{Value, Int_value, Environment, Cells, Rest, Frame}

-- g is f with this at k
pub record Puts {A : Type 0} (f : ℕ → Option A) (k : ℕ) (x : A) (g : ℕ → Option A) : Type 0 where
  pub put : g k ≡ Some x
  pub others : (m : ℕ) → m ≢ k → g m ≡ f m

-- nothing changes at any name
abbrev pub Keeps : Cells → Cells → Type 0
Keeps at at' = (n : ℕ) → at' n ≡ at n

-- an environment with one more name
pub record Binds (e : Environment) (c : ℕ) (v : Value) (e' : Environment) : Type 0 where
  pub bound : e' c ≡ v
  pub others : (m : ℕ) → m ≢ c → e' m ≡ e m

-- the environment of these values: the n-th is that of name n
abbrev pub value_at : List Value → ℕ → Value
value_at vs n = slice_index_or vs n (Int_value 0)

-- all of a body
abbrev pub rest_of : Body → Rest
rest_of body = record { commands = commands_in body; value = result_of body }

-- where a callee begins: its parameters have the values of the arguments, and nothing else is bound
abbrev pub start : Fun → List Value → Frame
start f args = record { env = value_at args; rest = rest_of f.body; outer = [] }

-- the body of a constructor: that of its first case
abbrev pub body_in : Bool → Body → Option Body → Option Body
body_in true body more = Some body
body_in false body more = more

abbrev pub body_for : ℕ → List Case → Option Body
body_for con [] = None
body_for con (c ∷ cases) = body_in (con_of c == con) (body_of c) (body_for con cases)
