-- What a signature asks and gives: with its own names in the body of a function, with the arguments' names at a call.
use Rattle.std.specs.Prelude.{ℕ, Bool, true, false, List, [], ◌∷◌, ◌++◌, map}
use Rattle.mz_tree.specs.Plain.{Atom, map_atom}
use Rattle.mz_tree.specs.Programs.{Need, Sig}
use Rattle.mz_tree.specs.Renaming.{name_at}
use Rattle.mz_decl.specs.Contents.{names_from}

-- the parameters: 0, 1 and so on
abbrev pub parameters : Sig → List ℕ
parameters sig = names_from 0 sig.count

-- all that is needed, in order
abbrev pub needed : List Need → List (Atom ℕ)
needed needs = map (λ (n : Need). n.atom) needs

-- a need in front of others, left out if it is consumed
abbrev pub unless_consumed : Bool → Atom ℕ → List (Atom ℕ) → List (Atom ℕ)
unless_consumed true a more = more
unless_consumed false a more = a ∷ more

-- the needs that aren't consumed, in order
abbrev pub kept : List Need → List (Atom ℕ)
kept [] = []
kept (n ∷ needs) = unless_consumed n.consumed n.atom (kept needs)

-- permissions of a signature, with these names for its parameters and its result
abbrev pub at_args : List ℕ → List (Atom ℕ) → List (Atom ℕ)
at_args ys atoms = map (map_atom (name_at ys)) atoms

-- these needs, and then what the signature gives, with these names for the parameters, and this one for the result
abbrev pub given : List ℕ → ℕ → List (Atom ℕ) → List (Atom ℕ) → List (Atom ℕ)
given ys result needs gives = at_args ys needs ++ at_args (ys ++ result ∷ []) gives

-- what a body owes at its end: the needs that aren't consumed, then what the signature gives, with the name of the
-- body's value for the result
abbrev pub owed : Sig → ℕ → List (Atom ℕ)
owed sig value = kept sig.needs ++ at_args (parameters sig ++ value ∷ []) sig.gives
