-- What a parser asks of types and atoms: that their readers read them, and what they begin with.
use Rattle.std.proofs.Common.{ℕ, Bool, List, None, refl, sym, subst}
use Rattle.mz_grammar.specs.Reading.{Read}
use Rattle.mz_grammar.specs.Readers.{Reads}
use Rattle.mz_grammar.proofs.Readers.{Starts, token_starts, then_starts}
use Rattle.mz_grammar.proofs.Layers.{layer_from, reads_layers}
use Rattle.mz_token.specs.declared.token.Token.{Token}
use Rattle.mz_types.specs.declared.tree.SurfaceType.{SurfaceType}
use Rattle.mz_types.specs.Words.{name, turn, Name}
use Rattle.mz_types.specs.Grammar.{TypeOver, AtomOver, IsType, IsAtom, IsAtoms}
use Rattle.mz_types.specs.Reading.{type_by, below, type_at, atom_at, atoms_at}
use Rattle.mz_types.specs.Fronts.{AfterType, AfterAtoms}
use Rattle.mz_types.proofs.Productions.{begins_type, over_starts, over_reads, atom_reads, atoms_read, type_lifts, next_below}

module _ (result : Bool) where
  -- types: layer by layer
  pub type_reads : (d : ℕ) → Reads turn (type_at result d) (IsType result) AfterType d d
  type_reads d = subst (λ (p : List Token → Read Token SurfaceType). Reads turn p (IsType result) AfterType d d) (sym (next_below result d))
      (reads_layers (TypeOver result) (type_lifts result) (type_by result) (below result) AfterType (next_below result) (λ d inner I. over_reads result d inner (IsType result) I) d)

  -- an atom holds a type as deep as it is itself
  pub is_atom_reads : (d : ℕ) → Reads turn (atom_at result d) (IsAtom result) AfterType d d
  is_atom_reads d = atom_reads result d (type_at result d) (IsType result) (type_reads d)

  pub are_atoms_read : (d : ℕ) → Reads turn (atoms_at result d) (IsAtoms result) AfterAtoms d d
  are_atoms_read d = atoms_read result d (type_at result d) (IsType result) (type_reads d)

  -- what they begin with
  pub type_starts : Starts (IsType result) begins_type
  type_starts front rest a h = over_starts result (IsType result) front rest a (layer_from (TypeOver result) (type_lifts result) front a h)

  pub atom_starts : Starts (IsAtom result) (name result)
  atom_starts = then_starts (Name result) _ (token_starts (name result))

  pub atoms_start : Starts (IsAtoms result) (name result)
  atoms_start = then_starts (AtomOver result (IsType result)) _ atom_starts

-- a type, an atom and atoms may stand at the end of a text
pub type_ends : AfterType None
type_ends = (refl, tt)

pub atoms_end : AfterAtoms None
atoms_end = (refl, type_ends)
