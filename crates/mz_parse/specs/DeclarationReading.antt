-- Declarations, part after part, as functions that read from the front of a list of tokens. d is how many brackets may be
-- opened more; what stands inside a bracket that is counted already reads types with `below`.
use Rattle.std.specs.Prelude.{ℕ, Bool, false, List, [], Ok, ◌||◌}
use Rattle.mz_grammar.specs.Reading.{Read, ◌>>=◌, token_at, open_at, choose, maybe_at, many}
use Rattle.mz_token.specs.declared.token.Kind.{Kind}
use Rattle.mz_token.specs.declared.token.Token.{Token}
use Rattle.mz_token.specs.Tokens.{is_key, is_mark}
use Rattle.mz_types.specs.declared.tree.SurfaceAtom.{SurfaceAtom}
use Rattle.mz_types.specs.Reading.{atom_by, atoms_by, below, clause_at}
use Rattle.mz_types.specs.Words.{lower, upper, key, mark}
use Rattle.mz_parse.specs.declared.tree.Constructor.{Constructor}
use Rattle.mz_parse.specs.declared.tree.DataDeclaration.{DataDeclaration}
use Rattle.mz_parse.specs.declared.tree.Declaration.{Declaration}
use Rattle.mz_parse.specs.declared.tree.Declaration.TheVariants as declaration
use Rattle.mz_parse.specs.declared.tree.FieldDeclaration.{FieldDeclaration}
use Rattle.mz_parse.specs.declared.tree.FunctionDeclaration.{FunctionDeclaration}
use Rattle.mz_parse.specs.declared.tree.NeedDeclaration.{NeedDeclaration}
use Rattle.mz_parse.specs.declared.tree.Parameter.{Parameter}
use Rattle.mz_parse.specs.declared.tree.SignatureDeclaration.{SignatureDeclaration}
use Rattle.mz_parse.specs.Trees.{Taken, Given, field_of, con_of, data_of, param_of, need_of, sig_of, fun_of}
use Rattle.mz_parse.specs.BodyReading.{separated_at, block_by, within}

-- what ends parameters
abbrev pub is_param_end : Kind → Bool
is_param_end k = is_mark 23 k || is_mark 3 k

abbrev pub param_end : Token → Bool
param_end t = is_param_end t.kind

-- what a declaration begins with
abbrev pub is_declaring : Kind → Bool
is_declaring k = is_key 0 k || (is_key 3 k || is_key 4 k)

abbrev pub declaring : Token → Bool
declaring t = is_declaring t.kind

-- ---- inside brackets

module _ (d : ℕ) where
  unfoldable pub field_by : List Token → Read Token FieldDeclaration
  field_by ts = do
    name ← token_at lower ts
    colon ← token_at (mark 5) name.1
    ty ← below false d colon.1
    Ok (field_of name.0 ty.0, ty.1)

  unfoldable pub fields_by : List Token → Read Token (List FieldDeclaration)
  fields_by ts = choose (mark 1) (λ others. Ok ([], others)) (separated_at (mark 4) field_by) ts

  unfoldable pub param_by : List Token → Read Token Parameter
  param_by ts = do
    consumes ← maybe_at (key 5) (token_at (key 5)) ts
    name ← token_at lower consumes.1
    colon ← token_at (mark 5) name.1
    ty ← below false d colon.1
    Ok (param_of consumes.0 name.0 ty.0, ty.1)

  unfoldable pub params_by : List Token → Read Token (List Parameter)
  params_by ts = choose param_end (λ others. Ok ([], others)) (separated_at (mark 6) param_by) ts

  unfoldable pub need_by : List Token → Read Token NeedDeclaration
  need_by ts = do
    consumes ← maybe_at (key 5) (token_at (key 5)) ts
    atom ← atom_by false (below false d) consumes.1
    Ok (need_of consumes.0 atom.0, atom.1)

  unfoldable pub needs_by : List Token → Read Token (List NeedDeclaration)
  needs_by ts = choose (mark 23) (λ others. token_at (mark 23) others >>= λ bar. separated_at (mark 9) need_by bar.1) (λ others. Ok ([], others)) ts

  unfoldable pub gives_by : List Token → Read Token (List SurfaceAtom)
  gives_by ts = choose (mark 23) (λ others. token_at (mark 23) others >>= λ bar. atoms_by false (below false d) bar.1) (λ others. Ok ([], others)) ts

  unfoldable pub taken_in : List Token → Read Token Taken
  taken_in ts = do
    params ← params_by ts
    needs ← needs_by params.1
    closing ← token_at (mark 3) needs.1
    Ok ((params.0, needs.0), closing.1)

  unfoldable pub given_in : List Token → Read Token Given
  given_in ts = do
    result ← token_at lower ts
    colon ← token_at (mark 5) result.1
    ty ← below false d colon.1
    gives ← gives_by ty.1
    closing ← token_at (mark 3) gives.1
    Ok ((result.0, ty.0, gives.0), closing.1)

-- ---- whole declarations

module _ (d : ℕ) where
  unfoldable pub con_by : List Token → Read Token Constructor
  con_by ts = do
    name ← token_at upper ts
    opening ← open_at (mark 0) d name.1
    fields ← fields_by d opening.1
    closing ← token_at (mark 1) fields.1
    Ok (con_of name.0 fields.0, closing.1)

  unfoldable pub cons_by : List Token → Read Token (List Constructor)
  cons_by ts = separated_at (mark 23) con_by ts

  unfoldable pub data_by : List Token → Read Token DataDeclaration
  data_by ts = do
    word ← token_at (key 0) ts
    mutable ← maybe_at (key 1) (token_at (key 1)) word.1
    name ← token_at lower mutable.1
    adopts ← maybe_at (key 2) clause_at name.1
    is ← token_at (mark 8) adopts.1
    cons ← cons_by is.1
    Ok (data_of word.0 mutable.0 name.0 adopts.0 cons.0, cons.1)

  unfoldable pub taken_by : List Token → Read Token Taken
  taken_by ts = do
    opening ← open_at (mark 2) d ts
    taken_in d opening.1

  unfoldable pub given_by : List Token → Read Token Given
  given_by ts = do
    opening ← open_at (mark 2) d ts
    given_in d opening.1

  unfoldable pub sig_by : List Token → Read Token SignatureDeclaration
  sig_by ts = do
    word ← token_at (key 3) ts
    name ← token_at lower word.1
    is ← token_at (mark 8) name.1
    taken ← taken_by is.1
    arrow ← token_at (mark 15) taken.1
    given ← given_by arrow.1
    Ok (sig_of word.0 name.0 taken.0 given.0, given.1)

  unfoldable pub fun_by : List Token → Read Token FunctionDeclaration
  fun_by ts = do
    word ← token_at (key 4) ts
    name ← token_at lower word.1
    colon ← token_at (mark 5) name.1
    sig ← token_at lower colon.1
    is ← token_at (mark 8) sig.1
    block ← block_by d (within d) is.1
    Ok (fun_of word.0 name.0 sig.0 block.0, block.1)

  unfoldable pub declaration_by : List Token → Read Token Declaration
  declaration_by ts = choose (key 0) (λ others. data_by others >>= λ it. Ok (declaration.Data it.0, it.1))
      (choose (key 3) (λ others. sig_by others >>= λ it. Ok (declaration.Signature it.0, it.1))
      (λ others. fun_by others >>= λ it. Ok (declaration.Function it.0, it.1))) ts

  unfoldable pub program_by : List Token → Read Token (List Declaration)
  program_by ts = many declaring declaration_by ts
