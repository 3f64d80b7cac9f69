-- Programs of cells: one mutable data type with one constructor of one number, one signature that asks for nothing and
-- says nothing of its result, and a function `main` of it whose commands go by kinds.
--
-- That such a program goes straight on, comes to one outcome and has a derivation follows from this alone, however it was
-- read.
use Rattle.std.proofs.Common.{◌≡◌, ℕ, zero, suc, true, List, [], ◌∷◌, None, Some, refl, sym, ap, subst, ◌∙◌, slice_get, codes}
use Rattle.mz_tree.specs.declared.types.Place.{Place}
use Rattle.mz_tree.specs.Plain.{Has_atom, Int_type, Unknown_type}
use Rattle.mz_tree.specs.Code.{Body}
use Rattle.mz_tree.specs.Programs.{Variety, Con, Sig, Fun, Program}
use Rattle.mz_cli.specs.Mains.{IsMain}
use Rattle.mz_cli.proofs.NameKinds.{IsKinded}

-- how the source spells what it declares, and where the data type stands
pub record CellNames : Type 0 where
  pub variety : List ℕ
  pub place : Place
  pub con : List ℕ
  pub field : List ℕ
  pub sig : List ℕ

-- the data type
abbrev pub cell_variety : CellNames → Variety
cell_variety names = record { name = names.variety; place = names.place; mutable = true; adopts = None; cons = 0 ∷ [] }

-- its constructor
abbrev pub cell_con : CellNames → Con
cell_con names = record { name = names.con; variety = 0; fields = record { name = names.field; content = Has_atom 0 Int_type } ∷ [] }

-- the signature
abbrev pub cell_sig : CellNames → Sig
cell_sig names = record { name = names.sig; count = 0; needs = []; gives = Has_atom 0 Unknown_type ∷ [] }

-- the function
abbrev pub cell_main : Body → List (List ℕ) → Fun
cell_main body spelling = record { name = codes "main"; sig = 0; body = body; spelling = spelling }

-- the program
abbrev pub cell_program : CellNames → Body → List (List ℕ) → Program
cell_program names body spelling = record {
  varieties = cell_variety names ∷ [];
  cons = cell_con names ∷ [];
  sigs = cell_sig names ∷ [];
  funs = cell_main body spelling ∷ [];
  clauses = [];
}

pub record IsOfCells (program : Program) : Type 0 where
  pub names : CellNames
  pub body : Body
  pub spelling : List (List ℕ)
  pub is : program ≡ cell_program names body spelling
  pub kinded : IsKinded body

-- ---- the function `main`

-- a list of one has one element
pub only_one : {X : Type 0} (x y : X) (i : ℕ) → slice_get (x ∷ []) i ≡ Some y → y ≡ x
only_one x y zero is = cc
only_one x y (suc i) is = cc

-- it is that function
pub main_is : (program : Program) (body : Body) (cells : IsOfCells program) → IsMain program body → body ≡ cells.body
main_is program body cells main =
    let declared : slice_get (cell_main cells.body cells.spelling ∷ []) main.number ≡ Some main.function = subst (λ p. slice_get p.funs main.number ≡ Some main.function) cells.is main.declared in
    main.same ∙ ap (λ (f : Fun). f.body) (only_one (cell_main cells.body cells.spelling) main.function main.number declared)

-- it is there
pub has_main : (program : Program) (cells : IsOfCells program) → IsMain program cells.body
has_main program cells =
    let there : IsMain (cell_program cells.names cells.body cells.spelling) cells.body = record { number = 0; function = cell_main cells.body cells.spelling; declared = refl; named = refl; same = refl } in
    subst (λ p. IsMain p cells.body) (sym cells.is) there

-- and its body goes by kinds
pub kinded_main : (program : Program) (body : Body) → IsOfCells program → IsMain program body → IsKinded body
kinded_main program body cells main = subst IsKinded (sym (main_is program body cells main)) cells.kinded
