-- How the branches of a command begin.
use Rattle.std.specs.Prelude.{◌≡◌, ◌⊎◌, ℕ, suc, List, [], ◌∷◌, ◌++◌, map, length, take, drop, Option, Some, None, slice_get}
use Rattle.mz_tree.specs.Plain.{Ty, Atom, Int_type, Named_type, Block_type, Has_atom}
use Rattle.mz_tree.specs.Code.{Op, Case, Body, If_op, Match_op, The_case, case_list, con_of, body_of}
use Rattle.mz_tree.specs.Programs.{Con}
use Rattle.mz_decl.specs.Declarations.{Decls, clause_of}
use Rattle.mz_decl.specs.Contents.{opened, names_from}
use Rattle.mz_modes.specs.Affine.{Affine}
use Rattle.mz_index.specs.Finding.{IsFirst, NoneFits, InClass}
use Rattle.mz_goal.specs.Needs.{Needs}

-- a branch: its body, how many fresh names it takes as it begins, and the state in which it begins, by the first of these
pub record Opening : Type 0 where
  pub body : Body
  pub takes : ℕ
  pub begins : ℕ → List (Atom ℕ)

-- one that begins with this state
abbrev pub begin_with : List (Atom ℕ) → Body → Opening
begin_with R body = record { body = body; takes = 0; begins = λ n. R }

-- one that begins with a permission opened as a block of a constructor; `put` puts in the state what is known then
abbrev pub open_con : Option ℕ → ℕ → ℕ → Option Con → (List (Atom ℕ) → List (Atom ℕ)) → List (Atom ℕ) → Body → Opening
open_con clause y con None put R body = begin_with R body
open_con clause y con (Some made) put R body = record { body = body; takes = length made.fields; begins = λ n. put (opened y con (names_from n (length made.fields)) clause made.fields) }

abbrev pub open_case : Decls → ℕ → ℕ → (List (Atom ℕ) → List (Atom ℕ)) → List (Atom ℕ) → Case → Opening
open_case D y d put R (The_case con body) = open_con (clause_of D d) y con (slice_get D.cons con) put R body

-- in the place of the permission, or at the end
abbrev pub in_place : List (Atom ℕ) → ℕ → List (Atom ℕ) → List (Atom ℕ)
in_place R p new = take p R ++ new ++ drop (suc p) R

abbrev pub at_end : List (Atom ℕ) → List (Atom ℕ) → List (Atom ℕ)
at_end R new = R ++ new

-- a block of a constructor of d
pub record BlockIn (D : Decls) (d : ℕ) (t : Ty ℕ) : Type 0 where
  pub con : ℕ
  pub names : List ℕ
  pub adopts : Option ℕ
  pub is : t ≡ Block_type con names adopts
  pub made : Con
  pub is_con : slice_get D.cons con ≡ Some made
  pub data_type : made.variety ≡ d

-- the constructor of the block is known: its case alone
pub record KnownCase (D : Decls) (R : List (Atom ℕ)) (y d : ℕ) (cases : List Case) (branches : List Opening) : Type 0 where
  pub place : ℕ
  pub one : Atom ℕ
  pub first : IsFirst (InClass R y (BlockIn D d)) R place one
  pub at : ℕ
  pub case : Case
  pub its : IsFirst (λ (k : Case). con_of k ≡ first.fits.fits.con) cases at case
  pub same : branches ≡ begin_with R (body_of case) ∷ []

-- it isn't: all cases, and in each the first permission at the data type is opened
pub record EachCase (D : Decls) (R : List (Atom ℕ)) (y d : ℕ) (cases : List Case) (branches : List Opening) : Type 0 where
  pub alone : NoneFits (InClass R y (BlockIn D d)) R
  pub place : ℕ
  pub one : Atom ℕ
  pub first : IsFirst (InClass R y (λ t. t ≡ Named_type d)) R place one
  pub same : (Affine D d × (branches ≡ map (open_case D first.fits.name d (in_place R place) R) cases))
      ⊎ ((Affine D d → ⊥) × (branches ≡ map (open_case D first.fits.name d (at_end R) R) cases))

-- the goal of a test is met, and both branches begin with what is left
pub record Testing (D : Decls) (R : List (Atom ℕ)) (y : ℕ) (on_true on_false : Body) (branches : List Opening) : Type 0 where
  pub left : List (Atom ℕ)
  pub needs : Needs D R (Has_atom y Int_type ∷ []) left
  pub same : branches ≡ begin_with left on_true ∷ begin_with left on_false ∷ []

-- the branches in which a command at R goes on
abbrev pub OpensIn : Decls → List (Atom ℕ) → Op → List Opening → Type 0
OpensIn D R (If_op y on_true on_false giving) branches = Testing D R y on_true on_false branches
OpensIn D R (Match_op y d cases giving) branches = KnownCase D R y d (case_list cases) branches ⊎ EachCase D R y d (case_list cases) branches
OpensIn D R op branches = ⊥

-- what a command's branches give
abbrev pub giving_of : Op → List (Atom ℕ)
giving_of (If_op y on_true on_false giving) = giving
giving_of (Match_op y d cases giving) = giving
giving_of op = []
