-- No part of a declaration takes a fault back.
use Rattle.std.proofs.Common.{◌≡◌, ℕ, ◌+◌, List, [], ◌∷◌, map, Option, Some, None}
use Rattle.mz_tree.specs.Code.{Body}
use Rattle.mz_scope.specs.Syntax.{Word, FieldTree, ConTree, DataTree, ParamTree, NeedTree, SigTree}
use Rattle.mz_scope.specs.Names.{Names, numbered, Globals}
use Rattle.mz_scope.specs.Making.{CoreName, Came, Came_to, Part}
use Rattle.mz_scope.specs.Declarations.{declares, body_made, with_params, too_many, fields_from, cons_from, adopted_by, data_type, params_from, needs_of, signature}
use Rattle.mz_scoped.proofs.Goes.{made_in}
use Rattle.mz_scoped.proofs.KeptFaults.{Keeps, kept_then, kept_and, kept_give, kept_if, kept_fault, kept_declared, kept_typed, kept_atom, kept_atoms}

-- a name is declared as one of a sort
pub kept_declares : (first : Option ℕ) (number most : ℕ) (name : Word) → Keeps (declares first number most name)
kept_declares first number most name = kept_and (kept_if _ _ _) (kept_if _ _ _)

-- a body with its parameters
pub kept_with : (params : List Word) (part : Part Body) → Keeps part → Keeps (with_params params part)
kept_with params part keeps = record { clean = λ m none. keeps.clean _ (inside (part _) none) }
  where
    inside : (c : Came Body) → (made_in (body_made c)).faults ≡ [] → (made_in c).faults ≡ []
    inside (Came_to body made) none = none

-- the limit of core names
pub kept_many : (past : Option CoreName) → Keeps (too_many past)
kept_many None = kept_give tt
kept_many (Some past) = kept_fault _ _

module _ (g : Globals) where
  -- the fields of a constructor
  pub kept_fields_from : (scope : Names ℕ) (i : ℕ) (fields : List FieldTree) → Keeps (fields_from g scope i fields)
  kept_fields_from scope i [] = kept_give []
  kept_fields_from scope i (f ∷ rest) = kept_and (kept_declares _ i 32 f.name) (kept_then (kept_typed g scope i f.ty) (λ content. kept_then (kept_fields_from scope (i + 1) rest) (λ others. kept_give _)))

  -- the constructors of a data type
  pub kept_cons : (d k : ℕ) (cons : List ConTree) → Keeps (cons_from g d k cons)
  kept_cons d k [] = kept_give []
  kept_cons d k (con ∷ rest) =
      kept_and (kept_declares _ k 1000 con.name)
      (kept_then (kept_fields_from (numbered 0 (map (λ (f : FieldTree). f.name) con.fields)) 0 con.fields)
      (λ fields. kept_then (kept_cons d (k + 1) rest)
      (λ others. kept_give _)))

  -- what a data type adopts
  pub kept_adopted_by : (adopts : Option Word) → Keeps (adopted_by g adopts)
  kept_adopted_by None = kept_give None
  kept_adopted_by (Some name) = kept_then (kept_declared _ _ _) (λ d. kept_give _)

  -- a data type
  pub kept_data : (n k : ℕ) (x : DataTree) → Keeps (data_type g n k x)
  kept_data n k x = kept_and (kept_declares _ n 1000 x.name) (kept_then (kept_adopted_by x.adopts) (λ u. kept_give _))

  -- the parameters of a signature
  pub kept_params : (scope : Names ℕ) (i : ℕ) (params : List ParamTree) → Keeps (params_from g scope i params)
  kept_params scope i [] = kept_give []
  kept_params scope i (p ∷ rest) = kept_and (kept_declares _ i 32 p.name) (kept_then (kept_typed g scope i p.ty) (λ a. kept_then (kept_params scope (i + 1) rest) (λ others. kept_give _)))

  -- what a signature needs beside
  pub kept_needs : (scope : Names ℕ) (needs : List NeedTree) → Keeps (needs_of g scope needs)
  kept_needs scope [] = kept_give []
  kept_needs scope (need ∷ rest) = kept_then (kept_atom g scope need.atom) (λ a. kept_then (kept_needs scope rest) (λ others. kept_give _))

  -- a signature
  pub kept_sig : (n : ℕ) (x : SigTree) → Keeps (signature g n x)
  kept_sig n x =
      kept_and (kept_declares _ n 1000 x.name)
      (kept_then (kept_params _ 0 x.params)
      (λ of_params. kept_then (kept_needs _ x.needs)
      (λ others. kept_and (kept_if _ _ _)
      (kept_then (kept_typed g _ _ x.ty)
      (λ a. kept_then (kept_atoms g _ x.gives)
      (λ gives. kept_give _))))))
