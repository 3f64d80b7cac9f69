-- What is found for a branch, a call and a spawn is what the plain machine asks.
use Rattle.std.proofs.Common.{◌≡◌, ℕ, List, [], ◌∷◌, length, map, Option, Some, None, refl, sym, ap, ◌∙◌, subst}
use Rattle.std.proofs.lemmas.Simd.{map-map}
use Rattle.mz_tree.specs.Plain.{Atom}
use Rattle.mz_tree.specs.Code.{Case, Body, Match_op, Call_op, Spawn_op, case_list, cases_of}
use Rattle.mz_tree.specs.Programs.{Fun, Program}
use Rattle.mz_tree.proofs.Chains.{list_of_cases}
use Rattle.mz_named.specs.Configurations.{Value, Int_value, Block_value, Cell, Block_cell}
use Rattle.mz_named.specs.Bodies.{Binds, rest_of, start, body_for}
use Rattle.mz_named.specs.Operations.{ChoosesCase, IsFunction}
use Rattle.mz_named.specs.Finding.{IsFound}
use Rattle.mz_named.specs.Planning.{IsCallee, HasNoStep, Branching, Calling, Spawning}
use Rattle.mz_named.specs.View.{plain_value, plain_rest, plain_frame, value_in, env_of, cells_of}
use Rattle.mz_named.specs.declared.config.Value.{Value as CodeValue}
use Rattle.mz_named.specs.declared.config.Cell.{Cell as CodeCell}
use Rattle.mz_named.specs.declared.config.Rest.{Rest as CodeRest}
use Rattle.mz_named.specs.declared.config.Frame.{Frame as CodeFrame}
use Rattle.mz_named.proofs.OneCell.{has_block}

-- a function that the value of a name is
module _ (p : Program) (values : List CodeValue) (callee : ℕ) (v : CodeValue) (is : v ≡ value_in values callee) (count : ℕ) (fun : Fun) (found : IsCallee p (plain_value v) count fun) where
  function_of : IsFunction p (env_of values callee) count
  function_of = record { number = found.0.number; is = ap plain_value (sym is) ∙ found.0.is; fun = found.0.fun; declared = found.0.declared; sig = found.0.sig; signed = found.0.signed; many = found.0.many }

  same_fun : function_of.fun ≡ fun
  unfolding function_of
  same_fun = found.1

  starts : (args : List ℕ) (vs : List CodeValue) (frame : CodeFrame) → vs ≡ map (value_in values) args → plain_frame frame ≡ start fun (map plain_value vs) → plain_frame frame ≡ start function_of.fun (map (env_of values) args)
  starts args vs frame are begins = begins ∙ ap (λ l. start fun l) (ap (map plain_value) are ∙ map-map plain_value (value_in values) args) ∙ ap (λ f. start f (map (env_of values) args)) (sym same_fun)

  pub spawning : (to arg : ℕ) (vs : List CodeValue) (frame : CodeFrame) (values' : List CodeValue) → count ≡ 1 → vs ≡ map (value_in values) (arg ∷ []) → plain_frame frame ≡ start fun (map plain_value vs) → Binds (env_of values) to (Int_value 0) (env_of values') →
      Spawning p values to (Spawn_op callee arg) frame values'
  spawning to arg vs frame values' one are begins binds = record {
    callee = callee;
    arg = arg;
    is = refl;
    function = subst (λ n. IsFunction p (env_of values callee) n) one function_of;
    begins = starts (arg ∷ []) vs frame are begins;
    binds = binds;
  }

pub calling : (p : Program) (values : List CodeValue) (to callee : ℕ) (args : List ℕ) (v : CodeValue) (fun : Fun) (vs : List CodeValue) (frame : CodeFrame) → v ≡ value_in values callee → IsCallee p (plain_value v) (length args) fun →
    vs ≡ map (value_in values) args → plain_frame frame ≡ start fun (map plain_value vs) → Calling p values to (Call_op callee args) to frame
calling p values to callee args v fun vs frame is found are begins = record {
  callee = callee;
  args = args;
  is = refl;
  function = function_of p values callee v is (length args) fun found;
  begins = starts p values callee v is (length args) fun found args vs frame are begins;
  named = refl;
}

-- the case of a block
module _ (cells : List CodeCell) (values : List CodeValue) (name b con : ℕ) (adopter : Option ℕ) (fields : List CodeValue) (found : IsFound cells values name b con adopter fields) (to variety : ℕ) (cases : List Case) (giving : List (Atom ℕ)) where
  pub branching : (body : Body) (rest : CodeRest) → body_for con cases ≡ Some body → plain_rest rest ≡ rest_of body → Branching cells values to (Match_op name variety (cases_of cases) giving) to rest
  branching body rest is begins = record {
    body = body;
    chooses = record {
      name = b;
      is = (has_block found).is;
      con = con;
      fields = map plain_value fields;
      made = record { adopter = adopter; made = (has_block found).made };
      chosen = ap (body_for con) (list_of_cases cases) ∙ is;
    };
    begins = begins;
    named = refl;
  }

  same_name : {v : Value} {m n : ℕ} → v ≡ Block_value m → v ≡ Block_value n → m ≡ n
  same_name e f = cc

  same_con : {o : Option Cell} {m n : ℕ} {one two : Option ℕ} {vs ws : List Value} → o ≡ Some (Block_cell m one vs) → o ≡ Some (Block_cell n two ws) → m ≡ n
  same_con e f = cc

  nothing : {o : Option Body} {body : Body} → o ≡ None → o ≡ Some body → ⊥
  nothing e f = cc

  pub no_case : (p : Program) → body_for con cases ≡ None → HasNoStep p (cells_of cells) (env_of values) (Match_op name variety (cases_of cases) giving)
  no_case p none = record {
    stuck = record { no_act = λ v at' out a. a; no_stop = λ s. s; no_wait = λ w. w };
    no_choice = λ body c. chosen body c;
    no_call = λ callee args is g. no_match_call is;
    no_spawn = λ callee arg is g. no_match_spawn is;
  }
    where
      chosen : (body : Body) → ChoosesCase (cells_of cells) (env_of values name) (case_list (cases_of cases)) body → ⊥
      chosen body c =
          let same : c.name ≡ b = same_name c.is (has_block found).is in
          let con_is : c.con ≡ con = same_con (subst (λ n. cells_of cells n ≡ Some (Block_cell c.con c.made.adopter c.fields)) same c.made.made) (has_block found).made in
          nothing none (ap (body_for con) (sym (list_of_cases cases)) ∙ ap (λ n. body_for n (case_list (cases_of cases))) (sym con_is) ∙ c.chosen)

      no_match_call : {callee : ℕ} {args : List ℕ} → Match_op name variety (cases_of cases) giving ≡ Call_op callee args → ⊥
      no_match_call e = cc

      no_match_spawn : {callee arg : ℕ} → Match_op name variety (cases_of cases) giving ≡ Spawn_op callee arg → ⊥
      no_match_spawn e = cc
