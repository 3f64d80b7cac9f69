-- The parts of a function came one after the other, and so the function.
use Rattle.std.proofs.Common.{◌≡◌, ℕ, ◌<◌, ◌≤◌, List, [], Option, Some, None, map, length, get_or, slice_get, refl, sym, ap, ◌∙◌, subst}
use Rattle.std.specs.Prelude.{option_map}
use Rattle.std.proofs.lemmas.Option.{slice_get-map, slice_get_past, slice_get_read}
use Rattle.mz_tree.specs.Code.{Body}
use Rattle.mz_tree.specs.Programs.{Fun}
use Rattle.mz_scope.specs.declared.making.CoreName.{CoreName as CodeName}
use Rattle.mz_scope.specs.Syntax.{Word, FunTree}
use Rattle.mz_scope.specs.Names.{find, Globals, FunEntry}
use Rattle.mz_scope.specs.Making.{CoreName, Made, Came, Came_to, Part}
use Rattle.mz_scope.specs.Declarations.{FunctionBody, declares, param_name, body_made, with_params, too_many, function}
use Rattle.mz_scope.specs.FunctionBodies.{body_part, sig_by_name}
use Rattle.mz_scope.specs.View.{core_name_of}
use Rattle.mz_scope.proofs.Lists.{next_came}

-- a body came where the first core names are the parameters, and all core names were taken out
pub with_params_came : (params : List Word) (part : Part Body) (names all : List CoreName) (b : Body) (m m1 m2 m3 : Made)
    → names ≡ map param_name params → m1 ≡ record m { names = names } → part m1 ≡ Came_to b m2 → all ≡ m2.names → m3 ≡ record m2 { names = [] }
    → with_params params part m ≡ Came_to (record { body = b; names = all }) m3
with_params_came params part names all b m m1 m2 m3 e1 e2 h e3 e4 =
    ap (λ l. body_made (part (record m { names = l }))) (sym e1) ∙ ap (λ x. body_made (part x)) (sym e2) ∙ ap body_made h
    ∙ ap (λ l. Came_to (record { body = b; names = l }) (record m2 { names = [] })) (sym e3) ∙ ap (Came_to (record { body = b; names = all })) (sym e4)

-- no core name is past the most that may be
pub few : (names : List CodeName) → length names ≤ 256 → slice_get (map core_name_of names) 256 ≡ None
few names h = slice_get-map core_name_of names 256 ∙ ap (option_map core_name_of) (slice_get_past names 256 h)

pub many : (names : List CodeName) (past : CodeName) → 256 < length names → past ≡ get_or names 256 past → slice_get (map core_name_of names) 256 ≡ Some (core_name_of past)
many names past h e = slice_get-map core_name_of names 256 ∙ ap (option_map core_name_of) (slice_get_read names (length names) 256 past refl h e)

module _ (g : Globals) where
  abbrev pub first_fun : List ℕ → Option ℕ
  first_fun name = option_map (λ (f : FunEntry). f.number) (find g.funs name)

  abbrev spellings_of : List CoreName → List (List ℕ)
  spellings_of names = map (λ (n : CoreName). n.spelling) names

  pub function_came : (f : ℕ) (x : FunTree) (first : Option ℕ) (s : ℕ) (body : FunctionBody) (name : List ℕ) (spelling : List (List ℕ)) (m m1 m2 m3 m4 : Made)
      → first ≡ first_fun x.name.text → declares first f 1000 x.name m ≡ Came_to tt m1 → sig_by_name g x.sig m1 ≡ Came_to s m2
      → body_part g x.sig x.block m2 ≡ Came_to body m3 → too_many (slice_get body.names 256) m3 ≡ Came_to tt m4
      → name ≡ x.name.text → spelling ≡ spellings_of body.names
      → function g f x m ≡ Came_to (record { name = name; sig = s; body = body.body; spelling = spelling }) m4
  function_came f x first s body name spelling m m1 m2 m3 m4 e1 h1 h2 h3 h4 e2 e3 =
      let made : Came Fun = Came_to (record { name = x.name.text; sig = s; body = body.body; spelling = spellings_of body.names }) m4 in
      let declared : declares (first_fun x.name.text) f 1000 x.name m ≡ Came_to tt m1 = subst (λ o. declares o f 1000 x.name m ≡ Came_to tt m1) e1 h1 in
      next_came _ (declares (first_fun x.name.text) f 1000 x.name m) tt m1 made declared
      (next_came _ (sig_by_name g x.sig m1) s m2 made h2
      (next_came _ (body_part g x.sig x.block m2) body m3 made h3
      (next_came _ (too_many (slice_get body.names 256) m3) tt m4 made h4 refl)))
      ∙ ap (λ t. Came_to (record { name = t; sig = s; body = body.body; spelling = spellings_of body.names }) m4) (sym e2)
      ∙ ap (λ l. Came_to (record { name = name; sig = s; body = body.body; spelling = l }) m4) (sym e3)
