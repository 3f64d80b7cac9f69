-- The function `main` of a program of the code, and of its plain program.
use Rattle.std.proofs.Common.{◌≡◌, ℕ, zero, suc, ◌+◌, ◌<◌, ◌≤◌, List, length, Option, Some, None, refl, sym, ap, ◌∙◌, ◌⊎◌, inl, inr, slice_get, get_or, codes, map, option_map, arith}
use Rattle.std.proofs.lemmas.Option.{slice_get-map, slice_get_read, slice_get_within}
use Rattle.mz_tree.specs.Code.{Body}
use Rattle.mz_tree.specs.Programs.{Fun}
use Rattle.mz_tree.specs.declared.program.Fun.{Fun as CodeFun}
use Rattle.mz_tree.specs.declared.program.Program.{Program as CodeProgram}
use Rattle.mz_tree.specs.View.{plain_program, plain_body, plain_fun}
use Rattle.mz_cli.specs.Mains.{IsMain}

pub main_here : (program : CodeProgram) (i : ℕ) (f : CodeFun) → i < length program.funs → f ≡ get_or program.funs i f → f.name ≡ codes "main" → IsMain (plain_program program) (plain_body f.body)
main_here program i f inside is named = record {
  number = i;
  function = plain_fun f;
  declared = slice_get-map plain_fun program.funs i ∙ ap (option_map plain_fun) (slice_get_read program.funs (length program.funs) i f refl inside is);
  named = named;
  same = refl;
}

-- what stands in the plain list stands in the code's
fun_at : (functions : List CodeFun) (i : ℕ) (f : Fun) → slice_get (map plain_fun functions) i ≡ Some f → (g : CodeFun) × (slice_get functions i ≡ Some g) × (plain_fun g ≡ f)
fun_at functions i f h = found (slice_get functions i) refl
  where
    found : (o : Option CodeFun) → slice_get functions i ≡ o → (g : CodeFun) × (slice_get functions i ≡ Some g) × (plain_fun g ≡ f)
    found None e = let k : None ≡ Some f = ap (option_map plain_fun) (sym e) ∙ sym (slice_get-map plain_fun functions i) ∙ h in cc
    found (Some g) e = (g, e, let k : Some (plain_fun g) ≡ Some f = ap (option_map plain_fun) (sym e) ∙ sym (slice_get-map plain_fun functions i) ∙ h in cc)

-- where no function has the name, there is no `main`
pub no_main : (program : CodeProgram) (body : Body) → ((k : ℕ) (f : CodeFun) → k < length program.funs → slice_get program.funs k ≡ Some f → f.name ≡ codes "main" → ⊥) → IsMain (plain_program program) body → ⊥
no_main program body none main =
    let found = fun_at program.funs main.number main.function main.declared in
    none main.number found.0 (slice_get_within program.funs main.number found.0 found.1) found.1 (ap (λ (f : Fun). f.name) found.2 ∙ main.named)

-- a number is below another or is it, where it isn't above
lt_or_eq : (k i : ℕ) → k ≤ i → (k < i) ⊎ (k ≡ i)
lt_or_eq zero zero h = inr refl
lt_or_eq zero (suc i) h = inl (omega arith)
lt_or_eq (suc k) zero h = absurd (omega arith)
lt_or_eq (suc k) (suc i) h = next (lt_or_eq k i (omega (arith, h)))
  where
    next : (k < i) ⊎ (k ≡ i) → (suc k < suc i) ⊎ (suc k ≡ suc i)
    next (inl less) = inl (omega (arith, less))
    next (inr same) = inr (ap suc same)

-- none of one more, where the next isn't it
pub one_more : (functions : List CodeFun) (i : ℕ) (next : CodeFun) → i < length functions → next ≡ get_or functions i next → (next.name ≡ codes "main" → ⊥)
    → ((k : ℕ) (f : CodeFun) → k < i → slice_get functions k ≡ Some f → f.name ≡ codes "main" → ⊥)
    → (k : ℕ) (f : CodeFun) → k < i + 1 → slice_get functions k ≡ Some f → f.name ≡ codes "main" → ⊥
one_more functions i next inside is other none k f below found named = at (lt_or_eq k i (omega (arith, below)))
  where
    at : (k < i) ⊎ (k ≡ i) → ⊥
    at (inl less) = none k f less found named
    at (inr same) =
        let here : slice_get functions i ≡ Some next = slice_get_read functions (length functions) i next refl inside is in
        let both : Some next ≡ Some f = sym here ∙ ap (slice_get functions) (sym same) ∙ found in
        let equal : next ≡ f = cc in
        other (ap (λ (g : CodeFun). g.name) equal ∙ named)
