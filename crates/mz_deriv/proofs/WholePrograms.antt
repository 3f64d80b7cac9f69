-- The check of a program, from those of its functions.
use Rattle.std.proofs.Common.{◌≡◌, inl, inr, ℕ, ◌+◌, ◌<◌, ◌≤◌, List, length, map, get_or, Some, Err, slice_get, sym, ap, ◌∙◌, arith, subst}
use Rattle.std.proofs.lemmas.Bool.{cases_lt}
use Rattle.std.proofs.lemmas.List.{length-map}
use Rattle.std.proofs.lemmas.Option.{slice_get_within}
use Rattle.mz_decl.proofs.Adopters.{some_is, get_map}
use Rattle.mz_decl.proofs.Limits.{item_at}
use Rattle.mz_tree.specs.Programs.{Fun, Program}
use Rattle.mz_tree.specs.Scoped.{Scoped}
use Rattle.mz_tree.specs.View.{plain_fun, plain_program}
use Rattle.mz_tree.specs.declared.program.Fun.{Fun as CodeFun}
use Rattle.mz_tree.specs.declared.program.Program.{Program as CodeProgram}
use Rattle.mz_decl.specs.Declarations.{Decls, decls_of}
use Rattle.mz_modes.specs.Adopted.{Declared}
use Rattle.mz_deriv.specs.Scripts.{Item}
use Rattle.mz_deriv.specs.View.{plain_script, plain_derivation}
use Rattle.mz_deriv.specs.Numbers.{AreNumbers}
use Rattle.mz_deriv.specs.Derivable.{FunWalks, FunDerives, Derivable}
use Rattle.mz_deriv.specs.Refused.{RefusedAt, FunRefused, Checks}
use Rattle.mz_deriv.specs.Parts.{Derives}
use Rattle.mz_deriv.specs.declared.script.Script.{Script as CodeScript}
use Rattle.mz_deriv.specs.declared.script.Derivation.{Derivation as CodeDerivation}
use Rattle.mz_deriv.specs.declared.fault.DerivFault.{DerivFault}
use Rattle.mz_deriv.specs.declared.fault.DerivFault.TheVariants.{BadStep, BadCommand, BadJoin, Memory}
use Rattle.mz_deriv.proofs.WrittenWalks.{fun_spelled}

-- the image of what is read at a place stands there in the list of images
pub image_at : {A B : Type 0} (f : A → B) (xs : List A) (n : ℕ) (x : A) → n < length xs → x ≡ get_or xs n x → slice_get (map f xs) n ≡ Some (f x)
image_at f xs n x h e = get_map f xs n x (item_at xs n x h e)

-- a script that leads through a function, and has numbers, is a derivation of it
pub fun_derives : (p : Program) → Scoped p → (k : ℕ) (f : Fun) (script : List Item) → slice_get p.funs k ≡ Some f → AreNumbers script → FunWalks (decls_of p) f script → FunDerives p f script
fun_derives p s k f script e h w = record { spelled = fun_spelled p s k f w.sig script w.last e w.signed h w.walks; walks = w }

-- the functions below k are walked through, by scripts that have numbers
abbrev pub DerivedBelow : Decls → List CodeFun → List CodeScript → ℕ → Type 0
DerivedBelow D funs scripts k = (m : ℕ) (f : Fun) (script : List Item) → m < k → slice_get (map plain_fun funs) m ≡ Some f → slice_get (map plain_script scripts) m ≡ Some script → FunWalks D f script × AreNumbers script

-- one more is
pub derived_next : (D : Decls) (funs : List CodeFun) (scripts : List CodeScript) (k : ℕ) (fun : CodeFun) (script : CodeScript) → k < length funs → fun ≡ get_or funs k fun → k < length scripts → script ≡ get_or scripts k script →
    DerivedBelow D funs scripts k → FunWalks D (plain_fun fun) (plain_script script) → AreNumbers (plain_script script) → DerivedBelow D funs scripts (k + 1)
derived_next D funs scripts k fun script h e i s below d n m f q l ef eq = elim (cases_lt m k) [
  | inl small ↦ below m f q small ef eq
  | inr large ↦ (
      let same : k ≡ m = omega arith in
      let is_fun : plain_fun fun ≡ f = some_is _ _ (sym (image_at plain_fun funs k fun h e) ∙ ap (slice_get (map plain_fun funs)) same ∙ ef) in
      let is_script : plain_script script ≡ q = some_is _ _ (sym (image_at plain_script scripts k script i s) ∙ ap (slice_get (map plain_script scripts)) same ∙ eq) in
      (subst (λ g. FunWalks D f g) is_script (subst (λ g. FunWalks D g (plain_script script)) is_fun d), subst AreNumbers is_script n)
      )
]

module _ (p : CodeProgram) (e : CodeDerivation) (D : Decls) (funs : List CodeFun) (scripts : List CodeScript) (is_decls : D ≡ decls_of (plain_program p)) (is_funs : funs ≡ p.funs) (is_scripts : scripts ≡ e.scripts) where
  -- all have: the derivation is one of the program
  pub all_derived : (k : ℕ) → Scoped (plain_program p) → Declared (plain_program p) → length e.scripts ≡ length p.funs → length funs ≤ k → DerivedBelow D funs scripts k → Derivable (plain_program p) (plain_derivation e)
  all_derived k scoped declared one_each h below = record {
    declared = declared;
    one_each = length-map e.scripts plain_script ∙ one_each ∙ sym (length-map p.funs plain_fun);
    derives = λ m f script ef es.
        let within : m < length (map plain_fun p.funs) = slice_get_within (map plain_fun p.funs) m f ef in
        let few : length (map plain_fun p.funs) ≡ length funs = length-map p.funs plain_fun ∙ ap length (sym is_funs) in
        let d = below m f script (omega arith) (ap (λ l. slice_get (map plain_fun l) m) is_funs ∙ ef) (ap (λ l. slice_get (map plain_script l) m) is_scripts ∙ es) in
        fun_derives (plain_program p) scoped m f script ef d.1 (subst (λ d. FunWalks d f script) is_decls d.0);
  }

  -- one is refused, and those before it have
  refused_here : (k : ℕ) (fun : CodeFun) (script : CodeScript) (fault : DerivFault) → k < length funs → fun ≡ get_or funs k fun → k < length scripts → script ≡ get_or scripts k script → DerivedBelow D funs scripts k →
      FunRefused D (plain_fun fun) (plain_script script) fault → RefusedAt (plain_program p) (plain_derivation e) fault
  refused_here k fun script fault h ef i es below r = record {
    k = k;
    fun = plain_fun fun;
    declared = ap (λ l. slice_get (map plain_fun l) k) (sym is_funs) ∙ image_at plain_fun funs k fun h ef;
    script = plain_script script;
    scripted = ap (λ l. slice_get (map plain_script l) k) (sym is_scripts) ∙ image_at plain_script scripts k script i es;
    before = λ m f s l gf gs.
        let d = below m f s l (ap (λ l. slice_get (map plain_fun l) m) is_funs ∙ gf) (ap (λ l. slice_get (map plain_script l) m) is_scripts ∙ gs) in
        subst (λ d. FunWalks d f s) is_decls d.0;
    refused = subst (λ d. FunRefused d (plain_fun fun) (plain_script script) fault) is_decls r;
  }

  pub one_refused : (k : ℕ) (fun : CodeFun) (script : CodeScript) (fault : DerivFault) → k < length funs → fun ≡ get_or funs k fun → k < length scripts → script ≡ get_or scripts k script → DerivedBelow D funs scripts k →
      Derives {A = Unit {0}} D (plain_fun fun) (plain_script script) (Err fault) → Checks {A = Unit {0}} (plain_program p) (plain_derivation e) (Err fault)
  one_refused k fun script (BadStep q n) h ef i es below r = refused_here k fun script (BadStep q n) h ef i es below r
  one_refused k fun script (BadCommand q) h ef i es below r = refused_here k fun script (BadCommand q) h ef i es below r
  one_refused k fun script (BadJoin q) h ef i es below r = refused_here k fun script (BadJoin q) h ef i es below r
  one_refused k fun script Memory h ef i es below r = tt
