-- Whole functions and programs, by what the walk of a body and the goals of its end answer.
use Rattle.std.proofs.Common.{◌≡◌, inl, inr, ℕ, ◌+◌, ◌<◌, ◌≤◌, List, length, map, get_or, Some, Err, slice_get, sym, ap, ◌∙◌, subst, arith}
use Rattle.std.proofs.lemmas.Bool.{cases_lt}
use Rattle.std.proofs.lemmas.List.{length-map}
use Rattle.std.proofs.lemmas.Option.{slice_get_within}
use Rattle.mz_tree.specs.Plain.{Atom}
use Rattle.mz_tree.specs.Code.{result_of, brace_of}
use Rattle.mz_tree.specs.Programs.{Sig, Fun, Program}
use Rattle.mz_tree.specs.View.{plain_atom, plain_fun, plain_program}
use Rattle.mz_tree.specs.declared.program.Fun.{Fun as CodeFun}
use Rattle.mz_tree.specs.declared.program.Program.{Program as CodeProgram}
use Rattle.mz_decl.specs.Declarations.{Decls, decls_of}
use Rattle.mz_decl.specs.Signatures.{parameters, needed, owed}
use Rattle.mz_decl.proofs.Adopters.{some_is}
use Rattle.mz_modes.specs.Adopted.{Declared}
use Rattle.mz_deriv.specs.Scripts.{Item}
use Rattle.mz_deriv.proofs.WholePrograms.{image_at}
use Rattle.mz_goal.specs.Needs.{Needs}
use Rattle.mz_elab.specs.Joining.{MeetsGoals}
use Rattle.mz_elab.specs.Guided.{GuidedFun, GuidedProgram}
use Rattle.mz_elab.specs.Lacking.{LacksFun, Lacks_body, Lacks_end}
use Rattle.mz_elab.specs.Walking.{BodyOr, WalksTo}
use Rattle.mz_elab.specs.Scoping.{FunScoped, ScopedBody}
use Rattle.mz_elab.specs.Elaborating.{BodyScoped, Elaborates, FunOr}
use Rattle.mz_elab.specs.declared.ends.End.{End as CodeEnd}
use Rattle.mz_elab.specs.declared.fault.ElabFault.{ElabFault}
use Rattle.mz_elab.specs.declared.fault.ElabFault.TheVariants.{NoPermission, Memory}

module _ (D : Decls) (f : Fun) (sig : Sig) (signed : slice_get D.sigs f.sig ≡ Some sig) where
  -- the body lacks it
  pub body_fault : (k : ℕ) (fault : ElabFault) → BodyOr D (parameters sig) (needed sig.needs) 256 f.body k (Err fault) → FunOr {A = Unit {0}} D f (Err fault)
  body_fault k (NoPermission place a) l = Lacks_body sig place (plain_atom a) signed l
  body_fault k Memory l = record {}

  module _ (k : ℕ) (e : CodeEnd) (w : WalksTo D (parameters sig) (needed sig.needs) 256 f.body k e) where
    -- the end does
    pub end_fault : (K : ℕ → Type 0) (T : List (Atom ℕ)) (items more : List Item) (fault : ElabFault) → MeetsGoals {A = Unit {0}} D K e.state (owed sig (result_of f.body)) (brace_of f.body) T items more (Err fault) → FunOr {A = Unit {0}} D f (Err fault)
    end_fault K T items more (NoPermission place a) l = subst (λ p. LacksFun D f p (plain_atom a)) (sym l.0) (Lacks_end sig e.state k (plain_atom a) signed w.guided l.1)
    end_fault K T items more Memory l = record {}

    pub fun_guided : (left : List (Atom ℕ)) → Needs D e.state (owed sig (result_of f.body)) left → GuidedFun D f
    fun_guided left n = record { sig = sig; signed = signed; last = e.state; next = k; body = w.guided; left = left; ends = n }

-- the functions below this one are guided
abbrev pub FunsBelow : Decls → List CodeFun → ℕ → Type 0
FunsBelow D funs k = (m : ℕ) (f : Fun) → m < k → slice_get (map plain_fun funs) m ≡ Some f → GuidedFun D f

pub funs_next : (D : Decls) (funs : List CodeFun) (k : ℕ) (fun : CodeFun) → k < length funs → fun ≡ get_or funs k fun → FunsBelow D funs k → GuidedFun D (plain_fun fun) → FunsBelow D funs (k + 1)
funs_next D funs k fun h e below g m f l ef = elim (cases_lt m k) [
  | inl small ↦ below m f small ef
  | inr large ↦ let same : k ≡ m = omega arith in subst (GuidedFun D) (some_is _ _ (sym (image_at plain_fun funs k fun h e) ∙ ap (slice_get (map plain_fun funs)) same ∙ ef)) g
]

-- what the scope of a program says of its functions, over its declarations as they are held
module _ (p : Program) (D : Decls) (is_decls : D ≡ decls_of p) (f : Fun) (fs : FunScoped p f) where
  pub fun_signed : f.sig < length D.sigs
  fun_signed = subst (λ (E : Decls). f.sig < length E.sigs) (sym is_decls) (slice_get_within (decls_of p).sigs f.sig fs.sig fs.signed)

  pub fun_body : BodyScoped D f
  fun_body = subst (λ (E : Decls). BodyScoped E f) (sym is_decls) (λ sig s. subst (λ (x : Sig). ScopedBody (decls_of p) (parameters x) f.body) (some_is fs.sig sig (sym fs.signed ∙ s)) fs.body)

module _ (p : CodeProgram) (D : Decls) (funs : List CodeFun) (is_decls : D ≡ decls_of (plain_program p)) (is_funs : funs ≡ p.funs) (k : ℕ) where
  -- a function of the program
  pub fun_at : (fun : CodeFun) → k < length funs → fun ≡ get_or funs k fun → slice_get (plain_program p).funs k ≡ Some (plain_fun fun)
  fun_at fun h e = ap (λ l. slice_get (map plain_fun l) k) (sym is_funs) ∙ image_at plain_fun funs k fun h e

  pub program_fault : (fun : CodeFun) (fault : ElabFault) → k < length funs → fun ≡ get_or funs k fun → FunsBelow D funs k → FunOr {A = Unit {0}} D (plain_fun fun) (Err fault) → Elaborates {A = Unit {0}} (plain_program p) (Err fault)
  program_fault fun (NoPermission place a) h e below l = record {
    k = k;
    fun = plain_fun fun;
    found = fun_at fun h e;
    before = λ j f s g. subst (λ (E : Decls). GuidedFun E f) is_decls (below j f s (ap (λ l. slice_get (map plain_fun l) j) is_funs ∙ g));
    lacks = subst (λ (E : Decls). LacksFun E (plain_fun fun) place (plain_atom a)) is_decls l;
  }
  program_fault fun Memory h e below l = record {}

  pub program_guided : Declared (plain_program p) → length funs ≤ k → FunsBelow D funs k → GuidedProgram (plain_program p)
  program_guided declared h below = record {
    declared = declared;
    funs = λ m f e. let g = ap (λ l. slice_get (map plain_fun l) m) is_funs ∙ e in
        let w : m < length (map plain_fun funs) = slice_get_within (map plain_fun funs) m f g in
        subst (λ (E : Decls). GuidedFun E f) is_decls (below m f (omega (arith, h, w, length-map funs plain_fun)) g);
  }
