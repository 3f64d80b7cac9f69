-- Functions and programs: what is guided lacks nothing, and there is one first goal that can't be met.
use Rattle.std.proofs.Common.{◌≡◌, ◌⊎◌, ◌<◌, inl, inr, ℕ, zero, suc, arith, List, Some, slice_get, refl, sym, ap, ◌∙◌, subst}
use Rattle.mz_tree.specs.Plain.{Atom}
use Rattle.mz_tree.specs.Code.{commands_in, result_of}
use Rattle.mz_tree.specs.Programs.{Sig, Fun, Program}
use Rattle.mz_tree.specs.declared.types.Place.{Place}
use Rattle.mz_decl.specs.Declarations.{Decls, decls_of}
use Rattle.mz_decl.specs.Signatures.{parameters, needed, owed}
use Rattle.mz_goal.specs.Needs.{FirstUnmet}
use Rattle.mz_elab.specs.Guided.{Guided, GuidedFun, GuidedProgram}
use Rattle.mz_elab.specs.Lacking.{Lacks, LacksFun, Lacks_body, Lacks_end, LacksProgram}
use Rattle.mz_elab.proofs.OneWay.{guided_same}
use Rattle.mz_elab.proofs.NotBoth.{unmet_not, lacks_not}
use Rattle.mz_elab.proofs.Once.{OnePoint, unmet_once, lacks_once}

some_is : {A : Type 0} (a b : A) → Some a ≡ Some b → a ≡ b
some_is a b e = cc

-- a function seen from its signature
abbrev Body : Decls → Fun → Sig → List (Atom ℕ) → ℕ → Type 0
Body D f s last next = Guided D (parameters s) (needed s.needs) 256 (commands_in f.body) last next

abbrev Lacking : Decls → Fun → Sig → Place → Atom ℕ → Type 0
Lacking D f s p a = Lacks D (parameters s) (needed s.needs) 256 (commands_in f.body) p a

pub fun_not : (D : Decls) (f : Fun) (p : Place) (a : Atom ℕ) → LacksFun D f p a → GuidedFun D f → ⊥
fun_not D f _ _ (Lacks_body s p a e l) g =
    let same : s ≡ g.sig = some_is s g.sig (sym e ∙ g.signed) in
    lacks_not D (parameters g.sig) (needed g.sig.needs) 256 (commands_in f.body) p a g.last g.next (subst (λ z. Lacking D f z p a) same l) g.body
fun_not D f _ _ (Lacks_end s last next a e b u) g =
    let same : s ≡ g.sig = some_is s g.sig (sym e ∙ g.signed) in
    let one = guided_same D (parameters g.sig) (needed g.sig.needs) 256 (commands_in f.body) last g.last next g.next (subst (λ z. Body D f z last next) same b) g.body in
    unmet_not D g.last (owed g.sig (result_of f.body)) a g.left (subst (λ S. FirstUnmet D S (owed g.sig (result_of f.body)) a) one.0 (subst (λ z. FirstUnmet D last (owed z (result_of f.body)) a) same u)) g.ends

pub fun_once : (D : Decls) (f : Fun) (p q : Place) (a b : Atom ℕ) → LacksFun D f p a → LacksFun D f q b → OnePoint p q a b
fun_once D f _ _ _ _ (Lacks_body s p a e l) (Lacks_body r q b d m) =
    let same : r ≡ s = some_is r s (sym d ∙ e) in
    lacks_once D (parameters s) (needed s.needs) 256 (commands_in f.body) p q a b l (subst (λ z. Lacking D f z q b) same m)
fun_once D f _ _ _ _ (Lacks_body s p a e l) (Lacks_end r last next b d g u) =
    let same : r ≡ s = some_is r s (sym d ∙ e) in
    absurd (lacks_not D (parameters s) (needed s.needs) 256 (commands_in f.body) p a last next l (subst (λ z. Body D f z last next) same g))
fun_once D f _ _ _ _ (Lacks_end s last next a e g u) (Lacks_body r q b d m) =
    let same : r ≡ s = some_is r s (sym d ∙ e) in
    absurd (lacks_not D (parameters s) (needed s.needs) 256 (commands_in f.body) q b last next (subst (λ z. Lacking D f z q b) same m) g)
fun_once D f _ _ _ _ (Lacks_end s last next a e g u) (Lacks_end r last2 next2 b d h v) =
    let same : r ≡ s = some_is r s (sym d ∙ e) in
    let one = guided_same D (parameters s) (needed s.needs) 256 (commands_in f.body) last2 last next2 next (subst (λ z. Body D f z last2 next2) same h) g in
    (refl, unmet_once D last (owed s (result_of f.body)) a b u (subst (λ S. FirstUnmet D S (owed s (result_of f.body)) b) one.0 (subst (λ z. FirstUnmet D last2 (owed z (result_of f.body)) b) same v)))

pub program_not : (p : Program) (at : Place) (a : Atom ℕ) → LacksProgram p at a → GuidedProgram p → ⊥
program_not p at a l g = fun_not (decls_of p) l.fun at a l.lacks (g.funs l.k l.fun l.found)

order : (n m : ℕ) → (n ≡ m) ⊎ ((n < m) ⊎ (m < n))
order zero zero = inl refl
order zero (suc m) = inr (inl (omega arith))
order (suc n) zero = inr (inr (omega arith))
order (suc n) (suc m) = elim (order n m) [
  | inl e ↦ inl (ap suc e)
  | inr s ↦ elim s [ inl l ↦ inr (inl (omega (arith, l))) | inr l ↦ inr (inr (omega (arith, l))) ]
]

pub program_once : (p : Program) (at other : Place) (a b : Atom ℕ) → LacksProgram p at a → LacksProgram p other b → OnePoint at other a b
program_once p at other a b l m = elim (order l.k m.k) [
  | inl e ↦ (
      let same : l.fun ≡ m.fun = some_is l.fun m.fun (sym l.found ∙ ap (slice_get p.funs) e ∙ m.found) in
      fun_once (decls_of p) m.fun at other a b (subst (λ f. LacksFun (decls_of p) f at a) same l.lacks) m.lacks)
  | inr s ↦ elim s [
    | inl h ↦ absurd (fun_not (decls_of p) l.fun at a l.lacks (m.before l.k l.fun h l.found))
    | inr h ↦ absurd (fun_not (decls_of p) m.fun other b m.lacks (l.before m.k m.fun h m.found))
  ]
]
