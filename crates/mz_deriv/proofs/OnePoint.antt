-- A derivation is refused nowhere, and what is refused is refused at one point: the same function is the first that is
-- refused, and in it the same point.
use Rattle.std.proofs.Common.{◌≡◌, inl, inr, ℕ, List, slice_get, refl, sym, ap, ◌∙◌, arith, subst}
use Rattle.std.proofs.lemmas.Bool.{cases_lt}
use Rattle.mz_tree.specs.Plain.{Atom}
use Rattle.mz_tree.specs.Code.{commands_in, result_of, brace_of}
use Rattle.mz_tree.specs.Programs.{Sig, Fun, Program}
use Rattle.mz_decl.specs.Declarations.{Decls, decls_of}
use Rattle.mz_decl.specs.Signatures.{parameters, needed, owed}
use Rattle.mz_decl.proofs.Adopters.{some_is}
use Rattle.mz_modes.specs.Affine.{AffineAtom}
use Rattle.mz_perm.specs.Using.{UsesUpAll}
use Rattle.mz_perm.proofs.Orders.{perm_refl, all_same}
use Rattle.mz_deriv.specs.Scripts.{Item}
use Rattle.mz_deriv.specs.Walks.{Walks}
use Rattle.mz_deriv.specs.Derivable.{FunWalks, Derivable}
use Rattle.mz_deriv.specs.Refused.{Refuses, FunRefused, Body_refused, Owed_refused, RefusedAt}
use Rattle.mz_deriv.specs.declared.fault.DerivFault.{DerivFault}
use Rattle.mz_deriv.proofs.RuleOrders.{Orders}
use Rattle.mz_deriv.proofs.Steadiness.{walks_alike, walked_not_refused, refused_once}

-- the end of a function uses up what a body of this signature owes
abbrev AllOwed : Decls → Fun → List (Atom ℕ) → List (Atom ℕ) → Sig → Type 0
AllOwed D f last rest sig = UsesUpAll (AffineAtom D) (owed sig (result_of f.body)) last rest

-- a walk of a body that begins as the signature says, and a refusal in it
abbrev WalkOf : Decls → Fun → List Item → List (Atom ℕ) → Sig → Type 0
WalkOf D f script last sig = Walks D (parameters sig) (needed sig.needs) (commands_in f.body) script last

abbrev RefusalOf : Decls → Fun → List Item → DerivFault → Sig → Type 0
RefusalOf D f script fault sig = Refuses D (parameters sig) (needed sig.needs) (commands_in f.body) script (brace_of f.body) 0 fault

module _ (o : Orders) where
  -- a function whose script leads through its body isn't refused
  pub fun_walks_not_refused : (D : Decls) (f : Fun) (script : List Item) (fault : DerivFault) → FunWalks D f script → FunRefused D f script fault → ⊥
  fun_walks_not_refused D f script fault w (Body_refused sig signed r) =
      let same : w.sig ≡ sig = some_is _ _ (sym w.signed ∙ signed) in
      walked_not_refused o D (needed sig.needs) (perm_refl (needed sig.needs)) (subst (λ (s : Sig). WalkOf D f script w.last s) same w.walks) r
  fun_walks_not_refused D f script _ w (Owed_refused sig {last = last} signed walks n) =
      let same : w.sig ≡ sig = some_is _ _ (sym w.signed ∙ signed) in
      let alike = walks_alike o D (needed sig.needs) last (perm_refl (needed sig.needs)) (subst (λ (s : Sig). WalkOf D f script w.last s) same w.walks) walks in
      let all = all_same (AffineAtom D) (owed w.sig (result_of f.body)) w.last last w.rest alike w.ends in
      n all.0 (subst (λ (s : Sig). AllOwed D f last all.0 s) same all.1)

  -- a function is refused at one point
  pub fun_refused_once : (D : Decls) (f : Fun) (script : List Item) (fault other : DerivFault) → FunRefused D f script fault → FunRefused D f script other → fault ≡ other
  fun_refused_once D f script fault other (Body_refused sig signed r) (Body_refused sig' signed' r') =
      let same : sig ≡ sig' = some_is _ _ (sym signed ∙ signed') in
      refused_once o D (needed sig'.needs) (perm_refl (needed sig'.needs)) (subst (λ (s : Sig). RefusalOf D f script fault s) same r) r'
  fun_refused_once D f script fault _ (Body_refused sig signed r) (Owed_refused sig' {last = last} signed' walks n) =
      let same : sig' ≡ sig = some_is _ _ (sym signed' ∙ signed) in
      absurd (walked_not_refused o D (needed sig.needs) (perm_refl (needed sig.needs)) (subst (λ (s : Sig). WalkOf D f script last s) same walks) r)
  fun_refused_once D f script _ other (Owed_refused sig {last = last} signed walks n) (Body_refused sig' signed' r) =
      let same : sig ≡ sig' = some_is _ _ (sym signed ∙ signed') in
      absurd (walked_not_refused o D (needed sig'.needs) (perm_refl (needed sig'.needs)) (subst (λ (s : Sig). WalkOf D f script last s) same walks) r)
  fun_refused_once D f script _ _ (Owed_refused sig signed walks n) (Owed_refused sig' signed' walks' n') = refl

  -- no derivation is refused: the function that is refused has one
  pub not_refused : (p : Program) (scripts : List (List Item)) (fault : DerivFault) → Derivable p scripts → RefusedAt p scripts fault → ⊥
  not_refused p scripts fault d r = fun_walks_not_refused (decls_of p) r.fun r.script fault (d.derives r.k r.fun r.script r.declared r.scripted).walks r.refused

  -- the first function that is refused is one function, since those before it aren't
  pub one_point : (p : Program) (scripts : List (List Item)) (fault other : DerivFault) → RefusedAt p scripts fault → RefusedAt p scripts other → fault ≡ other
  one_point p scripts fault other r q = elim (cases_lt r.k q.k) [
    | inl before ↦ absurd (fun_walks_not_refused (decls_of p) r.fun r.script fault (q.before r.k r.fun r.script before r.declared r.scripted) r.refused)
    | inr after ↦ elim (cases_lt q.k r.k) [
      | inl before ↦ absurd (fun_walks_not_refused (decls_of p) q.fun q.script other (r.before q.k q.fun q.script before q.declared q.scripted) q.refused)
      | inr after' ↦ (
          let here : r.k ≡ q.k = omega arith in
          let fun : r.fun ≡ q.fun = some_is _ _ (sym r.declared ∙ ap (slice_get p.funs) here ∙ q.declared) in
          let script : r.script ≡ q.script = some_is _ _ (sym r.scripted ∙ ap (slice_get scripts) here ∙ q.scripted) in
          fun_refused_once (decls_of p) q.fun q.script fault other (subst (λ s. FunRefused (decls_of p) q.fun s fault) script (subst (λ f. FunRefused (decls_of p) f r.script fault) fun r.refused)) q.refused
          )
    ]
  ]
