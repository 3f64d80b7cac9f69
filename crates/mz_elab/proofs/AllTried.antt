-- Whether all branches would meet a goal.
use Rattle.std.proofs.Common.{◌≡◌, ◌≤◌, ℕ, ◌+◌, Bool, true, false, Result, Ok, Err, IfOk, List, [], ◌∷◌, length, drop, Some, slice_get, refl, sym, subst}
use Rattle.std.proofs.lemmas.List.{drop_all}
use Rattle.mz_tree.specs.Plain.{Atom}
use Rattle.mz_tree.specs.declared.types.Place.{Place}
use Rattle.mz_decl.specs.Declarations.{Decls}
use Rattle.mz_perm.proofs.Remaining.{drop_at}
use Rattle.mz_view.specs.declared.step.ViewStep.{ViewStep}
use Rattle.mz_goal.specs.Needs.{Need, Unmet}
use Rattle.mz_goal.specs.Answers.{MeetsNeed}
use Rattle.mz_elab.specs.Joins.{End, for_value, with_state, NotAllNeed}
use Rattle.mz_elab.specs.Lacking.{FirstLacks}
use Rattle.mz_elab.specs.Joining.{plain_end, plain_ends, Would, AllWould}
use Rattle.mz_elab.specs.declared.ends.End.{End as CodeEnd}
use Rattle.mz_elab.proofs.NotBoth.{first_not}

pub would_by : (b : Bool) (D : Decls) (c : ℕ) (g wanted : Atom ℕ) (e : End) (R T : List (Atom ℕ)) (p q : List ViewStep) → wanted ≡ for_value c e g → R ≡ e.state → MeetsNeed b D R wanted T p q → Would b D c g e
would_by true D c g wanted e R T p q h s m = (T, subst (λ x. Need D e.state x T) h (subst (λ S. Need D S wanted T) s m.0))
would_by false D c g wanted e R T p q h s m = subst (λ x. Unmet D e.state x) h (subst (λ S. Unmet D S wanted) s m.0)

pub would_ok : {E : Type 0} (o : Result Bool E) (D : Decls) (c : ℕ) (g wanted : Atom ℕ) (e : End) (R T : List (Atom ℕ)) (p q : List ViewStep) → wanted ≡ for_value c e g → R ≡ e.state → IfOk o (λ it. MeetsNeed it D R wanted T p q) → IfOk o (λ it. Would it D c g e)
would_ok (Err f) D c g wanted e R T p q h s m = tt
would_ok (Ok b) D c g wanted e R T p q h s m = would_by b D c g wanted e R T p q h s m

module _ (D : Decls) (c : ℕ) (g : Atom ℕ) (ends : List CodeEnd) where
  -- the first k would: whether all would is left to the others
  pub record Trying (k : ℕ) : Type 0 where
    pub some : AllWould true D c g (plain_ends (drop k ends)) → AllWould true D c g (plain_ends ends)
    pub none : AllWould true D c g (plain_ends ends) → AllWould true D c g (plain_ends (drop k ends))

  pub trying_start : Trying 0
  trying_start = record { some = λ a. a; none = λ a. a }

  pub trying_next : (k : ℕ) (e : CodeEnd) (b : Bool) → Trying k → slice_get ends k ≡ Some e → b ≡ true → Would b D c g (plain_end e) → Trying (k + 1)
  trying_next k e false t is h w = absurd (cc)
  trying_next k e true t is h w = record {
    some = λ a. t.some (subst (λ l. AllWould true D c g (plain_ends l)) (sym (drop_at ends k e is)) (with_state (plain_end e) w.0 ∷ a.0, (w.0, a.0, w.1, a.1, refl)));
    none = λ a. (let r = subst (λ l. AllWould true D c g (plain_ends l)) (drop_at ends k e is) (t.none a) in (r.1.1, r.1.3));
  }

  pub trying_not : (k : ℕ) (e : CodeEnd) (b : Bool) → Trying k → slice_get ends k ≡ Some e → b ≡ false → Would b D c g (plain_end e) → AllWould false D c g (plain_ends ends)
  trying_not k e true t is h w = absurd (cc)
  trying_not k e false t is h w = λ after all. (let r = subst (λ l. AllWould true D c g (plain_ends l)) (drop_at ends k e is) (t.none (after, all)) in w r.1.0 r.1.2)

  pub trying_end : (k : ℕ) → Trying k → length ends ≤ k → AllWould true D c g (plain_ends ends)
  trying_end k t h = t.some (subst (λ l. AllWould true D c g (plain_ends l)) (sym (drop_all k ends h)) ([], refl))

  pub all_met : (b : Bool) (place : Place) (a : Atom ℕ) → b ≡ true → AllWould b D c g (plain_ends ends) → FirstLacks D c g (plain_ends ends) place a → ⊥
  all_met true place a h w l = first_not D c g (plain_ends ends) w.0 place a l w.1
  all_met false place a h w l = absurd (cc)

  pub not_all : (b : Bool) → b ≡ false → AllWould b D c g (plain_ends ends) → NotAllNeed D c g (plain_ends ends)
  not_all true h w = absurd (cc)
  not_all false h w = w
