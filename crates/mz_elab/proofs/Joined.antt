-- The four parts of a join, put together.
use Rattle.std.proofs.Common.{◌≡◌, ℕ, arith, Ok, Err, List, [], ◌∷◌, ◌++◌, length, get_or, refl, ap, ◌∙◌, subst}
use Rattle.mz_tree.specs.Plain.{Atom}
use Rattle.mz_tree.specs.View.{plain_atoms}
use Rattle.mz_tree.specs.declared.types.Atom.{Atom as CodeAtom}
use Rattle.mz_decl.specs.Declarations.{Decls}
use Rattle.mz_elab.specs.Joins.{first_state, Shares, Restores, Joins}
use Rattle.mz_elab.specs.Joining.{plain_ends, AllGiven, ValuesAll, SharesAll, RestoresAll, JoinsEnds}
use Rattle.mz_elab.specs.declared.ends.End.{End as CodeEnd}
use Rattle.mz_elab.specs.declared.fault.ElabFault.{ElabFault}
use Rattle.mz_elab.specs.declared.fault.ElabFault.TheVariants.{NoPermission, Memory}

-- what is given is wanting, or memory is
pub not_given : (D : Decls) (K : ℕ → Type 0) (names : List ℕ) (R : List (Atom ℕ)) (c : ℕ) (giving : List (Atom ℕ)) (ends mid after : List CodeEnd) (f : ElabFault) → AllGiven {A = Unit {0}} D K c giving ends mid (Err f) → JoinsEnds D K names R c giving ends after (Err f)
not_given D K names R c giving ends mid after (NoPermission place a) l = l
not_given D K names R c giving ends mid after Memory l = tt

-- the first state
pub none_first : (ends : List CodeEnd) → length ends ≡ 0 → first_state (plain_ends ends) ≡ []
none_first [] e = refl
none_first (x ∷ xs) e = absurd (omega (arith, e))

pub some_first : (ends : List CodeEnd) (d : CodeEnd) → (length ends ≡ 0 → ⊥) → first_state (plain_ends ends) ≡ (get_or ends 0 d).state
some_first [] d n = absurd (n refl)
some_first (x ∷ xs) d n = refl

-- ---- what is shared is shown with no step written

module _ (D : Decls) (K : ℕ → Type 0) (names : List ℕ) (R : List (Atom ℕ)) (c : ℕ) where
  pub joined : (giving : List (Atom ℕ)) (old given valued shared restored : List CodeEnd) (start known share all : List CodeAtom) (these : List (Atom ℕ)) →
      AllGiven {A = Unit {0}} D K c giving old given (Ok tt) → plain_atoms start ≡ giving → ValuesAll D K names R c given valued (plain_atoms start) (plain_atoms known) →
      these ≡ first_state (plain_ends valued) → SharesAll D names R these valued shared (plain_atoms known) (plain_atoms share) → RestoresAll D K c R (plain_atoms share) shared restored (plain_atoms all) →
      Joins D names R c giving (plain_ends old) (plain_atoms all)
  joined giving old given valued shared restored start known share all these g s v t h r = record {
    given = plain_ends given;
    gives = g.0;
    valued = plain_ends valued;
    value = v.value;
    values = v.values;
    shared = plain_ends shared;
    share = h.share;
    shares = subst (λ l. Shares D names R l (plain_ends valued) (plain_ends shared) h.share) t h.shares;
    restored = plain_ends restored;
    restores = subst (λ l. Restores D c R l (plain_ends shared) (plain_ends restored) (plain_atoms all)) (h.is ∙ ap (λ l. l ++ h.share) (v.is ∙ ap (λ l. l ++ v.value) s)) r.restores;
  }
