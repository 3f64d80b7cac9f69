-- What parts of the code read where a search doesn't find it: a lock, which cases of a match have a script, the join behind them.
use Rattle.std.proofs.Common.{◌≡◌, ◌==◌, ℕ, Bool, true, false, List, [], ◌∷◌, map, length, Option, Some, None, Ok, codes, refl, sym, ap, ◌∙◌, if◌then◌else◌}
use Rattle.mz_grammar.specs.Reading.{Read, ◌>>=◌}
use Rattle.mz_tree.specs.Plain.{Ty, Atom, Has_atom, Same_atom, Int_type, Unknown_type, Dynamic_type, Locked_type, Named_type, Function_type, Block_type, Lock_type, atoms_of}
use Rattle.mz_tree.specs.Programs.{Program}
use Rattle.mz_tree.specs.Code.{Cases, The_case, No_cases, More_cases, case_list}
use Rattle.mz_flow.specs.Branches.{cases_at}
use Rattle.mz_flow.specs.Walking.{known_con}
use Rattle.mz_deriv.specs.Scripts.{script_cases_of}
use Rattle.mz_deriv.specs.View.{plain_script_case}
use Rattle.mz_deriv.specs.declared.script.ScriptCase.{ScriptCase as CodeCase}
use Rattle.mz_script.specs.Pieces.{Piece}
use Rattle.mz_script.specs.Places.{Walked, All_cases, Of_con, has_case, known_if, walked_by}
use Rattle.mz_script.specs.Reading.{join_at, join_by}
use Rattle.mz_script.specs.Fronts.{text_at}
use Rattle.mz_script.specs.ReadWords.{opening_at, atoms_by, lock_by}
use Rattle.mz_script.proofs.Undoing.{goes}

-- a lock: its bracket, what it guards, and the bracket's end
pub lock_done : (p : Program) (inner : List ℕ → Read ℕ (Ty ℕ)) (d : ℕ) (bytes r q s : List ℕ) (atoms : List (Atom ℕ)) → opening_at d (codes " (") bytes ≡ Ok (tt, r) → atoms_by p inner r ≡ Ok (atoms, q) → text_at (codes ")") q ≡ Ok (tt, s) →
    lock_by p inner d bytes ≡ Ok (Lock_type (atoms_of atoms), s)
unfolding lock_by
lock_done p inner d bytes r q s atoms one two three =
    goes (opening_at d (codes " (") bytes) (λ o. atoms_by p inner o.1 >>= λ guarded. text_at (codes ")") guarded.1 >>= λ e. Ok (Lock_type (atoms_of guarded.0), e.1)) (tt, r) one
    ∙ goes (atoms_by p inner r) (λ guarded. text_at (codes ")") guarded.1 >>= λ e. Ok (Lock_type (atoms_of guarded.0), e.1)) (atoms, q) two
    ∙ goes (text_at (codes ")") q) (λ e. Ok (Lock_type (atoms_of atoms), e.1)) (tt, s) three

-- where there is a case of the constructor it is known, and else all cases are walked
known_here : (con : ℕ) (all : Cases) → has_case con all ≡ true → known_if con (cases_at con (case_list all)) ≡ Of_con con
known_here con No_cases e = cc
known_here con (More_cases (The_case k body) rest) e = by_test (k == con) (known_here con rest) e
  where
    by_test : (t : Bool) → (has_case con rest ≡ true → known_if con (cases_at con (case_list rest)) ≡ Of_con con) → (if t then true else has_case con rest) ≡ true →
        known_if con (if t then The_case k body ∷ cases_at con (case_list rest) else cases_at con (case_list rest)) ≡ Of_con con
    by_test true more h = refl
    by_test false more h = more h

known_nowhere : (con : ℕ) (all : Cases) → has_case con all ≡ false → known_if con (cases_at con (case_list all)) ≡ All_cases
known_nowhere con No_cases e = refl
known_nowhere con (More_cases (The_case k body) rest) e = by_test (k == con) (known_nowhere con rest) e
  where
    by_test : (t : Bool) → (has_case con rest ≡ false → known_if con (cases_at con (case_list rest)) ≡ All_cases) → (if t then true else has_case con rest) ≡ false →
        known_if con (if t then The_case k body ∷ cases_at con (case_list rest) else cases_at con (case_list rest)) ≡ All_cases
    by_test true more h = cc
    by_test false more h = more h

pub walked_known : (uses : Option (Atom ℕ)) (all : Cases) (con : ℕ) → known_con uses ≡ Some con → has_case con all ≡ true → Of_con con ≡ walked_by uses all
walked_known (Some (Has_atom x (Block_type k fields adopts))) all con e h = let same : k ≡ con = cc in ap Of_con (sym same) ∙ sym (known_here k all (ap (λ c. has_case c all) same ∙ h))
walked_known None all con e h = cc
walked_known (Some (Same_atom x y)) all con e h = cc
walked_known (Some (Has_atom x Int_type)) all con e h = cc
walked_known (Some (Has_atom x Unknown_type)) all con e h = cc
walked_known (Some (Has_atom x Dynamic_type)) all con e h = cc
walked_known (Some (Has_atom x Locked_type)) all con e h = cc
walked_known (Some (Has_atom x (Named_type d))) all con e h = cc
walked_known (Some (Has_atom x (Function_type s))) all con e h = cc
walked_known (Some (Has_atom x (Lock_type guarded))) all con e h = cc

pub walked_all : (uses : Option (Atom ℕ)) (all : Cases) (con : ℕ) → known_con uses ≡ Some con → has_case con all ≡ false → All_cases ≡ walked_by uses all
walked_all (Some (Has_atom x (Block_type k fields adopts))) all con e h = let same : k ≡ con = cc in sym (known_nowhere k all (ap (λ c. has_case c all) same ∙ h))
walked_all None all con e h = cc
walked_all (Some (Same_atom x y)) all con e h = cc
walked_all (Some (Has_atom x Int_type)) all con e h = cc
walked_all (Some (Has_atom x Unknown_type)) all con e h = cc
walked_all (Some (Has_atom x Dynamic_type)) all con e h = cc
walked_all (Some (Has_atom x Locked_type)) all con e h = cc
walked_all (Some (Has_atom x (Named_type d))) all con e h = cc
walked_all (Some (Has_atom x (Function_type s))) all con e h = cc
walked_all (Some (Has_atom x (Lock_type guarded))) all con e h = cc

-- behind a case stands a join
pub join_some : {T : Type 0} (piece : T → Piece) (cs : List CodeCase) (ts : List T) → (length cs ≡ 0 → ⊥) → join_by piece (script_cases_of (map plain_script_case cs)) ts ≡ join_at piece ts
join_some piece [] ts some = absurd (some refl)
join_some piece (c ∷ cs) ts some = refl
