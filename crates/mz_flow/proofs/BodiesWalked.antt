-- The bodies that are walked, as the code looks for them.
use Rattle.std.proofs.Common.{◌≡◌, ℕ, List, map, length, Option, Some, None, slice_get, option_map, refl, sym, ap, ◌∙◌}
use Rattle.std.proofs.lemmas.List.{length-map}
use Rattle.std.proofs.lemmas.Option.{slice_get-map}
use Rattle.mz_tree.specs.Plain.{Atom, Int_type, Unknown_type, Dynamic_type, Locked_type, Named_type, Function_type, Block_type, Lock_type, Has_atom, Same_atom}
use Rattle.mz_tree.specs.Code.{Case, body_of}
use Rattle.mz_tree.specs.View.{plain_op, plain_body, plain_case, plain_cases}
use Rattle.mz_tree.specs.declared.types.Atom.{Atom as CodeAtom}
use Rattle.mz_tree.specs.declared.code.Op.{Op as CodeOp, Match}
use Rattle.mz_tree.specs.declared.code.Case.{Case as CodeCase, out-Case}
use Rattle.mz_tree.proofs.Chains.{list_of_cases}
use Rattle.mz_tree.proofs.CodeViews.{plain_match, plain_case_is}
use Rattle.mz_flow.specs.Branches.{known_cases, walked_cases, walked_bodies}
use Rattle.mz_flow.specs.Walking.{known_con, cases_known}

-- the known cases are those of the known constructor, by the type of what is used
known_is : (uses : Option (Atom ℕ)) (cases : List Case) → known_cases uses cases ≡ cases_known (known_con uses) cases
known_is None cases = refl
known_is (Some (Same_atom x y)) cases = refl
known_is (Some (Has_atom x Int_type)) cases = refl
known_is (Some (Has_atom x Unknown_type)) cases = refl
known_is (Some (Has_atom x Dynamic_type)) cases = refl
known_is (Some (Has_atom x Locked_type)) cases = refl
known_is (Some (Has_atom x (Named_type d))) cases = refl
known_is (Some (Has_atom x (Function_type s))) cases = refl
known_is (Some (Has_atom x (Block_type con fields adopts))) cases = refl
known_is (Some (Has_atom x (Lock_type p))) cases = refl

-- the cases of a match that are walked, as its code holds them
abbrev pub walked_of : Option ℕ → List CodeCase → List Case
walked_of known cases = walked_cases (plain_cases cases) (cases_known known (plain_cases cases))

-- the bodies of a match that are walked are those of the cases that are
pub match_bodies : (op : CodeOp) (block d : ℕ) (cases slice : List CodeCase) (giving : List CodeAtom) (uses : Option (Atom ℕ)) (known : Option ℕ) → op ≡ Match block d cases giving → slice ≡ cases → known ≡ known_con uses → walked_bodies (plain_op op) uses ≡ map body_of (walked_of known slice)
match_bodies op block d cases slice giving uses known e s k =
    ap (λ o. walked_bodies (plain_op o) uses) e
    ∙ ap (λ o. walked_bodies o uses) (plain_match block d cases giving)
    ∙ ap (λ l. map body_of (walked_cases l (known_cases uses l))) (list_of_cases (plain_cases cases))
    ∙ ap (λ l. map body_of (walked_cases (plain_cases cases) l)) (known_is uses (plain_cases cases))
    ∙ ap (λ o. map body_of (walked_of o cases)) (sym k)
    ∙ ap (λ l. map body_of (walked_of known l)) (sym s)

-- so there are as many
pub match_count : (op : CodeOp) (block d : ℕ) (cases slice : List CodeCase) (giving : List CodeAtom) (uses : Option (Atom ℕ)) (known : Option ℕ) → op ≡ Match block d cases giving → slice ≡ cases → known ≡ known_con uses → length (walked_of known slice) ≡ length (walked_bodies (plain_op op) uses)
match_count op block d cases slice giving uses known e s k = sym (ap length (match_bodies op block d cases slice giving uses known e s k) ∙ length-map (walked_of known slice) body_of)

-- and body by body
match_at : (op : CodeOp) (block d : ℕ) (cases slice : List CodeCase) (giving : List CodeAtom) (uses : Option (Atom ℕ)) (known : Option ℕ) (k : ℕ) → op ≡ Match block d cases giving → slice ≡ cases → known ≡ known_con uses → slice_get (walked_bodies (plain_op op) uses) k ≡ option_map body_of (slice_get (walked_of known slice) k)
match_at op block d cases slice giving uses known k e s n = ap (λ l. slice_get l k) (match_bodies op block d cases slice giving uses known e s n) ∙ slice_get-map body_of (walked_of known slice) k

-- the body of the case at this place
pub match_body : (op : CodeOp) (block d : ℕ) (cases slice : List CodeCase) (giving : List CodeAtom) (uses : Option (Atom ℕ)) (known : Option ℕ) (k : ℕ) (case : CodeCase) → op ≡ Match block d cases giving → slice ≡ cases → known ≡ known_con uses → Some (plain_case case) ≡ slice_get (walked_of known slice) k → Some (plain_body (out-Case case).body) ≡ slice_get (walked_bodies (plain_op op) uses) k
match_body op block d cases slice giving uses known k case e s n h = ap (λ c. Some (body_of c)) (sym (plain_case_is case)) ∙ ap (option_map body_of) h ∙ sym (match_at op block d cases slice giving uses known k e s n)

-- none where there is no such case
pub match_past : (op : CodeOp) (block d : ℕ) (cases slice : List CodeCase) (giving : List CodeAtom) (uses : Option (Atom ℕ)) (known : Option ℕ) (k : ℕ) → op ≡ Match block d cases giving → slice ≡ cases → known ≡ known_con uses → None ≡ slice_get (walked_of known slice) k → None ≡ slice_get (walked_bodies (plain_op op) uses) k
match_past op block d cases slice giving uses known k e s n h = ap (option_map body_of) h ∙ sym (match_at op block d cases slice giving uses known k e s n)
