-- What the last call of a function leads to, and how whole lists end.
use Rattle.std.proofs.Common.{◌≡◌, ℕ, ◌+◌, ◌<◌, List, [], ◌∷◌, ◌++◌, length, get_or, drop, reverse, Option, Result, Ok, Err, sym, ap, ap₂, ◌∙◌}
use Rattle.mz_tree.specs.declared.alike.Memory.{Memory}
use Rattle.mz_tree.specs.declared.code.Case.{Case as CodeCase}
use Rattle.mz_tree.specs.declared.code.Body.{Body as CodeBody}
use Rattle.mz_tree.specs.Code.{Case, The_case}
use Rattle.mz_tree.specs.View.{plain_cases, plain_case, plain_body}
use Rattle.mz_parse.specs.declared.bodies.Case.{Case as SurfaceCase}
use Rattle.mz_scope.specs.declared.fault.Cause.TheVariants.{Shape}
use Rattle.mz_scope.specs.declared.making.Making.{Making}
use Rattle.mz_scope.specs.Names.{Names, Globals, ConEntry}
use Rattle.mz_scope.specs.Making.{Made, Came, Came_to, Part, fault_if}
use Rattle.mz_scope.specs.Types.{number_of, con_by_name}
use Rattle.mz_scope.specs.Bodies.{with_number, is_misplaced, flat_cases, flat_block}
use Rattle.mz_scope.specs.Trees.{word_of, block_tree}
use Rattle.mz_scope.specs.Lists.{arms_of}
use Rattle.mz_scope.specs.View.{made_of, Comes}
use Rattle.mz_scope.proofs.Lists.{with_front, drop_here, seen_more}
use Rattle.mz_scope.proofs.Steps.{cases_more}

-- a part that leads to another comes to what that comes to
pub comes_after : {V A : Type 0} (view : V → A) (part last : Part A) (old mid new : Making) (result : Result V Memory) → part (made_of old) ≡ last (made_of mid) → Comes view last mid result new → Comes view part old result new
comes_after view part last old mid new (Ok x) e h = e ∙ h
comes_after view part last old mid new (Err fault) e h = tt

-- ---- cases

-- one more case came
pub cases_step : (g : Globals) (scope : Names ℕ) (bytes : List ℕ) (d : Option ℕ) (all : List SurfaceCase) (i : ℕ) (a : SurfaceCase) (earlier named : List ℕ) (front new : List CodeCase) (pushed : CodeCase) (con : Option ConEntry) (body : CodeBody) (whole : Came (List Case)) (m m1 m2 m3 : Made)
    → whole ≡ with_front (plain_cases front) (flat_cases g scope d (reverse earlier) (arms_of bytes (drop i all)) m) → i < length all → a ≡ get_or all i a
    → con_by_name g (word_of bytes a.con) m ≡ Came_to con m1 → fault_if (is_misplaced d (reverse earlier) con) Shape a.con.place m1 ≡ Came_to tt m2 → flat_block g scope (block_tree bytes a.block) m2 ≡ Came_to (plain_body body) m3
    → plain_case pushed ≡ The_case (number_of con) (plain_body body) → new ≡ front ++ pushed ∷ [] → reverse named ≡ with_number (reverse earlier) con
    → whole ≡ with_front (plain_cases new) (flat_cases g scope d (reverse named) (arms_of bytes (drop (i + 1) all)) m3)
cases_step g scope bytes d all i a earlier named front new pushed con body whole m m1 m2 m3 before h e h1 h2 h3 seen more numbers =
    before
    ∙ ap (λ l. with_front (plain_cases front) (flat_cases g scope d (reverse earlier) (arms_of bytes l) m)) (drop_here all i a h e)
    ∙ cases_more g scope d (reverse earlier) (plain_cases front) (word_of bytes a.con) (block_tree bytes a.block) (arms_of bytes (drop (i + 1) all)) con (plain_body body) m m1 m2 m3 h1 h2 h3
    ∙ ap₂ (λ l n. with_front l (flat_cases g scope d n (arms_of bytes (drop (i + 1) all)) m3)) (ap (λ x. plain_cases front ++ x ∷ []) (sym seen) ∙ sym (seen_more plain_case front new pushed more)) (sym numbers)
