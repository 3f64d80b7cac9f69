-- A goal of a command, in the words of the code.
use Rattle.std.proofs.Common.{◌≡◌, ℕ, Bool, true, false, Result, Ok, Err, IfOk, List, [], ◌∷◌, ◌++◌, map, Some, slice_get, slice_set, refl, sym, ap, ◌∙◌, subst}
use Rattle.mz_tree.specs.Plain.{Atom}
use Rattle.mz_decl.specs.Declarations.{Decls}
use Rattle.mz_view.specs.Steps.{plain_step, plain_steps}
use Rattle.mz_view.specs.declared.step.ViewStep.{ViewStep}
use Rattle.mz_goal.specs.Goals.{Entry, Aside, atoms, unused, Meets}
use Rattle.mz_goal.specs.Leads.{Leads}
use Rattle.mz_goal.specs.Marked.{entries}
use Rattle.mz_goal.specs.declared.marks.Mark.{Mark as CodeMark}
use Rattle.mz_goal.specs.Answers.{Did, MeetsFrom, MeetsNeed, MeetsBeside}
use Rattle.mz_goal.specs.Added.{Added}
use Rattle.mz_goal.proofs.Marking.{atoms_entries}
use Rattle.mz_goal.proofs.Reached.{map_both}

-- without marks all is unused
none_marked : (R : List (Atom ℕ)) → entries R [] ≡ map unused R
none_marked [] = refl
none_marked (a ∷ R) = ap (λ l. unused a ∷ l) (none_marked R)

-- what was made apart is added at the end
pub from_met : (D : Decls) (R L T : List (Atom ℕ)) (M N : List CodeMark) (g : Atom ℕ) (p q before made : List ViewStep) → L ≡ R → before ≡ [] → Did true D (entries L M) g (entries T N) before made → q ≡ p ++ made → MeetsFrom true D R (entries R M) g T p q
from_met D R L T M N g p q before made e b d s =
    let a = d.1 in
    let is : plain_steps q ≡ plain_steps p ++ a.added = ap plain_steps s ∙ map_both plain_step p made ∙ ap (λ l. plain_steps p ++ l) (a.is ∙ ap (λ l. plain_steps l ++ a.added) b) in
    let leads = subst (λ l. Added D l (plain_steps p) (plain_steps q) (T ++ g ∷ [])) (atoms_entries L M ∙ e) (record { added = a.added; is = is; leads = subst (λ t. Leads D (atoms (entries L M)) a.added (t ++ g ∷ [])) (atoms_entries T N) a.leads }) in
    ((entries T N, subst (λ l. Meets D (entries l M) g (entries T N)) e d.0, sym (atoms_entries T N)), leads)

pub from_unmet : (D : Decls) (R L : List (Atom ℕ)) (M : List CodeMark) (g : Atom ℕ) (p : List ViewStep) → L ≡ R → ((S : List Entry) → Meets D (entries L M) g S → ⊥) → MeetsFrom false D R (entries R M) g R p p
from_unmet D R L M g p e f = (subst (λ l. (S : List Entry) → Meets D (entries l M) g S → ⊥) e f, refl, refl)

need_by : (b : Bool) (D : Decls) (R : List (Atom ℕ)) (g : Atom ℕ) (T : List (Atom ℕ)) (p q : List ViewStep) → MeetsFrom b D R (map unused R) g T p q → MeetsNeed b D R g T p q
need_by true D R g T p q m = (record { left = m.0.0; meets = m.0.1; is = m.0.2 }, m.1)
need_by false D R g T p q m = ((λ U n. m.0 n.left n.meets), m.1, m.2)

pub need_ok : {E : Type 0} (r : Result Bool E) (D : Decls) (R : List (Atom ℕ)) (M : List CodeMark) (g : Atom ℕ) (T : List (Atom ℕ)) (p q : List ViewStep) → M ≡ [] → IfOk r (λ b. MeetsFrom b D R (entries R M) g T p q) → IfOk r (λ b. MeetsNeed b D R g T p q)
need_ok (Err e) D R M g T p q none m = tt
need_ok (Ok b) D R M g T p q none m = need_by b D R g T p q (subst (λ l. MeetsFrom b D R l g T p q) (ap (entries R) none ∙ none_marked R) m)

beside_by : (b : Bool) (D : Decls) (R : List (Atom ℕ)) (n : ℕ) (a g : Atom ℕ) (T : List (Atom ℕ)) (p q : List ViewStep) → slice_get R n ≡ Some a → MeetsFrom b D R (slice_set (map unused R) n (record { atom = a; mark = Aside })) g T p q → MeetsBeside b D R n a g T p q
beside_by true D R n a g T p q at m = (record { stands = at; left = m.0.0; meets = m.0.1; is = m.0.2 }, m.1)
beside_by false D R n a g T p q at m = ((λ U s. m.0 s.left s.meets), m.1, m.2)

pub beside_ok : {E : Type 0} (r : Result Bool E) (D : Decls) (R : List (Atom ℕ)) (M before : List CodeMark) (n : ℕ) (a g : Atom ℕ) (T : List (Atom ℕ)) (p q : List ViewStep) → slice_get R n ≡ Some a → before ≡ [] → entries R M ≡ slice_set (entries R before) n (record { atom = a; mark = Aside }) → IfOk r (λ b. MeetsFrom b D R (entries R M) g T p q) → IfOk r (λ b. MeetsBeside b D R n a g T p q)
beside_ok (Err e) D R M before n a g T p q at none set m = tt
beside_ok (Ok b) D R M before n a g T p q at none set m =
    let is : entries R M ≡ slice_set (map unused R) n (record { atom = a; mark = Aside }) = set ∙ ap (λ l. slice_set l n (record { atom = a; mark = Aside })) (ap (entries R) none ∙ none_marked R) in
    beside_by b D R n a g T p q at (subst (λ l. MeetsFrom b D R l g T p q) is m)
