-- The parts of a signature came one after the other, and so the signature.
use Rattle.std.proofs.Common.{◌≡◌, ℕ, List, ◌∷◌, ◌++◌, length, refl, sym, ap, ◌∙◌}
use Rattle.mz_tree.specs.Plain.{Atom}
use Rattle.mz_tree.specs.Programs.{Need, Sig}
use Rattle.mz_scope.specs.declared.fault.Cause.TheVariants.{Twice}
use Rattle.mz_scope.specs.Syntax.{SigTree}
use Rattle.mz_scope.specs.Names.{find, Globals}
use Rattle.mz_scope.specs.Making.{Made, Came, Came_to, fault_if}
use Rattle.mz_scope.specs.Types.{flat_typed, flat_atoms}
use Rattle.mz_scope.specs.Declarations.{is_other, declares, params_of, all_of, params_from, needs_of, signature}
use Rattle.mz_scope.proofs.Lists.{next_came}
use Rattle.mz_scope.proofs.DataSteps.{first_type}

module _ (g : Globals) (n : ℕ) (x : SigTree) where
  -- what came of the parts
  pub record SigParts (of_params others : List Need) (a : Atom ℕ) (gives : List (Atom ℕ)) (m m1 m2 m3 m4 m5 m6 : Made) : Type 0 where
    pub declared : declares (first_type g x.name.text) n 1000 x.name m ≡ Came_to tt m1
    pub params : params_from g (params_of x) 0 x.params m1 ≡ Came_to of_params m2
    pub needs : needs_of g (params_of x) x.needs m2 ≡ Came_to others m3
    pub once : fault_if (is_other (find (all_of x) x.result.text) (length x.params)) Twice x.result.place m3 ≡ Came_to tt m4
    pub typed : flat_typed g (all_of x) (length x.params) x.ty m4 ≡ Came_to a m5
    pub given : flat_atoms g (all_of x) x.gives m5 ≡ Came_to gives m6

  pub signature_came : (of_params others : List Need) (a : Atom ℕ) (gives : List (Atom ℕ)) (m m1 m2 m3 m4 m5 m6 : Made) → SigParts of_params others a gives m m1 m2 m3 m4 m5 m6
      → signature g n x m ≡ Came_to (record { name = x.name.text; count = length x.params; needs = of_params ++ others; gives = a ∷ gives }) m6
  signature_came of_params others a gives m m1 m2 m3 m4 m5 m6 p =
      let made : Came Sig = Came_to (record { name = x.name.text; count = length x.params; needs = of_params ++ others; gives = a ∷ gives }) m6 in
      next_came _ (declares (first_type g x.name.text) n 1000 x.name m) tt m1 made p.declared
      (next_came _ (params_from g (params_of x) 0 x.params m1) of_params m2 made p.params
      (next_came _ (needs_of g (params_of x) x.needs m2) others m3 made p.needs
      (next_came _ (fault_if (is_other (find (all_of x) x.result.text) (length x.params)) Twice x.result.place m3) tt m4 made p.once
      (next_came _ (flat_typed g (all_of x) (length x.params) x.ty m4) a m5 made p.typed
      (next_came _ (flat_atoms g (all_of x) x.gives m5) gives m6 made p.given refl)))))

-- a signature is its parts
abbrev pub sig_of_parts : List ℕ → ℕ → List Need → List (Atom ℕ) → Sig
sig_of_parts name count needs gives = record { name = name; count = count; needs = needs; gives = gives }

pub sig_same : {name name2 : List ℕ} {count count2 : ℕ} {needs needs2 : List Need} {gives gives2 : List (Atom ℕ)} (m : Made) → name ≡ name2 → count ≡ count2 → needs ≡ needs2 → gives ≡ gives2
    → Came_to (sig_of_parts name2 count2 needs2 gives2) m ≡ Came_to (sig_of_parts name count needs gives) m
sig_same {name = name} {name2 = name2} {count = count} {count2 = count2} {needs = needs} {needs2 = needs2} {gives = gives} {gives2 = gives2} m e1 e2 e3 e4 =
    ap (λ v. Came_to (sig_of_parts v count2 needs2 gives2) m) (sym e1)
    ∙ ap (λ v. Came_to (sig_of_parts name v needs2 gives2) m) (sym e2)
    ∙ ap (λ v. Came_to (sig_of_parts name count v gives2) m) (sym e3)
    ∙ ap (λ v. Came_to (sig_of_parts name count needs v) m) (sym e4)
