-- The adopter that a command looks for, and what is made of it.
use Rattle.std.proofs.Common.{◌≡◌, ◌<◌, ℕ, zero, suc, Bool, true, false, Err, List, [], ◌∷◌, ◌++◌, length, take, drop, Option, Some, None, slice_get, slice_set, inr, refl, sym, ap, ◌∙◌, subst, arith}
use Rattle.std.specs.Prelude.{remove}
use Rattle.std.proofs.lemmas.Option.{slice_get_within}
use Rattle.mz_tree.specs.Plain.{Ty, Atom, Dynamic_type, Named_type, Has_atom}
use Rattle.mz_tree.specs.Code.{Give_op, Take_op}
use Rattle.mz_tree.specs.declared.types.Place.{Place}
use Rattle.mz_decl.specs.Declarations.{Decls}
use Rattle.mz_view.specs.declared.step.ViewStep.{ViewStep}
use Rattle.mz_goal.specs.Needs.{NeedBeside, Unmet, UnmetBeside}
use Rattle.mz_goal.specs.Answers.{MeetsBeside}
use Rattle.mz_elab.proofs.Inserted.{set_removed}
use Rattle.mz_elab.specs.Acting.{AdoptsBy, AdoptsSome, with_clause}
use Rattle.mz_elab.specs.Doing.{ActsOr}
use Rattle.mz_elab.specs.Adopting.{HasAdopter, BesideOr, NeedOr, atom_clause}
use Rattle.mz_elab.specs.Sought.{AdoptedBy, IsFirstAt}
use Rattle.mz_elab.specs.declared.fault.ElabFault.{ElabFault}
use Rattle.mz_elab.specs.declared.fault.ElabFault.TheVariants.{NoPermission, Memory}

-- ---- one permission in the place of another

get_set : {A : Type 0} (xs : List A) (n : ℕ) (a : A) → n < length xs → slice_get (slice_set xs n a) n ≡ Some a
get_set [] n a h = absurd (omega (arith, h))
get_set (x ∷ xs) zero a h = refl
get_set (x ∷ xs) (suc n) a h = get_set xs n a (omega (arith, h))

-- ---- what an adopter adopts

pub adopts_none : {P : Type 0} (D : Decls) (t : Ty ℕ) (u : ℕ) (r : Option ℕ) → r ≡ None → AdoptedBy D t r → AdoptsBy D u t → P
adopts_none D t u None e f a = absurd (f u a)
adopts_none D t u (Some v) e f a = absurd (cc)

one_is : (a b : Atom ℕ) → Some a ≡ Some b → a ≡ b
one_is a b e = cc

type_is : (x y : ℕ) (t u : Ty ℕ) → Some (Has_atom x t) ≡ Some (Has_atom y u) → t ≡ u
type_is x y t u e = cc

-- what a type adopts, the type of the permission at a place does
pub adopts_at : (D : Decls) (R : List (Atom ℕ)) (n x v : ℕ) (s : Ty ℕ) → slice_get R n ≡ Some (Has_atom x s) → ((u : ℕ) → AdoptsBy D u s → AdoptsBy D v s) → (y : ℕ) (t : Ty ℕ) (u : ℕ) → slice_get R n ≡ Some (Has_atom y t) → AdoptsBy D u t → AdoptsBy D v t
adopts_at D R n x v s is f y t u that a =
    let e = type_is x y s t (sym is ∙ that) in
    subst (AdoptsBy D v) e (f u (subst (AdoptsBy D u) (sym e) a))

-- it is taken out, and put back with what it adopts
pub clause_put : (R S T : List (Atom ℕ)) (n u : ℕ) (old new : Atom ℕ) → n < length R → slice_get R n ≡ Some old → S ≡ remove R n → new ≡ atom_clause u old → T ≡ take n S ++ new ∷ drop n S → (a : Atom ℕ) → slice_get R n ≡ Some a → T ≡ slice_set R n (atom_clause u a)
clause_put R S T n u old new h is s e t a that = t ∙ ap (λ l. take n l ++ new ∷ drop n l) s ∙ set_removed R n new h ∙ ap (slice_set R n) (e ∙ ap (atom_clause u) (one_is old a (sym is ∙ that)))

-- the first adopter, which says what it adopts from then on
pub has_adopter : (D : Decls) (R : List (Atom ℕ)) (y n u : ℕ) (S : List (Atom ℕ)) → IsFirstAt R y (AdoptsSome D) n → ((x : ℕ) (t : Ty ℕ) (v : ℕ) → slice_get R n ≡ Some (Has_atom x t) → AdoptsBy D v t → AdoptsBy D u t) → ((a : Atom ℕ) → slice_get R n ≡ Some a → S ≡ slice_set R n (atom_clause u a)) → HasAdopter D R y u n S
has_adopter D R y n u S h adopts said =
    let f = h.first.fits in
    let stands = h.first.stands ∙ ap Some f.is in
    let state = said (Has_atom f.name f.ty) stands in
    record {
      adopter = Has_atom f.name (with_clause u f.ty);
      found = record {
        found = h.one;
        first = record {
          stands = h.first.stands;
          fits = record { name = f.name; ty = f.ty; is = f.is; joined = f.joined; fits = (u, record { exclusive = f.fits.1.exclusive; clause = adopts f.name f.ty f.fits.0 stands f.fits.1.clause }) };
          before = h.first.before;
        };
        clause = refl;
        now = refl;
        state = state;
      };
      stands = ap (λ l. slice_get l n) state ∙ get_set R n (Has_atom f.name (with_clause u f.ty)) (slice_get_within R n h.one h.first.stands);
    }

-- ---- what is made of it

-- a goal that is met beside it, or not
pub beside_met : (b : Bool) (D : Decls) (R : List (Atom ℕ)) (n : ℕ) (a g : Atom ℕ) (T : List (Atom ℕ)) (p q : List ViewStep) → b ≡ true → MeetsBeside b D R n a g T p q → NeedBeside D R n a g T
beside_met true D R n a g T p q e m = m.0
beside_met false D R n a g T p q e m = absurd (cc)

pub beside_unmet : (b : Bool) (D : Decls) (R : List (Atom ℕ)) (n : ℕ) (a g : Atom ℕ) (T : List (Atom ℕ)) (p q : List ViewStep) → b ≡ false → MeetsBeside b D R n a g T p q → UnmetBeside D R n a g
beside_unmet true D R n a g T p q e m = absurd (cc)
beside_unmet false D R n a g T p q e m = m.0

module _ (D : Decls) (R : List (Atom ℕ)) (n c x y u at : ℕ) (place : Place) (S T : List (Atom ℕ)) (goal : Atom ℕ) where
  pub not_given : (fault : ElabFault) → HasAdopter D R y u at S → goal ≡ Has_atom x (Named_type u) → ((a : Atom ℕ) → slice_get S at ≡ Some a → BesideOr {A = Unit {0}} D S at a goal place T (Err fault)) → ActsOr {A = Unit {0}} D R n c (Give_op x y) place T n (Err fault)
  not_given (NoPermission p b) h e f =
      let m = f h.adopter h.stands in
      (m.0, inr (record { u = u; place = at; adopter = h.adopter; state = S; found = h.found; unmet = subst (UnmetBeside D S at h.adopter) e m.1; is = m.2 ∙ e }))
  not_given Memory h e f = tt

  pub not_taken : (fault : ElabFault) → HasAdopter D R y u at S → goal ≡ Has_atom x Dynamic_type → NeedOr {A = Unit {0}} D S goal place T (Err fault) → ActsOr {A = Unit {0}} D R n c (Take_op x y) place T n (Err fault)
  not_taken (NoPermission p b) h e m = (m.0, inr (record { u = u; place = at; adopter = h.adopter; state = S; found = h.found; unmet = subst (Unmet D S) e m.1; is = m.2 ∙ e }))
  not_taken Memory h e m = tt
