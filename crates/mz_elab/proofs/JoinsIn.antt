-- The join of the branches of one command, by what the code of joins answers.
use Rattle.std.proofs.Common.{◌≡◌, ◌⊎◌, inl, inr, ℕ, List, [], ◌∷◌, ◌++◌, reverse, Err, sym, subst}
use Rattle.std.proofs.lemmas.List.{reverse-append}
use Rattle.mz_tree.specs.Plain.{Atom}
use Rattle.mz_decl.specs.Declarations.{Decls}
use Rattle.mz_perm.specs.Lists.{In}
use Rattle.mz_deriv.specs.Parts.{SameNames}
use Rattle.mz_deriv.proofs.Membership.{in_parts, in_left, in_right}
use Rattle.mz_elab.specs.Joining.{JoinsEnds, plain_ends}
use Rattle.mz_elab.specs.Walking.{JoinsOr}
use Rattle.mz_elab.specs.declared.ends.End.{End as CodeEnd}
use Rattle.mz_elab.specs.declared.fault.ElabFault.{ElabFault}
use Rattle.mz_elab.specs.declared.fault.ElabFault.TheVariants.{NoPermission, Memory}

reverse_cons : {A : Type 0} (x : A) (xs : List A) → reverse (x ∷ xs) ≡ reverse xs ++ x ∷ []
reverse_cons x xs = reverse-append (x ∷ []) xs

in_turned : {A : Type 0} (a : A) (xs : List A) → In a xs → In a (reverse xs)
in_turned a [] m = absurd m
in_turned a (x ∷ xs) (inl e) = subst (In a) (sym (reverse_cons x xs)) (in_right a (reverse xs) (x ∷ []) (inl e))
in_turned a (x ∷ xs) (inr m) = subst (In a) (sym (reverse_cons x xs)) (in_left a (reverse xs) (x ∷ []) (in_turned a xs m))

turned_in : {A : Type 0} (a : A) (xs : List A) → In a (reverse xs) → In a xs
turned_in a [] m = m
turned_in a (x ∷ xs) m = which (turned_in a xs) (in_parts a (reverse xs) (x ∷ []) (subst (In a) (reverse_cons x xs) m))
  where
    which : (In a (reverse xs) → In a xs) → In a (reverse xs) ⊎ In a (x ∷ []) → In a (x ∷ xs)
    which back (inl p) = inr (back p)
    which back (inr (inl e)) = inl e
    which back (inr (inr p)) = absurd p

-- a list turned round has the same names
pub turned_names : (names : List ℕ) → SameNames names (reverse names)
turned_names names = λ n. (in_turned n names, turned_in n names)

pub not_joined : (D : Decls) (K : ℕ → Type 0) (names : List ℕ) (R : List (Atom ℕ)) (c : ℕ) (giving : List (Atom ℕ)) (these ends after : List CodeEnd) (J : List (Atom ℕ)) (fault : ElabFault) → these ≡ ends → JoinsEnds D K names R c giving these after (Err fault) →
    JoinsOr {A = Unit {0}} D names R c giving (plain_ends ends) J (Err fault)
not_joined D K names R c giving these ends after J (NoPermission place a) e l = subst (λ es. JoinsOr {A = Unit {0}} D names R c giving (plain_ends es) J (Err (NoPermission place a))) e l
not_joined D K names R c giving these ends after J Memory e l = record {}
