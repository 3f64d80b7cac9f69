-- What the adopter's permission decides: the one data type at which a block may be given.
use Rattle.std.proofs.Common.{◌≡◌, false, true, ℕ, List, Option, Some, None, sym, subst}
use Rattle.mz_tree.specs.Plain.{Ty, Atom, Named_type, Has_atom}
use Rattle.mz_decl.specs.Declarations.{Decls}
use Rattle.mz_perm.specs.Lists.{In, Any_copy, TakesFirst, TakesOne}
use Rattle.mz_perm.proofs.Firsts.{takes_any}
use Rattle.mz_perm.proofs.Orders.{in_of, perm_in, takes_unique}
use Rattle.mz_adopt.specs.Adopting.{IsAdopter, Gives}
use Rattle.mz_adopt.specs.Adopters.{TypeAdoptsOf, AdoptsOf}
use Rattle.mz_adopt.proofs.Orders.{adopted_one}

-- a permission of the adopter's own name says what its type says
pub of_name : (D : Decls) (y x : ℕ) (t : Ty ℕ) (a : Atom ℕ) (o : Option ℕ) → a ≡ Has_atom x t → x ≡ y → TypeAdoptsOf D t o → AdoptsOf D y a o
of_name D y x t a None e s h = subst (λ b. AdoptsOf D y b None) (sym e) (λ u i. h u i.1)
of_name D y x t a (Some u) e s h = subst (λ b. AdoptsOf D y b (Some u)) (sym e) (s, h)

-- whichever copy is given, it is one at the data type that the adopter's permission tells
given_at : (D : Decls) (R : List (Atom ℕ)) (c x y u : ℕ) (a : Atom ℕ) (T : List (Atom ℕ)) → IsAdopter D y u a → (g : Gives Any_copy D R c x y a T) → TakesOne (Has_atom x (Named_type u)) R g.rest
given_at D R c x y u a T i g = subst (λ n. TakesOne (Has_atom x (Named_type n)) R g.rest) (adopted_one D y g.adopted u a g.adopter i) g.taken

-- what isn't held at that data type can't be given
pub not_given : (D : Decls) (R : List (Atom ℕ)) (c x y u : ℕ) (a : Atom ℕ) → IsAdopter D y u a → (In (Has_atom x (Named_type u)) R → ⊥) → (T : List (Atom ℕ)) → Gives Any_copy D R c x y a T → ⊥
not_given D R c x y u a i n T g = n (in_of (Has_atom x (Named_type u)) R g.rest (given_at D R c x y u a T i g))

-- nor can anything where the adopter's permission isn't held beside the first copy: beside any other one it isn't either
pub not_beside : (D : Decls) (R N : List (Atom ℕ)) (c x y u : ℕ) (a : Atom ℕ) → IsAdopter D y u a → TakesFirst (Has_atom x (Named_type u)) R N → (In a N → false ≡ true) → (T : List (Atom ℕ)) → Gives Any_copy D R c x y a T → ⊥
not_beside D R N c x y u a i t n T g =
    let given = Has_atom x (Named_type u) in
    let beside : false ≡ true = n (perm_in a g.rest N (takes_unique given R g.rest N (given_at D R c x y u a T i g) (takes_any given R N t)) g.held) in
    absurd (cc)
