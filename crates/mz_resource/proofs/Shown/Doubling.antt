-- The program `doubling` was read and has a derivation, so the law says something of it.
use Rattle.std.proofs.Common.{◌≡◌, ◌⊎◌, inl, inr, ℕ, zero, suc, length, ◌<◌, ◌^◌, ◌≤◌, true, false, List, [], ◌∷◌, Some, None, slice_get, codes, refl, sym, ◌∙◌, subst, arith}
use Rattle.std.proofs.lemmas.Bool.Decides.{nat_tests}
use Rattle.mz_tree.specs.declared.types.Place.{Place}
use Rattle.mz_tree.specs.Plain.{Atom, Int_type, Unknown_type, Function_type, Has_atom}
use Rattle.mz_tree.specs.Programs.{Fun}
use Rattle.mz_tree.specs.Code.{commands_in}
use Rattle.mz_tree.specs.Scoped.{Each, Scoped, IsLowerName}
use Rattle.mz_tree.specs.Shapes.{Lower_shape, shape_of}
use Rattle.mz_tree.specs.Spellings.{number_in, key_texts}
use Rattle.mz_decl.specs.Declarations.{decls_of, IsImmutableAdopter}
use Rattle.mz_decl.specs.Declarations.{At_declaration as On_declaration, At_structure as On_structure}
use Rattle.mz_perm.specs.Occurrence.{occurs}
use Rattle.mz_perm.specs.Lists.{In}
use Rattle.mz_perm.specs.Using.{UsesUp}
use Rattle.mz_modes.specs.Adopted.{IsNotExclusive}
use Rattle.mz_modes.specs.Adopted.{At_declaration as Adopted_declaration, At_structure as Adopted_structure}
use Rattle.mz_modes.specs.Affine.{AffineAtom}
use Rattle.mz_deriv.specs.Scripts.{Item}
use Rattle.mz_deriv.specs.Walks.{Walk_ends, Walk_does, Walk_branches, No_branch_walks, Branch_walks, IsOuter}
use Rattle.mz_deriv.specs.Derivable.{Derivable, FunDerives, FunWalks}
use Rattle.mz_deriv.specs.Spelled.{Spelled, Cases_end, Spelled_end, Spelled_branches, Spelled_do, IsWritable, Case_spelled}
use Rattle.mz_deriv.specs.Rules.{Branch}
use Rattle.mz_named.specs.Safety.{NamedSafe}
use Rattle.mz_resource.proofs.Facts.{some_inj, no_get}
use Rattle.mz_resource.proofs.Meaning.Spending.{true_false}
use Rattle.mz_resource.proofs.Soundness.{sound}
use Rattle.mz_resource.specs.Examples.{int_to_int, calls_twice_script, doubling_scripts, no_arguments, twice, both_integers, calls_twice, doubled, twice_script, doubling, plain_do, unchanged}

-- a core name is a number of 32 bits
pub below_limit : (n : ℕ) → n < 256 → n < 2 ^ 32
below_limit n l = omega arith

-- ---- members of short lists

pub each_none : {A : Type 0} (P : ℕ → A → Type 0) → Each P []
each_none P k a e = absurd (no_get k e)

pub each_more : {A : Type 0} (P : ℕ → A → Type 0) (x : A) (xs : List A) → P 0 x → Each (λ k a. P (suc k) a) xs → Each P (x ∷ xs)
each_more P x xs p ps = by
  where
    by : (k : ℕ) (a : _) → slice_get (x ∷ xs) k ≡ Some a → P k a
    by zero a e = subst (λ z. P 0 z) (some_inj e) p
    by (suc k) a e = ps k a e

-- the two branches
abbrev branches : List Branch
branches = record { start = Has_atom 0 Int_type ∷ []; body = doubled; script = plain_do ∷ [] } ∷ record { start = Has_atom 0 Int_type ∷ []; body = unchanged; script = [] } ∷ []

-- an integer is used, and stays
stays_int : (n : ℕ) (R : List (Atom ℕ)) → In (Has_atom n Int_type) R → UsesUp (AffineAtom (decls_of doubling)) (Has_atom n Int_type) R R
stays_int n R i = inr (λ h. h, i, refl)

twice_walks : FunWalks (decls_of doubling) twice twice_script
twice_walks = record {
  sig = int_to_int;
  signed = refl;
  last = both_integers;
  walks = Walk_branches {branches = branches}
      (record {
        some = λ e. absurd (cc);
        begin = (
          Has_atom 0 Int_type ∷ [],
          record { start = Has_atom 0 Int_type ∷ []; body = unchanged; script = [] } ∷ [],
          record { new = refl; walked = refl; starts = record { held = inl refl; no_name = refl; same = refl } },
          refl,
          (Has_atom 0 Int_type ∷ [], [], record { new = refl; walked = refl; starts = record { held = inl refl; no_name = refl; same = refl } }, refl, refl),
        );
      })
      outer
      (Branch_walks (Has_atom 0 Int_type ∷ Has_atom 1 Int_type ∷ []) (Walk_does (record { new = refl; rule = record { left = inl refl; right = inl refl; new = refl } }) Walk_ends)
      (Has_atom 0 Int_type ∷ Has_atom 1 Int_type ∷ [], stays_int 0 _ (inl refl), (Has_atom 0 Int_type ∷ Has_atom 1 Int_type ∷ [], stays_int 1 _ (inr (inl refl)), refl))
      (Branch_walks (Has_atom 0 Int_type ∷ []) Walk_ends (Has_atom 0 Int_type ∷ [], stays_int 0 _ (inl refl), (Has_atom 0 Int_type ∷ [], stays_int 0 _ (inl refl), refl)) No_branch_walks))
      Walk_ends;
  rest = both_integers;
  ends = (both_integers, stays_int 0 _ (inl refl), (both_integers, stays_int 2 _ (inr (inl refl)), refl));
}
  where
    outer : (n : ℕ) → occurs n both_integers ≡ true → (n ≡ 2) ⊎ IsOuter (0 ∷ []) (Has_atom 0 Int_type ∷ []) n
    outer zero o = inr (inl (inl refl))
    outer (suc zero) o = absurd (true_false o refl)
    outer (suc (suc zero)) o = inl refl
    outer (suc (suc (suc n))) o = absurd (true_false o (grind (arith, nat_tests)))

-- what is known at the end of main
abbrev main_last : List (Atom ℕ)
main_last = Has_atom 0 Int_type ∷ Has_atom 1 (Function_type 1) ∷ Has_atom 2 Int_type ∷ Has_atom 3 Unknown_type ∷ []

main_walks : FunWalks (decls_of doubling) calls_twice calls_twice_script
main_walks = record {
  sig = no_arguments;
  signed = refl;
  last = main_last;
  walks = Walk_does (record { new = refl; rule = refl })
      (Walk_does (record { new = refl; rule = record { sig = 1; declared = refl; new = refl } })
      (Walk_does (record {
        new = refl;
        rule = record {
          callee = record { number = 1; function = refl; held = inr (inl refl); sig = int_to_int; declared = refl; many = refl };
          rest = Has_atom 0 Int_type ∷ Has_atom 1 (Function_type 1) ∷ [];
          used = (Has_atom 0 Int_type ∷ Has_atom 1 (Function_type 1) ∷ [], inr (λ h. h, inl refl, refl), refl);
          back = [];
          gives_back = inr (λ r. r.1, refl);
          new = refl;
        };
      })
      (Walk_does (record { new = refl; rule = refl }) Walk_ends)));
  rest = main_last;
  ends = (main_last, inr (λ h. h, inr (inr (inr (inl refl))), refl), refl);
}

-- what the scripts name can be written
integer_written : (n : ℕ) → n < 256 → IsWritable doubling (Has_atom n Int_type)
integer_written n l = ((below_limit n l, tt), omega arith)

twice_spelled : Spelled doubling (commands_in twice.body) twice_script
twice_spelled = Spelled_branches refl tt (each_more _ (Has_atom 0 Int_type) (Has_atom 2 Int_type ∷ []) (integer_written 0 (omega arith)) (each_more _ (Has_atom 2 Int_type) [] (integer_written 2 (omega arith)) (each_none _)))
    (Case_spelled refl (Spelled_do refl tt Spelled_end) (Case_spelled refl Spelled_end Cases_end)) Spelled_end

main_spelled : Spelled doubling (commands_in calls_twice.body) calls_twice_script
main_spelled = Spelled_do refl tt (Spelled_do refl tt (Spelled_do refl ((below_limit 1 (omega arith), omega arith), omega arith) (Spelled_do refl tt Spelled_end)))

pub derivable : Derivable doubling doubling_scripts
derivable = record { declared = record { on_mutable = no_adopter; exclusive = no_exclusive }; one_each = refl; derives = derives }
  where
    no_adopter : (place : Place) → IsImmutableAdopter doubling place → ⊥
    no_adopter place (On_declaration k r) = no_get k r.declared
    no_adopter place (On_structure k r) = no_get k r.written

    no_exclusive : (place : Place) → IsNotExclusive (decls_of doubling) place → ⊥
    no_exclusive place (Adopted_declaration k r) = no_get k r.declared
    no_exclusive place (Adopted_structure k r) = no_get k r.written

    derives : (k : ℕ) (f : Fun) (script : List Item) → slice_get doubling.funs k ≡ Some f → slice_get doubling_scripts k ≡ Some script → FunDerives doubling f script
    derives zero f script e g = subst (λ z. FunDerives doubling z script) (some_inj e) (subst (λ z. FunDerives doubling twice z) (some_inj g) (record { spelled = twice_spelled; walks = twice_walks }))
    derives (suc zero) f script e g = subst (λ z. FunDerives doubling z script) (some_inj e) (subst (λ z. FunDerives doubling calls_twice z) (some_inj g) (record { spelled = main_spelled; walks = main_walks }))
    derives (suc (suc k)) f script e g = absurd (no_get k e)

-- ---- it is as it is read

pub lower_name : {name : List ℕ} → shape_of name ≡ Some Lower_shape → number_in key_texts name ≡ None → length name ≤ 64 → IsLowerName name
lower_name lower no_key short = record { lower = lower; no_key = no_key; short = short }

abbrev ℕ_is : ℕ → ℕ → Type 0
ℕ_is a b = a ≡ b

names_differ : codes "start" ≡ codes "same" → ⊥
names_differ e = let q : ℕ_is 116 97 = second e in omega (arith, q)
  where
    second : {a b c d : ℕ} {xs ys : List ℕ} → a ∷ b ∷ xs ≡ c ∷ d ∷ ys → b ≡ d
    second e = cc

types_apart : (j k : ℕ) (a b : List ℕ) → slice_get (codes "start" ∷ codes "same" ∷ []) j ≡ Some a → slice_get (codes "start" ∷ codes "same" ∷ []) k ≡ Some b → a ≡ b → j ≡ k
types_apart zero zero a b e g q = refl
types_apart zero (suc zero) a b e g q = absurd (names_differ (some_inj e ∙ q ∙ sym (some_inj g)))
types_apart (suc zero) zero a b e g q = absurd (names_differ (some_inj g ∙ sym q ∙ sym (some_inj e)))
types_apart (suc zero) (suc zero) a b e g q = refl
types_apart (suc (suc j)) k a b e g q = absurd (no_get j e)
types_apart j (suc (suc k)) a b e g q = absurd (no_get k g)

pub scoped : Scoped doubling
scoped = record {
  varieties = each_none _;
  cons = each_none _;
  sigs = each_more _ no_arguments (int_to_int ∷ []) (record { name = lower_name refl refl (omega arith); needs = each_none _; gives = each_more _ (Has_atom 0 Unknown_type) [] ((refl, tt), omega arith) (each_none _); few = omega arith })
      (each_more _ int_to_int [] (record { name = lower_name refl refl (omega arith); needs = each_more _ (record { atom = Has_atom 0 Int_type; consumed = false }) [] ((refl, tt), omega arith) (each_none _); gives = each_more _ (Has_atom 1 Int_type) [] ((refl, tt), omega arith) (each_none _); few = omega arith }) (each_none _));
  funs = each_more _ twice (calls_twice ∷ []) (record {
    name = lower_name refl refl (omega arith);
    sig = int_to_int;
    signed = refl;
    body = ((refl, (refl, (((refl, (refl, refl)), refl)), refl, each_none _)), refl);
    spelled = refl;
    few = omega arith;
  })
      (each_more _ calls_twice [] (record {
        name = lower_name refl refl (omega arith);
        sig = no_arguments;
        signed = refl;
        body = ((refl, omega arith), ((refl, omega arith), ((refl, (refl, each_more _ 0 [] refl (each_none _), each_more _ (record { name = 1; function = Some 0 }) (record { name = 0; function = None } ∷ []) (λ e. record { fun = twice; declared = refl; sig = int_to_int; signed = refl; same = refl }) (each_more _ (record { name = 0; function = None }) [] (λ e. tt) (each_none _)))), ((refl, tt), refl))));
        spelled = refl;
        few = omega arith;
      })
      (each_none _));
  clauses = record { written = each_none _; all = each_none _ };
  types_apart = types_apart;
  cons_apart = λ j k a b e g q. absurd (no_get j e);
  one_main = refl;
  begins = refl;
  few_types = omega arith;
  few_cons = omega arith;
  few_funs = omega arith;
}

pub doubling_is_safe : NamedSafe doubling
doubling_is_safe = sound doubling doubling_scripts scoped derivable
