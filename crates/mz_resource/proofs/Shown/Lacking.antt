-- The program `lacking` has a derivation, and its match stops with no case: that each constructor has one is a premise.
use Rattle.std.proofs.Common.{◌≡◌, ◌⊎◌, inl, inr, ℕ, zero, suc, true, List, [], ◌∷◌, ◌++◌, Some, None, slice_get, refl, sym, ap, ◌∙◌, subst, arith}
use Rattle.std.proofs.lemmas.Bool.Decides.{nat_tests}
use Rattle.mz_tree.specs.declared.types.Place.{Place}
use Rattle.mz_tree.specs.Plain.{Atom, Int_type, Unknown_type, Named_type, Block_type, Has_atom}
use Rattle.mz_tree.specs.Programs.{Variety, Con, Fun}
use Rattle.mz_tree.specs.Code.{Command, Body, Int_op, New_op, Match_op, Call_op, Spawn_op, Acquire_op, The_command, No_commands, More_commands, The_case, The_body, op_of, case_list, commands_in}
use Rattle.mz_decl.specs.Declarations.{decls_of, IsImmutableAdopter}
use Rattle.mz_decl.specs.Declarations.{At_declaration as On_declaration, At_structure as On_structure}
use Rattle.mz_perm.specs.Occurrence.{occurs}
use Rattle.mz_modes.specs.Affine.{IsMutable, IsMutableCon, Affine, Is_mutable, Holds_named, Holds_block, Holds_locked, HasContent}
use Rattle.mz_modes.specs.Adopted.{IsNotExclusive}
use Rattle.mz_modes.specs.Adopted.{At_declaration as Adopted_declaration, At_structure as Adopted_structure}
use Rattle.mz_view.specs.Steps.{Unknown_step}
use Rattle.mz_deriv.specs.Scripts.{Item, See_item, Do_item, No_script_cases}
use Rattle.mz_deriv.specs.Walks.{Walk_ends, Walk_step, Walk_does, Walk_branches, No_branch_walks, Branch_walks, IsOuter}
use Rattle.mz_deriv.specs.Derivable.{Derivable, FunDerives, FunWalks}
use Rattle.mz_deriv.specs.Spelled.{Spelled, Cases_end, Spelled_end, Spelled_step, Spelled_branches, Spelled_do, Case_spelled}
use Rattle.mz_named.specs.Bodies.{body_for, start}
use Rattle.mz_named.specs.Configurations.{Block_value, Block_cell, Frame, Suspended, Running, Config}
use Rattle.mz_named.specs.Steps.{IsAt, NStep, Step_acts, No_steps, More_steps}
use Rattle.mz_named.specs.Safety.{Waits, NamedSafe}
use Rattle.mz_named.specs.Operations.{ChoosesCase}
use Rattle.mz_resource.proofs.Facts.{some_inj, none_some, no_get}
use Rattle.mz_resource.proofs.Meaning.Spending.{true_false}
use Rattle.mz_resource.proofs.Meaning.Inverse.{block_is, cell_con}
use Rattle.mz_resource.proofs.Threads.Quiet.{at_only}
use Rattle.mz_resource.proofs.Fine.Building.{binds_at, puts_in, puts_cell, with_cell}
use Rattle.mz_resource.proofs.Shown.Inverting.{frames, heads, Can, Can_act, Can_stop, Can_branch, Can_call, Can_spawn, step_inv}
use Rattle.mz_resource.proofs.Shown.Doubling.{below_limit, each_none, each_more}
use Rattle.mz_resource.specs.Examples.{lacking_script, match_a, one_of_two, no_arguments, b_con, lacking, here, a_con, only_a, matches_a}

abbrev opened_state : List (Atom ℕ)
opened_state = Has_atom 0 (Block_type 1 [] None) ∷ Has_atom 0 (Named_type 0) ∷ Has_atom 0 (Block_type 0 [] None) ∷ []

-- nothing is mutable, so nothing is affine
not_mutable : (d : ℕ) → IsMutable (decls_of lacking) d → ⊥
not_mutable d m = by d m.variety m.declared m.mutable
  where
    by : (d : ℕ) (v : Variety) → slice_get (one_of_two ∷ []) d ≡ Some v → v.mutable ≡ true → ⊥
    by zero v e y = true_false y (ap (λ (z : Variety). z.mutable) (sym (some_inj e)))
    by (suc d) v e y = no_get d e

no_fields : (k : ℕ) (c : Con) (a : Atom ℕ) → slice_get (a_con ∷ b_con ∷ []) k ≡ Some c → HasContent a c.fields → ⊥
no_fields zero c a e i = subst (λ (z : Con). HasContent a z.fields) (sym (some_inj e)) i
no_fields (suc zero) c a e i = subst (λ (z : Con). HasContent a z.fields) (sym (some_inj e)) i
no_fields (suc (suc k)) c a e i = no_get k e

not_affine : {d : ℕ} → Affine (decls_of lacking) d → ⊥
not_affine (Is_mutable d m) = not_mutable d m
not_affine (Holds_named k x e c g i h) = no_fields k c _ g i
not_affine (Holds_block k x con ys u c g i h) = no_fields k c _ g i
not_affine (Holds_locked k x c g i) = no_fields k c _ g i

not_mutable_con : (k : ℕ) → IsMutableCon (decls_of lacking) k → ⊥
not_mutable_con k m = not_mutable m.con.variety m.mutable

main_walks : FunWalks (decls_of lacking) matches_a lacking_script
main_walks = record {
  sig = no_arguments;
  signed = refl;
  last = Has_atom 2 Unknown_type ∷ [];
  walks = Walk_does (record { new = refl; rule = refl })
      (Walk_step {S = Has_atom 0 (Block_type 1 [] None) ∷ Has_atom 0 (Named_type 0) ∷ []} (record { made = b_con; is_con = refl; each = refl; adopts = inl refl; rest = Has_atom 0 (Block_type 1 [] None) ∷ []; used = (Has_atom 0 (Block_type 1 [] None) ∷ [], inr (not_mutable_con 1, inl refl, refl), refl); new = refl })
      (Walk_branches {branches = record { start = opened_state; body = The_body (More_commands (The_command 1 (Int_op 1) here) No_commands) 1 here; script = Do_item None No_script_cases [] ∷ See_item (Unknown_step 1) ∷ [] } ∷ []}
      (record {
        some = λ e. absurd (cc);
        begin = (
          opened_state,
          [],
          record {
            new = refl;
            walked = refl;
            starts = (
              refl,
              record {
                same_type = refl;
                case = The_case 0 (The_body (More_commands (The_command 1 (Int_op 1) here) No_commands) 1 here);
                is_case = refl;
                opens = record { made = a_con; is_con = refl; fresh = λ m l. absurd (omega (arith, l)); rest = Has_atom 0 (Block_type 1 [] None) ∷ Has_atom 0 (Named_type 0) ∷ []; used = inr (λ h. not_affine h, inr (inl refl), refl); new = refl };
              },
            );
          },
          refl,
          refl,
        );
      })
      outer
      (Branch_walks {last = opened_state ++ Has_atom 1 Int_type ∷ Has_atom 1 Unknown_type ∷ []} (opened_state ++ Has_atom 1 Int_type ∷ Has_atom 1 Unknown_type ∷ []) (Walk_does (record { new = refl; rule = refl }) (Walk_step refl Walk_ends))
      (opened_state ++ Has_atom 1 Int_type ∷ Has_atom 1 Unknown_type ∷ [], inr (λ h. h, inr (inr (inr (inr (inl refl)))), refl), refl) No_branch_walks)
      Walk_ends));
  rest = Has_atom 2 Unknown_type ∷ [];
  ends = (Has_atom 2 Unknown_type ∷ [], inr (λ h. h, inl refl, refl), refl);
}
  where
    outer : (n : ℕ) → occurs n (Has_atom 2 Unknown_type ∷ []) ≡ true → (n ≡ 2) ⊎ IsOuter (0 ∷ []) (Has_atom 0 (Block_type 1 [] None) ∷ Has_atom 0 (Named_type 0) ∷ []) n
    outer zero o = absurd (true_false o refl)
    outer (suc zero) o = absurd (true_false o refl)
    outer (suc (suc zero)) o = inl refl
    outer (suc (suc (suc n))) o = absurd (true_false o (grind (arith, nat_tests)))

-- what the script names can be written
main_spelled : Spelled lacking (commands_in matches_a.body) lacking_script
main_spelled = Spelled_do refl tt (Spelled_step ((below_limit 0 (omega arith), (record { found = b_con; declared = refl; fields = refl }, each_none _, tt)), omega arith)
    (Spelled_branches refl ((below_limit 0 (omega arith), omega arith), omega arith) (each_more _ (Has_atom 2 Unknown_type) [] ((below_limit 2 (omega arith), tt), omega arith) (each_none _))
    (Case_spelled (omega arith) (Spelled_do refl tt (Spelled_step (below_limit 1 (omega arith)) Spelled_end)) Cases_end) Spelled_end))

pub derivable : Derivable lacking (lacking_script ∷ [])
derivable = record { declared = record { on_mutable = no_adopter; exclusive = no_exclusive }; one_each = refl; derives = derives }
  where
    no_clause : (k : ℕ) (v : Variety) (u : ℕ) → slice_get (one_of_two ∷ []) k ≡ Some v → v.adopts ≡ Some u → ⊥
    no_clause zero v u e a = none_some refl (ap (λ (z : Variety). z.adopts) (some_inj e) ∙ a)
    no_clause (suc k) v u e a = no_get k e

    no_adopter : (place : Place) → IsImmutableAdopter lacking place → ⊥
    no_adopter place (On_declaration k r) = no_clause k r.variety r.adopted r.declared r.adopts
    no_adopter place (On_structure k r) = no_get k r.written

    no_exclusive : (place : Place) → IsNotExclusive (decls_of lacking) place → ⊥
    no_exclusive place (Adopted_declaration k r) = no_clause k r.variety r.adopted r.declared r.adopts
    no_exclusive place (Adopted_structure k r) = no_get k r.written

    derives : (k : ℕ) (f : Fun) (items : List Item) → slice_get lacking.funs k ≡ Some f → slice_get (lacking_script ∷ []) k ≡ Some items → FunDerives lacking f items
    derives zero f items e g = subst (λ z. FunDerives lacking z items) (some_inj e) (subst (λ z. FunDerives lacking matches_a z) (some_inj g) (record { spelled = main_spelled; walks = main_walks }))
    derives (suc k) f items e g = absurd (no_get k e)

-- ---- the run: the block is made, and the match has no case for it

abbrev opening : Config
opening = record { heap = record { at = λ n. None; limit = 0; beyond = λ n l. refl }; threads = Running (start matches_a []) [] ∷ []; prints = [] }

abbrev first : Frame
first = start matches_a []

abbrev second : Frame
second = record { env = at_only 0 (Block_value 0) first.env; rest = record { commands = match_a ∷ []; value = 2 }; outer = [] }

abbrev made : Config
made = with_cell opening 0 (Block_cell 1 None []) (Running second [] ∷ [])

one_step : NStep lacking opening 0 made
one_step = Step_acts first [] (The_command 0 (New_op 1 []) here) (match_a ∷ []) (Block_value 0) (at_only 0 (Block_value 0) first.env) [] (record { here = refl; first = refl })
    (record { name = 0; free = refl; puts = puts_cell opening 0 (Block_cell 1 None []); is = refl }, refl) refl (binds_at first.env 0 (Block_value 0)) (puts_in opening.threads 0 (Running second []) (Running first []) refl)

pub not_safe : NamedSafe lacking → ⊥
not_safe safe = elim ((safe opening made (record { number = 0; main = matches_a; declared = refl; named = refl; empty = λ n. refl; threads = refl; prints = refl }) (More_steps 0 one_step No_steps)).goes_on 0 second [] refl) [
  | inl s ↦ step s.0 (step_inv lacking made s.0 0 second [] match_a [] at s.1)
  | inr z ↦ waits z
]
  where
    at : IsAt made 0 second [] match_a []
    at = record { here = refl; first = refl }

    not_call : {x : ℕ} {xs : List ℕ} → Match_op 0 0 only_a [] ≡ Call_op x xs → ⊥
    not_call e = absurd (cc)

    not_spawn : {x z : ℕ} → Match_op 0 0 only_a [] ≡ Spawn_op x z → ⊥
    not_spawn e = absurd (cc)

    not_acquire : {x : ℕ} → Match_op 0 0 only_a [] ≡ Acquire_op x → ⊥
    not_acquire e = absurd (cc)

    no_case : {con : ℕ} (body : Body) → con ≡ 1 → body_for con (case_list only_a) ≡ Some body → ⊥
    no_case body e q = none_some refl (subst (λ n. body_for n (case_list only_a) ≡ Some body) e q)

    choose : (body : Body) → ChoosesCase made.heap.at (Block_value 0) (case_list only_a) body → ⊥
    choose body c =
        let z : 0 ≡ c.name = block_is refl c.is in
        let k : made.heap.at 0 ≡ Some (Block_cell c.con c.made.adopter c.fields) = subst (λ n. made.heap.at n ≡ Some (Block_cell c.con c.made.adopter c.fields)) (sym z) c.made.made in
        no_case body (cell_con k refl) c.chosen

    step : (w' : Config) → Can lacking made second.env (Match_op 0 0 only_a []) w' → ⊥
    step w' (Can_act v out acts) = acts
    step w' (Can_stop s) = s
    step w' (Can_branch body s) = choose body s
    step w' (Can_call callee args e fn) = not_call e
    step w' (Can_spawn callee arg e fn) = not_spawn e

    waits : Waits made 0 → ⊥
    waits z = not_acquire (ap op_of (same_command z.frame z.below z.command z.rest z.stands) ∙ z.acquires)
      where
        same_command : (g : Frame) (under : List Suspended) (c : Command) (more : List Command) → IsAt made 0 g under c more → match_a ≡ c
        same_command g under c more a = heads at.first (subst (λ z. z.rest.commands ≡ c ∷ more) (sym (frames at.here a.here)) a.first)
