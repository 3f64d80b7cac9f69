-- What the proposer proposes for a program of cells is a derivation of it: command after command, what is known of the names
-- is what their kinds say.
use Rattle.std.proofs.Common.{◌≡◌, inr, ℕ, ◌+◌, true, false, List, [], ◌∷◌, ◌++◌, length, Option, Some, None, IfSome, ◌≤◌, refl, sym, ap, ◌∙◌, subst, slice_get, arith}
use Rattle.std.proofs.lemmas.List.{length_push}
use Rattle.std.proofs.lemmas.Option.{slice_get_within}
use Rattle.mz_tree.specs.declared.types.Place.{Place}
use Rattle.mz_tree.specs.declared.code.Arith.TheVariants.{Add}
use Rattle.mz_tree.specs.Plain.{Atom, Int_type, Unknown_type, Has_atom, Same_atom}
use Rattle.mz_tree.specs.Code.{Op, Int_op, Unit_op, Arith_op, New_op, Read_op, Write_op, Print_op, Command, The_command, Body, to_of, op_of, op_branches, commands_in, result_of}
use Rattle.mz_tree.specs.Programs.{Variety, Fun, Program}
use Rattle.mz_tree.specs.Scoped.{HasFields, Scoped}
use Rattle.mz_decl.specs.Declarations.{Decls, decls_of, IsImmutableAdopter, At_declaration, At_structure}
use Rattle.mz_modes.specs.Affine.{IsMutableCon}
use Rattle.mz_modes.specs.Adopted.{IsNotExclusive, Declared}
use Rattle.mz_modes.specs.Adopted as adopted
use Rattle.mz_perm.specs.Lists.{In}
use Rattle.mz_perm.specs.Occurrence.{in_atom}
use Rattle.mz_perm.proofs.Lists.{in_end}
use Rattle.mz_perm.proofs.Orders.{takes_of}
use Rattle.mz_view.specs.Steps.{Step, Equal_step, Rename_step}
use Rattle.mz_view.specs.Rules.{View}
use Rattle.mz_deriv.specs.Rules.{Does}
use Rattle.mz_deriv.specs.Scripts.{Item, See_item}
use Rattle.mz_deriv.specs.Spelled.{IsNumber, IsWritable, StepSpelled, Spelled, Spelled_end, Spelled_step, Spelled_do}
use Rattle.mz_deriv.specs.Walks.{Walks, Walk_ends, Walk_step, Walk_does}
use Rattle.mz_deriv.specs.Derivable.{FunDerives, Derivable}
use Rattle.mz_cli.specs.Outcome.{IsDerivable}
use Rattle.mz_cli.proofs.Places.{none_some}
use Rattle.mz_cli.proofs.NumberMaps.{Numbers, put_number, number_here}
use Rattle.mz_cli.proofs.NameKinds.{NameKind, Int_kind, Unit_kind, Cell_kind, Kinds, Gives, AllGive}
use Rattle.mz_cli.proofs.FewNames.{few_names}
use Rattle.mz_cli.proofs.Cells.{CellNames, cell_variety, cell_con, cell_main, cell_program, IsOfCells, only_one}
use Rattle.mz_cli.proofs.Proposed.{cell_atom, by_rule, items_for, held_after, items_from, script_for, proposed}
use Rattle.mz_cli.proofs.Known.{none_left, IsFreshFrom, fresh_more, no_name_has, no_name_unknown, no_name_cell, no_name_same, Holds, holds_more, NewHolds, holds_name, holds_put, holds_written}

-- ---- items that lead on

-- the items lead through the commands, in the form of a script, to where the value is known
record Leads (p : Program) (names : List ℕ) (R : List (Atom ℕ)) (commands : List Command) (items : List Item) (value : ℕ) : Type 0 where
  last : List (Atom ℕ)
  walks : Walks (decls_of p) names R commands items last
  spelled : Spelled p commands items
  known : In (Has_atom value Unknown_type) last

-- so do those that begin with a command by its rule
does_leads : (p : Program) (names : List ℕ) (R S : List (Atom ℕ)) (c : Command) (uses : Option (Atom ℕ)) (commands : List Command) (items : List Item) (value : ℕ) → Does (decls_of p) R c uses S → op_branches (op_of c) ≡ false → IfSome uses (IsWritable p) → Leads p (to_of c ∷ names) S commands items value → Leads p names R (c ∷ commands) (by_rule uses ∷ items) value
does_leads p names R S c uses commands items value does plain written next = record { last = next.last; walks = Walk_does does next.walks; spelled = Spelled_do plain written next.spelled; known = next.known }

-- or with a view step
sees_leads : (p : Program) (names : List ℕ) (R S : List (Atom ℕ)) (step : Step) (commands : List Command) (items : List Item) (value : ℕ) → View (decls_of p) R step S → StepSpelled p step → Leads p names S commands items value → Leads p names R commands (See_item step ∷ items) value
sees_leads p names R S step commands items value view written next = record { last = next.last; walks = Walk_step view next.walks; spelled = Spelled_step written next.spelled; known = next.known }

module _ (p : Program) (one_field : HasFields p 0 1) (mutable : IsMutableCon (decls_of p) 0) (value : ℕ) (value_small : value ≤ 256) where
  abbrev D : Decls
  D = decls_of p

  -- permissions of few names can be written
  number_of : (x : ℕ) → x ≤ 256 → IsNumber x
  number_of x few = omega (arith, few)

  int_written : (y : ℕ) → y ≤ 256 → IsWritable p (Has_atom y Int_type)
  int_written y few = ((number_of y few, tt), omega arith)

  cell_written : (x y : ℕ) → x ≤ 256 → y ≤ 256 → IsWritable p (cell_atom x y)
  cell_written x y x_few y_few = ((number_of x x_few, (one_field, (λ k z is. subst IsNumber (sym (only_one y z k is)) (number_of y y_few)), tt)), omega arith)

  -- what the rest of a body comes to, from wherever the kinds are known
  abbrev Onward : Kinds → Numbers → List Command → List Item → Type 0
  Onward kinds held commands items = (names : List ℕ) (S : List (Atom ℕ)) → Holds kinds held S → IsFreshFrom (length kinds) S → Leads p names S commands items value

  -- with one name more the next is a number more
  fresh_next : (kinds : Kinds) (kind : NameKind) (S : List (Atom ℕ)) → IsFreshFrom (length kinds + 1) S → IsFreshFrom (length (kinds ++ kind ∷ [])) S
  fresh_next kinds kind S fresh = subst (λ n. IsFreshFrom n S) (sym (length_push kinds kind)) fresh

  module _ (kinds : Kinds) (held : Numbers) (R : List (Atom ℕ)) (names : List ℕ) (commands : List Command) (items : List Item) (place : Place) (holds : Holds kinds held R) (fresh : IsFreshFrom (length kinds) R) (few : length kinds ≤ 256) where
    -- the command's own name is the next one
    abbrev own : ℕ
    own = length kinds

    -- a command that adds its name at `int`
    int_leads : (op : Op) → Does D R (The_command own op place) None (R ++ Has_atom own Int_type ∷ []) → op_branches op ≡ false → Onward (kinds ++ Int_kind ∷ []) held commands items → Leads p names R (The_command own op place ∷ commands) (by_rule None ∷ items) value
    int_leads op does plain next =
        let S : List (Atom ℕ) = R ++ Has_atom own Int_type ∷ [] in
        does_leads p names R S (The_command own op place) None commands items value does plain tt (next (own ∷ names) S
        (holds_name kinds held S Int_kind (holds_more kinds held R (Has_atom own Int_type) holds) (in_end (Has_atom own Int_type) R))
        (fresh_next kinds Int_kind S (fresh_more own (own + 1) R (Has_atom own Int_type) fresh (omega arith) (no_name_has own (own + 1) (omega arith)))))

    -- or at `unknown`
    unit_leads : (op : Op) → Does D R (The_command own op place) None (R ++ Has_atom own Unknown_type ∷ []) → op_branches op ≡ false → Onward (kinds ++ Unit_kind ∷ []) held commands items → Leads p names R (The_command own op place ∷ commands) (by_rule None ∷ items) value
    unit_leads op does plain next =
        let S : List (Atom ℕ) = R ++ Has_atom own Unknown_type ∷ [] in
        does_leads p names R S (The_command own op place) None commands items value does plain tt (next (own ∷ names) S
        (holds_name kinds held S Unit_kind (holds_more kinds held R (Has_atom own Unknown_type) holds) tt)
        (fresh_next kinds Unit_kind S (fresh_more own (own + 1) R (Has_atom own Unknown_type) fresh (omega arith) (no_name_unknown own (own + 1) (omega arith)))))

    -- a new cell
    new_leads : (y : ℕ) → slice_get kinds y ≡ Some Int_kind → Onward (kinds ++ Cell_kind ∷ []) (put_number held own y) commands items → Leads p names R (The_command own (New_op 0 (y ∷ [])) place ∷ commands) (by_rule None ∷ items) value
    new_leads y number next =
        let S : List (Atom ℕ) = R ++ cell_atom own y ∷ [] in
        let within = slice_get_within kinds y Int_kind number in
        let now : Numbers = put_number held own y in
        let here : now own ≡ y = number_here held own y own refl in
        let new : NewHolds kinds now S own Cell_kind = subst (λ n. In (cell_atom own n) S × (slice_get kinds n ≡ Some Int_kind)) (sym here) (in_end (cell_atom own y) R, number) in
        does_leads p names R S (The_command own (New_op 0 (y ∷ [])) place) None commands items value (record { new = fresh own (omega arith); rule = refl }) refl tt (next (own ∷ names) S
        (holds_name kinds now S Cell_kind (holds_more kinds now R (cell_atom own y) (holds_put kinds held R y holds)) new)
        (fresh_next kinds Cell_kind S (fresh_more own (own + 1) R (cell_atom own y) fresh (omega arith) (no_name_cell own y (own + 1) (omega arith) (omega (arith, within))))))

    -- a read: the new name equals that in the field, which is a number, and so is a number too
    read_leads : (x : ℕ) → slice_get kinds x ≡ Some Cell_kind → Onward (kinds ++ Int_kind ∷ []) held commands items
        → Leads p names R (The_command own (Read_op x 0 0) place ∷ commands) (items_for held own (Read_op x 0 0) ++ items) value
    read_leads x cell next =
        let y : ℕ = held x in
        let number : slice_get kinds y ≡ Some Int_kind = holds.fields x cell in
        let within = slice_get_within kinds y Int_kind number in
        let x_within = slice_get_within kinds x Cell_kind cell in
        let S : List (Atom ℕ) = R ++ Same_atom own y ∷ [] in
        let T : List (Atom ℕ) = S ++ Same_atom y own ∷ [] in
        let U : List (Atom ℕ) = T ++ Has_atom own Int_type ∷ [] in
        let in_S : Holds kinds held S = holds_more kinds held R (Same_atom own y) holds in
        let in_T : Holds kinds held T = holds_more kinds held S (Same_atom y own) in_S in
        let in_U : Holds kinds held U = holds_more kinds held T (Has_atom own Int_type) in_T in
        let fresh_S : IsFreshFrom (own + 1) S = fresh_more own (own + 1) R (Same_atom own y) fresh (omega arith) (no_name_same own y (own + 1) (omega arith) (omega (arith, within))) in
        let fresh_T : IsFreshFrom (own + 1) T = fresh_more (own + 1) (own + 1) S (Same_atom y own) fresh_S (omega arith) (no_name_same y own (own + 1) (omega (arith, within)) (omega arith)) in
        let fresh_U : IsFreshFrom (own + 1) U = fresh_more (own + 1) (own + 1) T (Has_atom own Int_type) fresh_T (omega arith) (no_name_has own (own + 1) (omega arith)) in
        let does : Does D R (The_command own (Read_op x 0 0) place) (Some (cell_atom x y)) S = record {
          new = fresh own (omega arith);
          rule = record { fields = y ∷ []; adopts = None; block = refl; held = holds.cells x cell; name = y; at_field = refl; new = refl };
        } in
        let renames : View D T (Rename_step (Has_atom y Int_type) own) U = record {
          equal = in_end (Same_atom y own) S;
          changes = record { rest = T; used = inr ((λ affine. affine), in_T.ints y number, refl); new = refl };
        } in
        does_leads p names R S (The_command own (Read_op x 0 0) place) (Some (cell_atom x y)) commands _ value does refl (cell_written x y (omega (arith, few, x_within)) (omega (arith, few, within)))
        (sees_leads p (own ∷ names) S T (Equal_step own y) commands _ value (record { equal = inr (in_end (Same_atom own y) R); new = refl }) (number_of own few, number_of y (omega (arith, few, within)))
        (sees_leads p (own ∷ names) T U (Rename_step (Has_atom y Int_type) own) commands items value renames (int_written y (omega (arith, few, within)), number_of own few)
        (next (own ∷ names) U (holds_name kinds held U Int_kind in_U (in_end (Has_atom own Int_type) T)) (fresh_next kinds Int_kind U fresh_U))))

    -- a write: the permission for the cell makes room for one with the new name in its field
    write_leads : (x y : ℕ) → slice_get kinds x ≡ Some Cell_kind → slice_get kinds y ≡ Some Int_kind → Onward (kinds ++ Unit_kind ∷ []) (put_number held x y) commands items
        → Leads p names R (The_command own (Write_op x 0 0 y) place ∷ commands) (by_rule (Some (cell_atom x (held x))) ∷ items) value
    write_leads x y cell number next =
        let a : Atom ℕ = cell_atom x (held x) in
        let left = takes_of a R (holds.cells x cell) in
        let rest : List (Atom ℕ) = left.0 in
        let S : List (Atom ℕ) = rest ++ cell_atom x y ∷ [] in
        let T : List (Atom ℕ) = S ++ Has_atom own Unknown_type ∷ [] in
        let now : Numbers = put_number held x y in
        let x_within = slice_get_within kinds x Cell_kind cell in
        let y_within = slice_get_within kinds y Int_kind number in
        let held_within = slice_get_within kinds (held x) Int_kind (holds.fields x cell) in
        let fresh_rest : IsFreshFrom own rest = λ z from. none_left (in_atom z) a R rest left.1 (fresh z from) in
        let fresh_S : IsFreshFrom own S = fresh_more own own rest (cell_atom x y) fresh_rest (omega arith) (no_name_cell x y own x_within y_within) in
        let fresh_T : IsFreshFrom (own + 1) T = fresh_more own (own + 1) S (Has_atom own Unknown_type) fresh_S (omega arith) (no_name_unknown own (own + 1) (omega arith)) in
        let does : Does D R (The_command own (Write_op x 0 0 y) place) (Some a) T = record {
          new = fresh own (omega arith);
          rule = record { fields = held x ∷ []; adopts = None; block = refl; mutable = mutable; within = omega arith; changed = record { rest = rest; taken = left.1; new = refl } };
        } in
        does_leads p names R T (The_command own (Write_op x 0 0 y) place) (Some a) commands items value does refl (cell_written x (held x) (omega (arith, few, x_within)) (omega (arith, few, held_within)))
        (next (own ∷ names) T (holds_name kinds now T Unit_kind (holds_more kinds now S (Has_atom own Unknown_type) (holds_written kinds held R rest x y left.1 number holds)) tt) (fresh_next kinds Unit_kind T fresh_T))

    -- each command that fits the kinds, by cases
    op_leads : (op : Op) (kind : NameKind) → Gives kinds op kind → Onward (kinds ++ kind ∷ []) (held_after held own op) commands items → Leads p names R (The_command own op place ∷ commands) (items_for held own op ++ items) value
    op_leads (Int_op n) kind is next = int_leads (Int_op n) (record { new = fresh own (omega arith); rule = refl }) refl (subst (λ k. Onward (kinds ++ k ∷ []) held commands items) is next)
    op_leads Unit_op kind is next = unit_leads Unit_op (record { new = fresh own (omega arith); rule = refl }) refl (subst (λ k. Onward (kinds ++ k ∷ []) held commands items) is next)
    op_leads (Arith_op Add left right) kind (l_is, r_is, is) next =
        int_leads (Arith_op Add left right) (record { new = fresh own (omega arith); rule = record { left = holds.ints left l_is; right = holds.ints right r_is; new = refl } }) refl (subst (λ k. Onward (kinds ++ k ∷ []) held commands items) is next)
    op_leads (New_op con fields) kind (con_is, (y, fields_are, number), is) next =
        subst (λ c. Leads p names R (The_command own (New_op c fields) place ∷ commands) (by_rule None ∷ items) value) (sym con_is)
        (subst (λ ys. Leads p names R (The_command own (New_op 0 ys) place ∷ commands) (by_rule None ∷ items) value) (sym fields_are)
        (new_leads y number (subst (λ k. Onward (kinds ++ k ∷ []) (put_number held own y) commands items) is
        (subst (λ ys. Onward (kinds ++ kind ∷ []) (held_after held own (New_op con ys)) commands items) fields_are next))))
    op_leads (Read_op x con field) kind (con_is, field_is, cell, is) next =
        subst (λ c. Leads p names R (The_command own (Read_op x c field) place ∷ commands) (items_for held own (Read_op x 0 0) ++ items) value) (sym con_is)
        (subst (λ f. Leads p names R (The_command own (Read_op x 0 f) place ∷ commands) (items_for held own (Read_op x 0 0) ++ items) value) (sym field_is)
        (read_leads x cell (subst (λ k. Onward (kinds ++ k ∷ []) held commands items) is next)))
    op_leads (Write_op x con field y) kind (con_is, field_is, cell, number, is) next =
        subst (λ c. Leads p names R (The_command own (Write_op x c field y) place ∷ commands) (by_rule (Some (cell_atom x (held x))) ∷ items) value) (sym con_is)
        (subst (λ f. Leads p names R (The_command own (Write_op x 0 f y) place ∷ commands) (by_rule (Some (cell_atom x (held x))) ∷ items) value) (sym field_is)
        (write_leads x y cell number (subst (λ k. Onward (kinds ++ k ∷ []) (put_number held x y) commands items) is next)))
    op_leads (Print_op x) kind (number, is) next =
        unit_leads (Print_op x) (record { new = fresh own (omega arith); rule = record { held = holds.ints x number; new = refl } }) refl (subst (λ k. Onward (kinds ++ k ∷ []) held commands items) is next)
    op_leads _ kind gives next = absurd gives

  -- all commands that go by kinds, one after the other
  all_lead : (commands : List Command) (kinds : Kinds) (held : Numbers) → length kinds + length commands ≤ 256 → AllGive kinds commands → Onward kinds held commands (items_from held commands value)
  all_lead [] kinds held few all names S holds fresh = record {
    last = S ++ Has_atom value Unknown_type ∷ [];
    walks = Walk_step refl Walk_ends;
    spelled = Spelled_step (number_of value value_small) Spelled_end;
    known = in_end (Has_atom value Unknown_type) S;
  }
  all_lead (The_command to op place ∷ commands) kinds held few (kind, to_is, gives, others) names S holds fresh =
      subst (λ n. Leads p names S (The_command n op place ∷ commands) (items_for held n op ++ items_from (held_after held n op) commands value) value) (sym to_is)
      (op_leads kinds held S names commands (items_from (held_after held (length kinds) op) commands value) place holds fresh (omega (arith, few)) op kind gives
      (all_lead commands (kinds ++ kind ∷ []) (held_after held (length kinds) op) (subst (λ n. n + length commands ≤ 256) (sym (length_push kinds kind)) (omega (arith, few))) others))

-- ---- programs

-- no `adopts` stands in a program of cells
cells_declared : (names : CellNames) (body : Body) (spelling : List (List ℕ)) → Declared (cell_program names body spelling)
cells_declared names body spelling = record { on_mutable = on_mutable; exclusive = exclusive }
  where
    p : Program
    p = cell_program names body spelling

    on_mutable : (place : Place) → IsImmutableAdopter p place → ⊥
    on_mutable place (At_declaration k on) = let same = only_one (cell_variety names) on.variety k on.declared in let immutable : true ≡ false = sym (ap (λ (v : Variety). v.mutable) same) ∙ on.immutable in cc
    on_mutable place (At_structure k on) = none_some None on.clause refl on.written

    exclusive : (place : Place) → IsNotExclusive (decls_of p) place → ⊥
    exclusive place (adopted.At_declaration k on) = let same = only_one (cell_variety names) on.variety k on.declared in none_some None on.adopted refl (sym (ap (λ (v : Variety). v.adopts) same) ∙ on.adopts)
    exclusive place (adopted.At_structure k on) = none_some None on.clause refl on.written

-- what is proposed for its `main` leads through it
main_derives : (names : CellNames) (body : Body) (spelling : List (List ℕ)) → AllGive [] (commands_in body) → Scoped (cell_program names body spelling) → FunDerives (cell_program names body spelling) (cell_main body spelling) (script_for (cell_main body spelling))
main_derives names body spelling kinded scoped =
    let p : Program = cell_program names body spelling in
    let few = few_names names body spelling kinded scoped in
    let mutable : IsMutableCon (decls_of p) 0 = record { con = _; made = refl; mutable = record { variety = cell_variety names; declared = refl; mutable = refl } } in
    let leads = all_lead p (record { found = cell_con names; declared = refl; fields = refl }) mutable (result_of body) few.0 (commands_in body) [] (λ x. 0) few.1 kinded [] [] (record { ints = λ x none. cc; cells = λ x none. cc; fields = λ x none. cc }) (λ x from. refl) in
    record {
      spelled = leads.spelled;
      walks = record {
        sig = _;
        signed = refl;
        last = leads.last;
        walks = leads.walks;
        rest = leads.last;
        ends = (leads.last, inr ((λ affine. affine), leads.known, refl), refl);
      };
    }

cells_derivable : (names : CellNames) (body : Body) (spelling : List (List ℕ)) → AllGive [] (commands_in body) → Scoped (cell_program names body spelling) → Derivable (cell_program names body spelling) (proposed (cell_program names body spelling))
cells_derivable names body spelling kinded scoped = record {
  declared = cells_declared names body spelling;
  one_each = refl;
  derives = λ k f script is proposes.
      let p : Program = cell_program names body spelling in
      let main : Fun = cell_main body spelling in
      subst (λ s. FunDerives p f s) (sym (only_one (script_for main) script k proposes)) (subst (λ g. FunDerives p g (script_for main)) (sym (only_one main f k is)) (main_derives names body spelling kinded scoped));
}

-- so each program of cells has a derivation: the one that is proposed
pub derived : (program : Program) → IsOfCells program → Scoped program → IsDerivable program
derived program cells scoped = subst IsDerivable (sym cells.is) (proposed (cell_program cells.names cells.body cells.spelling), cells_derivable cells.names cells.body cells.spelling cells.kinded (subst Scoped cells.is scoped))
