-- All runs of a body that goes by kinds come to the same. A number belongs to each name: its value, or the number in its
-- block. Two names never have the same block, so each command changes these numbers in one way, whatever the blocks are;
-- and so what the rest of the body comes to by its numbers stays what the whole body comes to, step by step.
use Rattle.std.proofs.Common.{◌≡◌, ◌≢◌, inl, inr, ℕ, zero, suc, Bool, true, false, List, [], ◌∷◌, ◌++◌, length, map, Option, Some, None, is_none, cond, refl, sym, ap, ◌∙◌, subst, slice_get, slice_set, append-nil}
use Rattle.std.specs.Prelude.{unwrap_or}
use Rattle.std.proofs.lemmas.Bool.{cases_eq}
use Rattle.mz_tree.specs.declared.types.Place.{Place}
use Rattle.mz_tree.specs.declared.code.Arith.TheVariants.{Add}
use Rattle.mz_tree.specs.Arithmetic.{computed}
use Rattle.mz_tree.specs.Code.{Op, Int_op, Unit_op, Arith_op, New_op, Read_op, Write_op, Print_op, Command, The_command, op_of, place_of, commands_in}
use Rattle.mz_tree.specs.Programs.{Program}
use Rattle.mz_named.specs.Machine.{Value, Int_value, Block_value, Cell, Block_cell, Cells, Environment, Frame, Running, Ended, Stopped, Config, Puts, Keeps, Binds, value_at, start, Fresh, IsBlock, ComputesTo, Acts, next, IsAt, NStep, IsOpening}
use Rattle.mz_named.specs.Doing.{FailsArith}
use Rattle.mz_named.proofs.Inverting.{same_frame}
use Rattle.mz_resource.proofs.Safety.{runs}
use Rattle.mz_cli.specs.Running.{Steps, No_step, Step_more, LeadsTo, HasEnded, StopsAt}
use Rattle.mz_cli.specs.OneOutcome.{ComeToOne, AtMostOneOutcome}
use Rattle.mz_cli.proofs.Places.{none_some, some_is, end_here, end_there}
use Rattle.mz_cli.proofs.NameKinds.{NameKind, Int_kind, Unit_kind, Cell_kind, Kinds, Gives, AllGive}
use Rattle.mz_cli.proofs.NumberMaps.{Numbers, put_number, number_here, number_there}
use Rattle.mz_cli.proofs.Cells.{IsOfCells}
use Rattle.mz_cli.proofs.CellTexts.{cells_read}
use Rattle.mz_cli.proofs.Straight.{ended_runs, stopped_runs, stopped_ended, After, Has_acted, Has_stopped, after_command, HasDone, after_end}
use Rattle.mz_cli.proofs.Standing.{opening_commands}

-- ---- what commands come to, by the numbers of the names

-- what a sum comes to, if it is a number
abbrev sum_of : Numbers → ℕ → ℕ → Option ℕ
sum_of numbers left right = computed Add (numbers left) (numbers right)

-- the numbers after a command with this name
abbrev after_op : Numbers → ℕ → Op → Numbers
after_op numbers to (Int_op n) = put_number numbers to n
after_op numbers to Unit_op = put_number numbers to 0
after_op numbers to (Arith_op Add left right) = put_number numbers to (unwrap_or (sum_of numbers left right) 0)
after_op numbers to (New_op con (y ∷ [])) = put_number numbers to (numbers y)
after_op numbers to (Read_op name con field) = put_number numbers to (numbers name)
after_op numbers to (Write_op name con field source) = put_number (put_number numbers name (numbers source)) to 0
after_op numbers to (Print_op name) = put_number numbers to 0
after_op numbers to _ = numbers

-- the prints after it
abbrev prints_after : Numbers → Op → List ℕ → List ℕ
prints_after numbers (Print_op name) prints = prints ++ numbers name ∷ []
prints_after numbers _ prints = prints

-- it is a sum past the largest number
abbrev is_past : Numbers → Op → Bool
is_past numbers (Arith_op Add left right) = is_none (sum_of numbers left right)
is_past numbers _ = false

-- what commands come to: where they stop, if they do, and the prints
abbrev Outcome : Type 0
Outcome = Option Place × List ℕ

abbrev comes_to : List Command → Numbers → List ℕ → Outcome
comes_to [] numbers prints = (None, prints)
comes_to (The_command to op place ∷ commands) numbers prints = cond (is_past numbers op) (Some place, prints) (comes_to commands (after_op numbers to op) (prints_after numbers op prints))

-- ---- values with their numbers

-- a value of this kind with this number
abbrev IsNumber : Cells → Value → NameKind → ℕ → Type 0
IsNumber at v Int_kind n = v ≡ Int_value n
IsNumber at v Unit_kind n = v ≡ Int_value n
IsNumber at v Cell_kind n = (b : ℕ) × (adopter : Option ℕ) × (v ≡ Block_value b) × (at b ≡ Some (Block_cell 0 adopter (Int_value n ∷ [])))

-- each name that has a kind has a value of it with its number
abbrev Have : Kinds → Numbers → Environment → Cells → Type 0
Have kinds numbers e at = (name : ℕ) (kind : NameKind) → slice_get kinds name ≡ Some kind → IsNumber at (e name) kind (numbers name)

-- two names never have the same block
abbrev Apart : Environment → Type 0
Apart e = (x y b : ℕ) → e x ≡ Block_value b → e y ≡ Block_value b → x ≡ y

-- the block of each name stands for something
abbrev Stand : Environment → Cells → Type 0
Stand e at = (x b : ℕ) → e x ≡ Block_value b → at b ≡ None → ⊥

record Fine (kinds : Kinds) (numbers : Numbers) (e : Environment) (at : Cells) : Type 0 where
  have : Have kinds numbers e at
  apart : Apart e
  stand : Stand e at

-- a number is one
same_int : {v : Value} {a b : ℕ} → v ≡ Int_value a → v ≡ Int_value b → a ≡ b
same_int this that = cc

-- a block has one name
same_block : {v : Value} {a b : ℕ} → v ≡ Block_value a → v ≡ Block_value b → a ≡ b
same_block this that = cc

-- no number is a block
int_block : {v : Value} {n b : ℕ} → v ≡ Int_value n → v ≡ Block_value b → ⊥
int_block this that = cc

-- a new value stands for itself or for a block that no name has
abbrev IsNew : Environment → Cells → Value → Type 0
IsNew e at v = (b : ℕ) → v ≡ Block_value b → ((x : ℕ) → e x ≡ Block_value b → ⊥) × (at b ≡ None → ⊥)

int_new : (e : Environment) (at : Cells) (v : Value) (n : ℕ) → v ≡ Int_value n → IsNew e at v
int_new e at v n is b block = absurd (int_block is block)

-- a new name gets a value with its number
bind_fine : (kinds : Kinds) (kind : NameKind) (numbers : Numbers) (n : ℕ) (e e' : Environment) (at : Cells) (to : ℕ) (v : Value) → Fine kinds numbers e at → IsNumber at v kind n → IsNew e at v → to ≡ length kinds → Binds e to v e'
    → Fine (kinds ++ kind ∷ []) (put_number numbers to n) e' at
bind_fine kinds kind numbers n e e' at to v fine is new to_is binds = record {
  have = λ name k there. elim (cases_eq name to) [
    | inl same ↦
        let k_is : kind ≡ k = some_is (slice_get (kinds ++ kind ∷ []) (length kinds)) kind k (end_here kinds kind) (ap (λ i. slice_get (kinds ++ kind ∷ []) i) (sym (same ∙ to_is)) ∙ there) in
        subst (λ u. IsNumber at u k (put_number numbers to n name)) (sym (ap e' same ∙ binds.bound))
        (subst (λ m. IsNumber at v k m) (sym (number_here numbers to n name same)) (subst (λ j. IsNumber at v j n) k_is is))
    | inr differ ↦
        let before = fine.have name k (sym (end_there kinds kind name (λ same. differ (same ∙ sym to_is))) ∙ there) in
        subst (λ u. IsNumber at u k (put_number numbers to n name)) (sym (binds.others name differ)) (subst (λ m. IsNumber at (e name) k m) (sym (number_there numbers to n name differ)) before)
  ];
  apart = λ x y b one other. elim (cases_eq x to) [
    | inl x_is ↦ elim (cases_eq y to) [
      | inl y_is ↦ x_is ∙ sym y_is
      | inr y_not ↦ absurd ((new b (sym binds.bound ∙ sym (ap e' x_is) ∙ one)).0 y (sym (binds.others y y_not) ∙ other))
    ]
    | inr x_not ↦ elim (cases_eq y to) [
      | inl y_is ↦ absurd ((new b (sym binds.bound ∙ sym (ap e' y_is) ∙ other)).0 x (sym (binds.others x x_not) ∙ one))
      | inr y_not ↦ fine.apart x y b (sym (binds.others x x_not) ∙ one) (sym (binds.others y y_not) ∙ other)
    ]
  ];
  stand = λ x b one. elim (cases_eq x to) [
    | inl x_is ↦ (new b (sym binds.bound ∙ sym (ap e' x_is) ∙ one)).1
    | inr x_not ↦ fine.stand x b (sym (binds.others x x_not) ∙ one)
  ];
}

-- ---- cells

-- where nothing changes no number does
kept_fine : (kinds : Kinds) (numbers : Numbers) (e : Environment) (at at' : Cells) → Fine kinds numbers e at → Keeps at at' → Fine kinds numbers e at'
kept_fine kinds numbers e at at' fine keeps = record {
  have = λ name k there. kept k (e name) (numbers name) (fine.have name k there);
  apart = fine.apart;
  stand = λ x b has none. fine.stand x b has (sym (keeps b) ∙ none);
}
  where
    kept : (k : NameKind) (v : Value) (n : ℕ) → IsNumber at v k n → IsNumber at' v k n
    kept Int_kind v n is = is
    kept Unit_kind v n is = is
    kept Cell_kind v n (b, adopter, is, there) = (b, adopter, is, keeps b ∙ there)

-- a block that is put where nothing stood changes no name's number
fresh_fine : (kinds : Kinds) (numbers : Numbers) (e : Environment) (at at' : Cells) (b : ℕ) (c : Cell) → Fine kinds numbers e at → at b ≡ None → Puts at b c at' → Fine kinds numbers e at'
fresh_fine kinds numbers e at at' b c fine free puts = record {
  have = λ name k there. kept k (e name) (numbers name) (fine.have name k there);
  apart = fine.apart;
  stand = λ x b' has none. elim (cases_eq b' b) [
    | inl same ↦ none_some (at' b) c (ap at' (sym same) ∙ none) puts.put
    | inr differ ↦ fine.stand x b' has (sym (puts.others b' differ) ∙ none)
  ];
}
  where
    kept : (k : NameKind) (v : Value) (n : ℕ) → IsNumber at v k n → IsNumber at' v k n
    kept Int_kind v n is = is
    kept Unit_kind v n is = is
    kept Cell_kind v n (b', adopter, is, there) =
        (b', adopter, is, puts.others b' (λ same. none_some (at b) (Block_cell 0 adopter (Int_value n ∷ [])) free (ap at (sym same) ∙ there)) ∙ there)

-- a name's block gets another number: no other name has it
write_fine : (kinds : Kinds) (numbers : Numbers) (e : Environment) (at at' : Cells) (name b : ℕ) (adopter : Option ℕ) (n : ℕ) → Fine kinds numbers e at → slice_get kinds name ≡ Some Cell_kind → e name ≡ Block_value b
    → Puts at b (Block_cell 0 adopter (Int_value n ∷ [])) at' → Fine kinds (put_number numbers name n) e at'
write_fine kinds numbers e at at' name b adopter n fine kind_is named puts = record {
  have = λ x k there. elim (cases_eq x name) [
    | inl same ↦
        let k_is : Cell_kind ≡ k = some_is (slice_get kinds name) Cell_kind k kind_is (ap (slice_get kinds) (sym same) ∙ there) in
        subst (λ m. IsNumber at' (e x) k m) (sym (number_here numbers name n x same)) (subst (λ j. IsNumber at' (e x) j n) k_is (b, adopter, ap e same ∙ named, puts.put))
    | inr differ ↦
        subst (λ m. IsNumber at' (e x) k m) (sym (number_there numbers name n x differ)) (kept x differ k (numbers x) (fine.have x k there))
  ];
  apart = fine.apart;
  stand = λ x b' has none. elim (cases_eq b' b) [
    | inl same ↦ none_some (at' b) (Block_cell 0 adopter (Int_value n ∷ [])) (ap at' (sym same) ∙ none) puts.put
    | inr differ ↦ fine.stand x b' has (sym (puts.others b' differ) ∙ none)
  ];
}
  where
    kept : (x : ℕ) → x ≢ name → (k : NameKind) (m : ℕ) → IsNumber at (e x) k m → IsNumber at' (e x) k m
    kept x differ Int_kind m is = is
    kept x differ Unit_kind m is = is
    kept x differ Cell_kind m (b', other, is, there) = (b', other, is, puts.others b' (λ same. differ (fine.apart x name b (is ∙ ap Block_value same) named)) ∙ there)

-- ---- what a command does

-- it is no sum past the largest number, all stays fine after it, and the prints are those after it
record Moved (kinds : Kinds) (kind : NameKind) (numbers : Numbers) (to : ℕ) (op : Op) (e' : Environment) (at' : Cells) (prints out : List ℕ) : Type 0 where
  within : is_past numbers op ≡ false
  fine : Fine (kinds ++ kind ∷ []) (after_op numbers to op) e' at'
  printed : prints ++ out ≡ prints_after numbers op prints

-- where nothing is printed
nothing_printed : (prints out : List ℕ) → out ≡ [] → prints ++ out ≡ prints
nothing_printed prints out none = ap (λ l. prints ++ l) none ∙ append-nil prints

-- a number, or `()`, is bound, and no block changes
int_fine : (kinds : Kinds) (kind k : NameKind) (numbers : Numbers) (n : ℕ) (e e' : Environment) (at at' : Cells) (to : ℕ) (v : Value) → Fine kinds numbers e at → Keeps at at' → kind ≡ k → IsNumber at' v k n → v ≡ Int_value n → to ≡ length kinds → Binds e to v e'
    → Fine (kinds ++ kind ∷ []) (put_number numbers to n) e' at'
int_fine kinds kind k numbers n e e' at at' to v fine keeps kind_is number is to_is binds =
    bind_fine kinds kind numbers n e e' at' to v (kept_fine kinds numbers e at at' fine keeps) (subst (λ j. IsNumber at' v j n) (sym kind_is) number) (int_new e at' v n is) to_is binds

-- the fields of a block
abbrev fields_in : Option Cell → List Value
fields_in (Some (Block_cell con adopter fields)) = fields
fields_in other = []

-- a name that is a block has its number in its one field
cell_is : (kinds : Kinds) (numbers : Numbers) (e : Environment) (at : Cells) (name con b : ℕ) (fields : List Value) → Have kinds numbers e at → slice_get kinds name ≡ Some Cell_kind → e name ≡ Block_value b → IsBlock at b con fields
    → fields ≡ Int_value (numbers name) ∷ []
cell_is kinds numbers e at name con b fields have is named block =
    let found = have name Cell_kind is in
    let same : b ≡ found.0 = same_block named found.2 in
    ap fields_in (sym block.made ∙ ap at same ∙ found.3)

-- a new block is bound
new_fine : (kinds : Kinds) (kind : NameKind) (numbers : Numbers) (con y : ℕ) (e e' : Environment) (at at' : Cells) (to : ℕ) (v : Value) → Fine kinds numbers e at → con ≡ 0 → slice_get kinds y ≡ Some Int_kind → kind ≡ Cell_kind
    → Fresh at (Block_cell con None (e y ∷ [])) v at' → to ≡ length kinds → Binds e to v e' → Fine (kinds ++ kind ∷ []) (put_number numbers to (numbers y)) e' at'
new_fine kinds kind numbers con y e e' at at' to v fine con_is y_is kind_is fresh to_is binds =
    let there : at' fresh.name ≡ Some (Block_cell 0 None (Int_value (numbers y) ∷ [])) = fresh.puts.put ∙ ap (λ k. Some (Block_cell k None (e y ∷ []))) con_is ∙ ap (λ u. Some (Block_cell 0 None (u ∷ []))) (fine.have y Int_kind y_is) in
    bind_fine kinds kind numbers (numbers y) e e' at' to v (fresh_fine kinds numbers e at at' fresh.name (Block_cell con None (e y ∷ [])) fine fresh.free fresh.puts)
    (subst (λ k. IsNumber at' v k (numbers y)) (sym kind_is) (fresh.name, None, fresh.is, there)) new to_is binds
  where
    new : IsNew e at' v
    new b block =
        let same : fresh.name ≡ b = same_block fresh.is block in
        ((λ x has. fine.stand x b has (ap at (sym same) ∙ fresh.free)), (λ none. none_some (at' fresh.name) (Block_cell con None (e y ∷ [])) (ap at' same ∙ none) fresh.puts.put))

-- the sum of two names that are numbers
sum_is : (kinds : Kinds) (numbers : Numbers) (e : Environment) (at : Cells) (left right : ℕ) (result : Option ℕ) → Have kinds numbers e at → slice_get kinds left ≡ Some Int_kind → slice_get kinds right ≡ Some Int_kind → ComputesTo (e left) (e right) Add result → sum_of numbers left right ≡ result
sum_is kinds numbers e at left right result have l_is r_is to =
    let l : numbers left ≡ to.left = same_int (have left Int_kind l_is) to.is_left in
    let r : numbers right ≡ to.right = same_int (have right Int_kind r_is) to.is_right in
    ap (λ a. computed Add a (numbers right)) l ∙ ap (λ b. computed Add to.left b) r ∙ to.gives

-- each command moves on so, by cases
acts_moved : (kinds : Kinds) (numbers : Numbers) (e e' : Environment) (to : ℕ) (op : Op) (kind : NameKind) (at at' : Cells) (prints out : List ℕ) (v : Value) → Gives kinds op kind → Fine kinds numbers e at → Acts at e op v at' out
    → to ≡ length kinds → Binds e to v e' → Moved kinds kind numbers to op e' at' prints out
acts_moved kinds numbers e e' to (Int_op n) kind at at' prints out v gives fine (is, keeps, none) to_is binds =
    record { within = refl; fine = int_fine kinds kind Int_kind numbers n e e' at at' to v fine keeps gives is is to_is binds; printed = nothing_printed prints out none }
acts_moved kinds numbers e e' to Unit_op kind at at' prints out v gives fine (is, keeps, none) to_is binds =
    record { within = refl; fine = int_fine kinds kind Unit_kind numbers 0 e e' at at' to v fine keeps gives is is to_is binds; printed = nothing_printed prints out none }
acts_moved kinds numbers e e' to (Arith_op Add left right) kind at at' prints out v (l_is, r_is, kind_is) fine (result, keeps, none) to_is binds =
    let n : ℕ = result.0 in
    let sum : sum_of numbers left right ≡ Some n = sum_is kinds numbers e at left right (Some n) fine.have l_is r_is result.1 in
    let is : v ≡ Int_value (unwrap_or (sum_of numbers left right) 0) = result.2 ∙ ap (λ o. Int_value (unwrap_or o 0)) (sym sum) in
    record {
      within = ap is_none sum;
      fine = int_fine kinds kind Int_kind numbers (unwrap_or (sum_of numbers left right) 0) e e' at at' to v fine keeps kind_is is is to_is binds;
      printed = nothing_printed prints out none;
    }
acts_moved kinds numbers e e' to (New_op con names) kind at at' prints out v (con_is, (y, names_are, y_is), kind_is) fine (fresh, none) to_is binds =
    subst (λ ns. Moved kinds kind numbers to (New_op con ns) e' at' prints out) (sym names_are) (record {
      within = refl;
      fine = new_fine kinds kind numbers con y e e' at at' to v fine con_is y_is kind_is (subst (λ ns. Fresh at (Block_cell con None (map e ns)) v at') names_are fresh) to_is binds;
      printed = nothing_printed prints out none;
    })
acts_moved kinds numbers e e' to (Read_op name con field) kind at at' prints out v (con_is, field_is, name_is, kind_is) fine (reads, keeps, none) to_is binds =
    let all = cell_is kinds numbers e at name con reads.name reads.fields fine.have name_is reads.is reads.made in
    let first : slice_get reads.fields field ≡ Some (Int_value (numbers name)) = ap (λ l. slice_get l field) all ∙ ap (λ i. slice_get (Int_value (numbers name) ∷ []) i) field_is in
    let is : v ≡ Int_value (numbers name) = some_is (slice_get reads.fields field) v (Int_value (numbers name)) reads.at_field first in
    record { within = refl; fine = int_fine kinds kind Int_kind numbers (numbers name) e e' at at' to v fine keeps kind_is is is to_is binds; printed = nothing_printed prints out none }
acts_moved kinds numbers e e' to (Write_op name con field source) kind at at' prints out v (con_is, field_is, name_is, source_is, kind_is) fine (writes, is, none) to_is binds =
    let all = cell_is kinds numbers e at name con writes.name writes.fields fine.have name_is writes.is writes.made in
    let n : ℕ = numbers source in
    let set : slice_set writes.fields field (e source) ≡ Int_value n ∷ [] = ap (λ l. slice_set l field (e source)) all ∙ ap (λ i. slice_set (Int_value (numbers name) ∷ []) i (e source)) field_is ∙ ap (λ u. u ∷ []) (fine.have source Int_kind source_is) in
    let cell_set : Block_cell con writes.made.adopter (slice_set writes.fields field (e source)) ≡ Block_cell 0 writes.made.adopter (Int_value n ∷ []) = ap (λ k. Block_cell k writes.made.adopter (slice_set writes.fields field (e source))) con_is ∙ ap (λ fs. Block_cell 0 writes.made.adopter fs) set in
    let written : Fine kinds (put_number numbers name n) e at' = write_fine kinds numbers e at at' name writes.name writes.made.adopter n fine name_is writes.is (subst (λ c. Puts at writes.name c at') cell_set writes.puts) in
    record { within = refl; fine = int_fine kinds kind Unit_kind (put_number numbers name n) 0 e e' at' at' to v written (λ b. refl) kind_is is is to_is binds; printed = nothing_printed prints out none }
acts_moved kinds numbers e e' to (Print_op name) kind at at' prints out v (name_is, kind_is) fine (number, is, keeps) to_is binds =
    let n_is : number.0 ≡ numbers name = same_int number.1 (fine.have name Int_kind name_is) in
    record { within = refl; fine = int_fine kinds kind Unit_kind numbers 0 e e' at at' to v fine keeps kind_is is is to_is binds; printed = ap (λ l. prints ++ l) number.2 ∙ ap (λ m. prints ++ m ∷ []) n_is }
acts_moved kinds numbers e e' to _ kind at at' prints out v gives fine acts to_is binds = absurd gives

-- a command that stops the thread is a sum past the largest number
fails_past : (kinds : Kinds) (numbers : Numbers) (e : Environment) (at : Cells) (op : Op) (kind : NameKind) → Gives kinds op kind → Fine kinds numbers e at → FailsArith e op → is_past numbers op ≡ true
fails_past kinds numbers e at (Arith_op Add left right) kind (l_is, r_is, kind_is) fine fails = ap is_none (sum_is kinds numbers e at left right None fine.have l_is r_is fails)
fails_past kinds numbers e at (Arith_op other left right) kind gives fine fails = absurd gives
fails_past kinds numbers e at _ kind gives fine fails = absurd fails

-- ---- configurations

-- the thread has one frame, whose names have these numbers, and what is left comes to this
record IsGoing (outcome : Outcome) (kinds : Kinds) (numbers : Numbers) (w : Config) : Type 0 where
  frame : Frame
  running : slice_get w.threads 0 ≡ Some (Running frame [])
  alone : frame.outer ≡ []
  kinded : AllGive kinds frame.rest.commands
  fine : Fine kinds numbers frame.env w.heap.at
  comes : comes_to frame.rest.commands numbers w.prints ≡ outcome

-- what stays so from the opening on
data ComesTo (outcome : Outcome) (w : Config) : Type 0 where
  going : (kinds : Kinds) (numbers : Numbers) → IsGoing outcome kinds numbers w → ComesTo outcome w
  has_ended : slice_get w.threads 0 ≡ Some Ended → outcome ≡ (None, w.prints) → ComesTo outcome w
  has_stopped : slice_get w.threads 0 ≡ Some Stopped → ComesTo outcome w

-- a name that isn't bound is no block
unbound : (x b : ℕ) → value_at [] x ≡ Block_value b → ⊥
unbound zero b is = cc
unbound (suc x) b is = cc

-- the start of a program of cells
opening_comes : (p : Program) (w : Config) (cells : IsOfCells p) → IsOpening p w → ComesTo (comes_to (commands_in cells.body) (λ name. 0) []) w
opening_comes p w cells opening =
    let same : commands_in opening.main.body ≡ commands_in cells.body = opening_commands p w cells opening in
    going [] (λ name. 0) (record {
      frame = start opening.main [];
      running = ap (λ l. slice_get l 0) opening.threads;
      alone = refl;
      kinded = subst (AllGive []) (sym same) cells.kinded;
      fine = record {
        have = λ name kind is. absurd (none_some None kind refl is);
        apart = λ x y b one other. absurd (unbound x b one);
        stand = λ x b one none. unbound x b one;
      };
      comes = ap (λ l. comes_to l (λ name. 0) w.prints) same ∙ ap (λ l. comes_to (commands_in cells.body) (λ name. 0) l) opening.prints;
    })

module _ (p : Program) (outcome : Outcome) (w w' : Config) where
  module _ (kinds : Kinds) (numbers : Numbers) (g : IsGoing outcome kinds numbers w) where
    -- a step by a command
    command_comes : (to : ℕ) (op : Op) (place : Place) (rest : List Command) → g.frame.rest.commands ≡ The_command to op place ∷ rest → NStep p w 0 w' → ComesTo outcome w'
    command_comes to op place rest first step = by (after_command w 0 g.frame [] c rest at p w' kinds kinded.0 kinded.2 step)
      where
        c : Command
        c = The_command to op place

        at : IsAt w 0 g.frame [] c rest
        at = record { here = g.running; first = first }

        kinded : AllGive kinds (c ∷ rest)
        kinded = subst (AllGive kinds) first g.kinded

        comes : comes_to (c ∷ rest) numbers w.prints ≡ outcome
        comes = subst (λ l. comes_to l numbers w.prints ≡ outcome) first g.comes

        by : After w 0 g.frame [] c rest w' → ComesTo outcome w'
        by (Has_acted v e' out acts prints binds stands) =
            let moved = acts_moved kinds numbers g.frame.env e' to op kinded.0 w.heap.at w'.heap.at w.prints out v kinded.2 g.fine acts kinded.1 binds in
            let tail : Outcome = comes_to rest (after_op numbers to op) (prints_after numbers op w.prints) in
            going (kinds ++ kinded.0 ∷ []) (after_op numbers to op) (record {
              frame = next g.frame e' rest;
              running = stands;
              alone = g.alone;
              kinded = kinded.3;
              fine = moved.fine;
              comes = ap (λ l. comes_to rest (after_op numbers to op) l) (prints ∙ moved.printed) ∙ sym (ap (λ b. cond b (Some place, w.prints) tail) moved.within) ∙ comes;
            })
        by (Has_stopped prints stopped) = has_stopped stopped

    -- a step at the end
    end_comes : g.frame.rest.commands ≡ [] → NStep p w 0 w' → ComesTo outcome w'
    end_comes none step =
        let done : HasDone w 0 w' = after_end p w w' 0 g.frame (record { here = g.running; done = none }) g.alone step in
        has_ended done.ended (sym (subst (λ l. comes_to l numbers w.prints ≡ outcome) none g.comes) ∙ ap (λ l. (None, l)) (sym done.prints))

    going_comes : NStep p w 0 w' → ComesTo outcome w'
    going_comes step = by g.frame.rest.commands refl
      where
        by : (commands : List Command) → g.frame.rest.commands ≡ commands → ComesTo outcome w'
        by [] none = end_comes none step
        by (The_command to op place ∷ rest) first = command_comes to op place rest first step

  -- each step keeps what it comes to
  step_comes : NStep p w 0 w' → ComesTo outcome w → ComesTo outcome w'
  step_comes step (going kinds numbers g) = going_comes kinds numbers g step
  step_comes step (has_ended ended is) = let r = runs p w w' 0 step in absurd (ended_runs ended r.2)
  step_comes step (has_stopped stopped) = let r = runs p w w' 0 step in absurd (stopped_runs stopped r.2)

-- and so do any steps
steps_come : {p : Program} {w w' : Config} (outcome : Outcome) → Steps p w w' → ComesTo outcome w → ComesTo outcome w'
steps_come outcome No_step comes = comes
steps_come outcome (Step_more s more) comes = steps_come outcome more (step_comes _ outcome _ _ s comes)

-- ---- outcomes

-- an ended thread's prints are what the body comes to
ended_is : (outcome : Outcome) (w : Config) → ComesTo outcome w → HasEnded w 0 → outcome ≡ (None, w.prints)
ended_is outcome w (going kinds numbers g) ended = absurd (ended_runs ended g.running)
ended_is outcome w (has_ended e is) ended = is
ended_is outcome w (has_stopped e) ended = absurd (stopped_ended e ended)

-- and so are the place and the prints of one that stops
stopped_is : (outcome : Outcome) (w : Config) (place : Place) → ComesTo outcome w → StopsAt w 0 place → outcome ≡ (Some place, w.prints)
stopped_is outcome w place (going kinds numbers g) s = by s.stop.command s.there kinded comes fails
  where
    same : s.stop.frame ≡ g.frame
    same = same_frame s.stop.stands.here g.running

    first : g.frame.rest.commands ≡ s.stop.command ∷ s.stop.rest
    first = subst (λ (f : Frame). f.rest.commands ≡ s.stop.command ∷ s.stop.rest) same s.stop.stands.first

    kinded : AllGive kinds (s.stop.command ∷ s.stop.rest)
    kinded = subst (AllGive kinds) first g.kinded

    comes : comes_to (s.stop.command ∷ s.stop.rest) numbers w.prints ≡ outcome
    comes = subst (λ l. comes_to l numbers w.prints ≡ outcome) first g.comes

    fails : FailsArith g.frame.env (op_of s.stop.command)
    fails = subst (λ (f : Frame). FailsArith f.env (op_of s.stop.command)) same s.stop.fails

    by : (c : Command) → place_of c ≡ place → AllGive kinds (c ∷ s.stop.rest) → comes_to (c ∷ s.stop.rest) numbers w.prints ≡ outcome → FailsArith g.frame.env (op_of c) → outcome ≡ (Some place, w.prints)
    by (The_command to op there) place_is (kind, to_is, gives, others) is fail =
        let past = fails_past kinds numbers g.frame.env w.heap.at op kind gives g.fine fail in
        let tail : Outcome = comes_to s.stop.rest (after_op numbers to op) (prints_after numbers op w.prints) in
        sym is ∙ ap (λ b. cond b (Some there, w.prints) tail) past ∙ ap (λ z. (Some z, w.prints)) place_is
stopped_is outcome w place (has_ended e is) s = absurd (ended_runs e s.stop.stands.here)
stopped_is outcome w place (has_stopped e) s = absurd (stopped_runs e s.stop.stands.here)

-- what the body comes to, a run of it comes to
run_comes : (p : Program) (w : Config) (cells : IsOfCells p) → LeadsTo p w → ComesTo (comes_to (commands_in cells.body) (λ name. 0) []) w
run_comes p w cells led = steps_come _ led.steps (opening_comes p led.start cells led.opening)

-- two configurations that come to one outcome
come_to_one : (outcome : Outcome) (w v : Config) → ComesTo outcome w → ComesTo outcome v → ComeToOne w v
come_to_one outcome w v one other = record {
  ends = λ e f. ap (λ (o : Outcome). o.1) (sym (ended_is outcome w one e) ∙ ended_is outcome v other f);
  no_stop = λ place e s. none_some None place refl (ap (λ (o : Outcome). o.0) (sym (ended_is outcome w one e) ∙ stopped_is outcome v place other s));
  stops = λ place place' s t.
      let same : (Some place, w.prints) ≡ (Some place', v.prints) = sym (stopped_is outcome w place one s) ∙ stopped_is outcome v place' other t in
      (some_is (Some place) place place' refl (sym (ap (λ (o : Outcome). o.0) (sym same))), ap (λ (o : Outcome). o.1) same);
}

-- all runs of a program of the first form come to the same, since its `main` goes by kinds
pub one_outcome : AtMostOneOutcome
one_outcome bytes program w v reads first one other =
    let cells : IsOfCells program = cells_read bytes program reads first in
    come_to_one (comes_to (commands_in cells.body) (λ name. 0) []) w v (run_comes program w cells one) (run_comes program v cells other)
