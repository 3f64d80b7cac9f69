-- A change of one cell of the code is one of the plain map, and so the operation that makes it acts.
use Rattle.std.proofs.Common.{◌≡◌, ◌≢◌, ℕ, zero, suc, ◌<◌, List, [], ◌∷◌, ◌++◌, length, map, Option, Some, None, refl, sym, ap, ◌∙◌, subst, slice_get, slice_set, option_map}
use Rattle.std.proofs.lemmas.List.{append-nil, length-map, map-set}
use Rattle.std.proofs.lemmas.Simd.{map-map}
use Rattle.std.proofs.lemmas.Option.{slice_get-map}
use Rattle.mz_tree.specs.Code.{New_op, Read_op, Write_op, Retag_op, Give_op, Take_op}
use Rattle.mz_named.specs.Configurations.{Value, Block_value, Cell, Block_cell}
use Rattle.mz_named.specs.Bodies.{Puts}
use Rattle.mz_named.specs.Operations.{TwoBlocks, TakeFails, ReadsField}
use Rattle.mz_named.specs.View.{plain_value, plain_cell, value_in, env_of, cells_of}
use Rattle.mz_named.specs.Finding.{HasBlock, IsFound}
use Rattle.mz_named.specs.Doing.{ActsOn, IsStuck}
use Rattle.mz_named.specs.declared.config.Value.{Value as CodeValue}
use Rattle.mz_named.specs.declared.config.Value.TheVariants as value
use Rattle.mz_named.specs.declared.config.Cell.{Cell as CodeCell}
use Rattle.mz_named.specs.declared.config.Cell.TheVariants as cell

pub set_here : {X : Type 0} (xs : List X) (b : ℕ) (x y : X) → slice_get xs b ≡ Some y → slice_get (slice_set xs b x) b ≡ Some x
set_here [] b x y h = cc
set_here (z ∷ xs) zero x y h = refl
set_here (z ∷ xs) (suc b) x y h = set_here xs b x y h

pub set_there : {X : Type 0} (xs : List X) (b : ℕ) (x : X) (m : ℕ) → m ≢ b → slice_get (slice_set xs b x) m ≡ slice_get xs m
set_there [] b x m differ = refl
set_there (z ∷ xs) zero x zero differ = absurd (differ refl)
set_there (z ∷ xs) zero x (suc m) differ = refl
set_there (z ∷ xs) (suc b) x zero differ = refl
set_there (z ∷ xs) (suc b) x (suc m) differ = set_there xs b x m (λ same. differ (ap suc same))

pub end_here : {X : Type 0} (xs : List X) (x : X) → slice_get (xs ++ x ∷ []) (length xs) ≡ Some x
end_here [] x = refl
end_here (z ∷ xs) x = end_here xs x

pub end_there : {X : Type 0} (xs : List X) (x : X) (m : ℕ) → m ≢ length xs → slice_get (xs ++ x ∷ []) m ≡ slice_get xs m
end_there [] x zero differ = absurd (differ refl)
end_there [] x (suc m) differ = refl
end_there (z ∷ xs) x zero differ = refl
end_there (z ∷ xs) x (suc m) differ = end_there xs x m (λ same. differ (ap suc same))

-- a list, seen through a function, where one place changed, or one more came
pub puts_set : {X Y : Type 0} (f : X → Y) (xs ys : List X) (b : ℕ) (x y : X) → slice_get xs b ≡ Some y → ys ≡ slice_set xs b x → Puts (λ m. option_map f (slice_get xs m)) b (f x) (λ m. option_map f (slice_get ys m))
puts_set f xs ys b x y here new = record {
  put = ap (λ l. option_map f (slice_get l b)) new ∙ ap (option_map f) (set_here xs b x y here);
  others = λ m differ. ap (λ l. option_map f (slice_get l m)) new ∙ ap (option_map f) (set_there xs b x m differ);
}

pub puts_end : {X Y : Type 0} (f : X → Y) (xs ys : List X) (k : ℕ) (x : X) → ys ≡ xs ++ x ∷ [] → k ≡ length xs → Puts (λ m. option_map f (slice_get xs m)) k (f x) (λ m. option_map f (slice_get ys m))
puts_end f xs ys k x new end = record {
  put = ap (λ l. option_map f (slice_get l k)) new ∙ ap (λ i. option_map f (slice_get (xs ++ x ∷ []) i)) end ∙ ap (option_map f) (end_here xs x);
  others = λ m differ. ap (λ l. option_map f (slice_get l m)) new ∙ ap (option_map f) (end_there xs x m (λ same. differ (same ∙ sym end)));
}

past_end : {X : Type 0} (xs : List X) → slice_get xs (length xs) ≡ None
past_end [] = refl
past_end (x ∷ xs) = past_end xs

-- what is found is a block
pub has_block : {cells : List CodeCell} {values : List CodeValue} {name b con : ℕ} {adopter : Option ℕ} {fields : List CodeValue} → IsFound cells values name b con adopter fields →
    HasBlock (cells_of cells) (env_of values name) b con adopter (map plain_value fields)
has_block found = record { is = ap plain_value found.is; made = ap (option_map plain_cell) found.stands }

-- the fields of a new block
pub make_acts : (cells cells' : List CodeCell) (prints : List ℕ) (values : List CodeValue) (con : ℕ) (names : List ℕ) (name : ℕ) (fields : List CodeValue) →
    name ≡ length cells → fields ≡ map (value_in values) names → cells' ≡ cells ++ cell.Block con None fields ∷ [] → ActsOn cells prints values (New_op con names) (value.Block name) cells' prints
make_acts cells cells' prints values con names name fields end are new = record {
  out = [];
  acts = (
    record {
      name = name;
      free = ap (λ i. option_map plain_cell (slice_get cells i)) end ∙ ap (option_map plain_cell) (past_end cells);
      puts = subst (λ (vs : List Value). Puts (cells_of cells) name (Block_cell con None vs) (cells_of cells')) (ap (map plain_value) are ∙ map-map plain_value (value_in values) names) (puts_end plain_cell cells cells' name (cell.Block con None fields) new end);
      is = refl;
    },
    refl,
  );
  printed = sym (append-nil prints);
}

module _ (cells cells' : List CodeCell) (prints : List ℕ) (values : List CodeValue) (name b con : ℕ) (adopter : Option ℕ) (fields : List CodeValue) (found : IsFound cells values name b con adopter fields) where
  pub write_acts : (field from : ℕ) → field < length fields → cells' ≡ slice_set cells b (cell.Block con adopter (slice_set fields field (value_in values from))) → ActsOn cells prints values (Write_op name con field from) (value.Int 0) cells' prints
  write_acts field from within new = record {
    out = [];
    acts = (
      record {
        name = b;
        is = ap plain_value found.is;
        fields = map plain_value fields;
        made = record { adopter = adopter; made = ap (option_map plain_cell) found.stands };
        within = subst (λ n. field < n) (sym (length-map fields plain_value)) within;
        puts = subst (λ (vs : List Value). Puts (cells_of cells) b (Block_cell con adopter vs) (cells_of cells')) (map-set plain_value fields field (value_in values from)) (puts_set plain_cell cells cells' b (cell.Block con adopter (slice_set fields field (value_in values from))) (cell.Block con adopter fields) found.stands new);
      },
      refl,
      refl,
    );
    printed = sym (append-nil prints);
  }

  pub retag_acts : (new : ℕ) → cells' ≡ slice_set cells b (cell.Block new adopter fields) → ActsOn cells prints values (Retag_op name con new) (value.Int 0) cells' prints
  retag_acts new changed = record {
    out = [];
    acts = (
      record {
        name = b;
        is = ap plain_value found.is;
        fields = map plain_value fields;
        made = record { adopter = adopter; made = ap (option_map plain_cell) found.stands };
        puts = puts_set plain_cell cells cells' b (cell.Block new adopter fields) (cell.Block con adopter fields) found.stands changed;
      },
      refl,
      refl,
    );
    printed = sym (append-nil prints);
  }

  -- with the block of another name
  module _ (by pool other : ℕ) (held : Option ℕ) (more : List CodeValue) (adopts : IsFound cells values by pool other held more) where
    pub both : TwoBlocks (cells_of cells) (env_of values name) (env_of values by)
    both = record {
      block = b;
      adopter = pool;
      is_block = ap plain_value found.is;
      is_adopter = ap plain_value adopts.is;
      con = con;
      other = other;
      held_by = adopter;
      fields = map plain_value fields;
      more = map plain_value more;
      made = ap (option_map plain_cell) found.stands;
      pool = record { adopter = held; made = ap (option_map plain_cell) adopts.stands };
    }

    pub give_acts : adopter ≡ None → cells' ≡ slice_set cells b (cell.Block con (Some pool) fields) → ActsOn cells prints values (Give_op name by) (value.Int 0) cells' prints
    unfolding both
    give_acts free changed = record {
      out = [];
      acts = (record { both = both; free = free; puts = puts_set plain_cell cells cells' b (cell.Block con (Some pool) fields) (cell.Block con adopter fields) found.stands changed }, refl, refl);
      printed = sym (append-nil prints);
    }

    pub take_acts : adopter ≡ Some pool → cells' ≡ slice_set cells b (cell.Block con None fields) → ActsOn cells prints values (Take_op name by) (value.Int 0) cells' prints
    unfolding both
    take_acts its changed = record {
      out = [];
      acts = (record { both = both; its = its; puts = puts_set plain_cell cells cells' b (cell.Block con None fields) (cell.Block con adopter fields) found.stands changed }, refl, refl);
      printed = sym (append-nil prints);
    }

    pub take_fails : adopter ≢ Some pool → TakeFails (cells_of cells) (env_of values name) (env_of values by)
    unfolding both
    take_fails not_its = record { both = both; not_its = not_its }

-- a read of a field, and one of a field that the block hasn't
pub read_acts : (cells : List CodeCell) (prints : List ℕ) (values : List CodeValue) (name b con : ℕ) (adopter : Option ℕ) (fields : List CodeValue) → IsFound cells values name b con adopter fields →
    (field : ℕ) (v : CodeValue) → slice_get fields field ≡ Some v → ActsOn cells prints values (Read_op name con field) v cells prints
read_acts cells prints values name b con adopter fields found field v here = record {
  out = [];
  acts = (
    record {
      name = b;
      is = ap plain_value found.is;
      fields = map plain_value fields;
      made = record { adopter = adopter; made = ap (option_map plain_cell) found.stands };
      at_field = slice_get-map plain_value fields field ∙ ap (option_map plain_value) here;
    },
    λ n. refl,
    refl,
  );
  printed = sym (append-nil prints);
}

-- two blocks that are one have the same fields
same_block : {v : Value} {b c : ℕ} → v ≡ Block_value b → v ≡ Block_value c → b ≡ c
same_block e f = cc

same_fields : {o : Option Cell} {con con2 : ℕ} {adopter adopter2 : Option ℕ} {fields fields2 : List Value} → o ≡ Some (Block_cell con adopter fields) → o ≡ Some (Block_cell con2 adopter2 fields2) → fields ≡ fields2
same_fields e f = cc

pub read_stuck : (cells : List CodeCell) (values : List CodeValue) (name b con : ℕ) (adopter : Option ℕ) (fields : List CodeValue) → IsFound cells values name b con adopter fields →
    (field : ℕ) → slice_get fields field ≡ None → IsStuck (cells_of cells) (env_of values) (Read_op name con field)
read_stuck cells values name b con adopter fields found field none = record {
  no_act = λ v at' out acts. no_field v acts.0;
  no_stop = λ s. s;
  no_wait = λ s. s;
}
  where
    nothing : {o : Option Value} {v : Value} → o ≡ None → o ≡ Some v → ⊥
    nothing e f = cc

    no_field : (v : Value) → ReadsField (cells_of cells) (env_of values name) con field v → ⊥
    no_field v r =
        let same : r.name ≡ b = same_block r.is (ap plain_value found.is) in
        let here : slice_get (map plain_value fields) field ≡ Some v = subst (λ fs. slice_get fs field ≡ Some v) (same_fields (subst (λ n. cells_of cells n ≡ Some (Block_cell con r.made.adopter r.fields)) same r.made.made) (ap (option_map plain_cell) found.stands)) r.at_field in
        nothing (slice_get-map plain_value fields field ∙ ap (option_map plain_value) none) here
