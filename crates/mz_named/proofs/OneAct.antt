-- What an operation does is determined, but for the name of what is new.
use Rattle.std.proofs.Common.{◌≡◌, inl, inr, ℕ, Bool, true, false, List, [], ◌∷◌, map, Option, Some, None, refl, sym, ap, ◌∙◌, subst, slice_get, slice_set}
use Rattle.std.proofs.lemmas.Bool.{cases_eq}
use Rattle.mz_tree.specs.Arithmetic.{computed}
use Rattle.mz_tree.specs.Code.{Op, Body, Int_op, Unit_op, Fun_op, Copy_op, Arith_op, New_op, Read_op, Write_op, Retag_op, If_op, Match_op, Call_op, Give_op, Take_op, New_lock_op, Acquire_op, Release_op, Spawn_op, Print_op, case_list}
use Rattle.mz_named.specs.Machine.{Value, Int_value, Block_value, Cell, Block_cell, Lock_cell, Cells, Environment, Puts, Keeps, body_for, Fresh, ReadsField, WritesField, ChangesTag, TwoBlocks, TurnsLock, Acts, chosen, Chooses}
use Rattle.mz_named.specs.Laws.{SameNew}

-- ---- what is put

pub same_puts : {A : Type 0} {f g h : ℕ → Option A} {k m : ℕ} {x y : A} → Puts f k x g → Puts f m y h → k ≡ m → x ≡ y → (n : ℕ) → h n ≡ g n
same_puts {f = f} {g = g} {h = h} {k = k} {m = m} {x = x} {y = y} one two places same n = elim (cases_eq n k) [
  | inl e ↦ ap h (e ∙ places) ∙ two.put ∙ ap Some (sym same) ∙ sym one.put ∙ ap g (sym e)
  | inr differ ↦ two.others n (λ e. differ (e ∙ sym places)) ∙ sym (one.others n differ)
]

ints : {m n : ℕ} {v : Value} → v ≡ Int_value m → v ≡ Int_value n → m ≡ n
ints e f = cc

blocks : {m n : ℕ} {v : Value} → v ≡ Block_value m → v ≡ Block_value n → m ≡ n
blocks e f = cc

pub somes : {A : Type 0} {o : Option A} {x y : A} → o ≡ Some x → o ≡ Some y → x ≡ y
somes e f = cc

adopters : {c d : ℕ} {one two : Option ℕ} {vs ws : List Value} → Block_cell c one vs ≡ Block_cell d two ws → one ≡ two
adopters e = cc

cons : {c d : ℕ} {one two : Option ℕ} {vs ws : List Value} → Block_cell c one vs ≡ Block_cell d two ws → c ≡ d
cons e = cc

fields : {c d : ℕ} {one two : Option ℕ} {vs ws : List Value} → Block_cell c one vs ≡ Block_cell d two ws → vs ≡ ws
fields e = cc

none_some : {A : Type 0} {o : Option A} {x : A} → o ≡ None → o ≡ Some x → ⊥
none_some e f = cc

-- two finds of one name are one cell
same_cell : (at : Cells) (m n : ℕ) (x y : Cell) → m ≡ n → at m ≡ Some x → at n ≡ Some y → x ≡ y
same_cell at m n x y e one two = somes (subst (λ i. at i ≡ Some x) e one) two

-- ---- what is done

-- the same value, cells and prints
pub record Alike (v u : Value) (at1 at2 : Cells) (out1 out2 : List ℕ) : Type 0 where
  pub value : v ≡ u
  pub cells : Keeps at1 at2
  pub out : out1 ≡ out2

module _ (at at1 at2 : Cells) (e : Environment) (v u : Value) (out1 out2 : List ℕ) where
  still : {x : Value} → v ≡ x → u ≡ x → Keeps at at1 → Keeps at at2 → {l : List ℕ} → out1 ≡ l → out2 ≡ l → Alike v u at1 at2 out1 out2
  still vx ux one two l1 l2 = record { value = vx ∙ sym ux; cells = λ n. two n ∙ sym (one n); out = l1 ∙ sym l2 }

  changed : {m n : ℕ} {x y : Cell} → Puts at m x at1 → Puts at n y at2 → m ≡ n → x ≡ y → v ≡ u → out1 ≡ out2 → Alike v u at1 at2 out1 out2
  changed one two names same values outs = record { value = values; cells = same_puts one two names same; out = outs }

  -- the name of what is new is the same where the same names are new
  fresh : (cell : Cell) → SameNew at at1 at2 → (one : Fresh at cell v at1) (two : Fresh at cell u at2) → one.name ≡ two.name
  fresh cell same one two = elim (cases_eq one.name two.name) [
    | inl e ↦ e
    | inr differ ↦ absurd (none_some ((same one.name one.free).1 (two.puts.others one.name differ ∙ one.free)) one.puts.put)
  ]

  made : (cell : Cell) → SameNew at at1 at2 → Fresh at cell v at1 → Fresh at cell u at2 → out1 ≡ out2 → Alike v u at1 at2 out1 out2
  made cell same one two outs =
      let names : one.name ≡ two.name = fresh cell same one two in
      changed one.puts two.puts names refl (one.is ∙ ap Block_value names ∙ sym two.is) outs

  turned : (l : Value) (before after : Bool) → TurnsLock at l before after at1 → TurnsLock at l before after at2 → v ≡ u → out1 ≡ out2 → Alike v u at1 at2 out1 out2
  turned l before after one two values outs = changed one.puts two.puts (blocks one.is two.is) refl values outs

  read : (y : Value) (con field : ℕ) → ReadsField at y con field v → ReadsField at y con field u → v ≡ u
  read y con field one two =
      let cell = same_cell at one.name two.name (Block_cell con one.made.adopter one.fields) (Block_cell con two.made.adopter two.fields) (blocks one.is two.is) one.made.made two.made.made in
      somes (subst (λ l. slice_get l field ≡ Some v) (fields cell) one.at_field) two.at_field

  written : (y : Value) (con field : ℕ) (z : Value) → WritesField at y con field z at1 → WritesField at y con field z at2 → v ≡ u → out1 ≡ out2 → Alike v u at1 at2 out1 out2
  written y con field z one two values outs =
      let names : one.name ≡ two.name = blocks one.is two.is in
      let cell = same_cell at one.name two.name (Block_cell con one.made.adopter one.fields) (Block_cell con two.made.adopter two.fields) names one.made.made two.made.made in
      changed one.puts two.puts names (ap (λ a. Block_cell con a (slice_set one.fields field z)) (adopters cell) ∙ ap (λ l. Block_cell con two.made.adopter (slice_set l field z)) (fields cell)) values outs

  retagged : (y : Value) (old new : ℕ) → ChangesTag at y old new at1 → ChangesTag at y old new at2 → v ≡ u → out1 ≡ out2 → Alike v u at1 at2 out1 out2
  retagged y old new one two values outs =
      let names : one.name ≡ two.name = blocks one.is two.is in
      let cell = same_cell at one.name two.name (Block_cell old one.made.adopter one.fields) (Block_cell old two.made.adopter two.fields) names one.made.made two.made.made in
      changed one.puts two.puts names (ap (λ a. Block_cell new a one.fields) (adopters cell) ∙ ap (λ l. Block_cell new two.made.adopter l) (fields cell)) values outs

  both_cell : (x y : Value) (one two : TwoBlocks at x y) → Block_cell one.con one.held_by one.fields ≡ Block_cell two.con two.held_by two.fields
  both_cell x y one two = same_cell at one.block two.block (Block_cell one.con one.held_by one.fields) (Block_cell two.con two.held_by two.fields) (blocks one.is_block two.is_block) one.made two.made

  with_adopter : (x y : Value) (one two : TwoBlocks at x y) (a b : Option ℕ) → a ≡ b → Block_cell one.con a one.fields ≡ Block_cell two.con b two.fields
  with_adopter x y one two a b same =
      let cell = both_cell x y one two in
      ap (λ c. Block_cell c a one.fields) (cons cell) ∙ ap (λ o. Block_cell two.con o one.fields) same ∙ ap (λ l. Block_cell two.con b l) (fields cell)

  pub acts_once : (op : Op) → SameNew at at1 at2 → Acts at e op v at1 out1 → Acts at e op u at2 out2 → Alike v u at1 at2 out1 out2
  acts_once (Int_op n) same a b = still a.0 b.0 a.1 b.1 a.2 b.2
  acts_once Unit_op same a b = still a.0 b.0 a.1 b.1 a.2 b.2
  acts_once (Fun_op f) same a b = still a.0 b.0 a.1 b.1 a.2 b.2
  acts_once (Copy_op x) same a b = still a.0 b.0 a.1 b.1 a.2 b.2
  acts_once (Arith_op operator x y) same a b =
      let left : a.0.1.left ≡ b.0.1.left = ints a.0.1.is_left b.0.1.is_left in
      let right : a.0.1.right ≡ b.0.1.right = ints a.0.1.is_right b.0.1.is_right in
      let result : a.0.0 ≡ b.0.0 = somes (subst (λ l. computed operator l b.0.1.right ≡ Some a.0.0) left (subst (λ r. computed operator a.0.1.left r ≡ Some a.0.0) right a.0.1.gives)) b.0.1.gives in
      still a.0.2 (b.0.2 ∙ ap Int_value (sym result)) a.1 b.1 a.2 b.2
  acts_once (New_op con ys) same a b = made (Block_cell con None (map e ys)) same a.0 b.0 (a.1 ∙ sym b.1)
  acts_once (Read_op y con field) same a b = record { value = read (e y) con field a.0 b.0; cells = λ n. b.1 n ∙ sym (a.1 n); out = a.2 ∙ sym b.2 }
  acts_once (Write_op y con field z) same a b = written (e y) con field (e z) a.0 b.0 (a.1 ∙ sym b.1) (a.2 ∙ sym b.2)
  acts_once (Retag_op y old new) same a b = retagged (e y) old new a.0 b.0 (a.1 ∙ sym b.1) (a.2 ∙ sym b.2)
  acts_once (Give_op x y) same a b =
      changed a.0.puts b.0.puts (blocks a.0.both.is_block b.0.both.is_block)
      (with_adopter (e x) (e y) a.0.both b.0.both (Some a.0.both.adopter) (Some b.0.both.adopter) (ap Some (blocks a.0.both.is_adopter b.0.both.is_adopter))) (a.1 ∙ sym b.1) (a.2 ∙ sym b.2)
  acts_once (Take_op x y) same a b =
      changed a.0.puts b.0.puts (blocks a.0.both.is_block b.0.both.is_block) (with_adopter (e x) (e y) a.0.both b.0.both None None refl) (a.1 ∙ sym b.1) (a.2 ∙ sym b.2)
  acts_once (New_lock_op p) same a b = made (Lock_cell false) same a.0 b.0 (a.1 ∙ sym b.1)
  acts_once (Acquire_op l) same a b = turned (e l) false true a.0 b.0 (a.1 ∙ sym b.1) (a.2 ∙ sym b.2)
  acts_once (Release_op l) same a b = turned (e l) true false a.0 b.0 (a.1 ∙ sym b.1) (a.2 ∙ sym b.2)
  acts_once (Print_op x) same a b =
      let number : a.0.0 ≡ b.0.0 = ints a.0.1 b.0.1 in
      record { value = a.1 ∙ sym b.1; cells = λ n. b.2 n ∙ sym (a.2 n); out = a.0.2 ∙ ap (λ n. n ∷ []) number ∙ sym b.0.2 }
  acts_once (If_op y one two giving) same a b = absurd a
  acts_once (Match_op y d cases giving) same a b = absurd a
  acts_once (Call_op callee args) same a b = absurd a
  acts_once (Spawn_op callee arg) same a b = absurd a

-- one body is chosen
pub chooses_once : (at : Cells) (e : Environment) (op : Op) (one two : Body) → Chooses at e op one → Chooses at e op two → one ≡ two
chooses_once at e (If_op y on_true on_false giving) one two a b = a.2 ∙ ap (λ n. chosen n on_true on_false) (ints a.1 b.1) ∙ sym b.2
chooses_once at e (Match_op y d cases giving) one two a b =
    let cell = same_cell at a.name b.name (Block_cell a.con a.made.adopter a.fields) (Block_cell b.con b.made.adopter b.fields) (blocks a.is b.is) a.made.made b.made.made in
    somes (subst (λ c. body_for c (case_list cases) ≡ Some one) (cons cell) a.chosen) b.chosen
chooses_once at e _ one two a b = absurd a

-- what acts doesn't choose
pub acts_chooses : (at at' : Cells) (e : Environment) (op : Op) (v : Value) (out : List ℕ) (body : Body) → Acts at e op v at' out → Chooses at e op body → ⊥
acts_chooses at at' e (If_op y on_true on_false giving) v out body acts chooses = absurd acts
acts_chooses at at' e (Match_op y d cases giving) v out body acts chooses = absurd acts
acts_chooses at at' e _ v out body acts chooses = absurd chooses
