-- A block that its thread owns is changed: a field, or its constructor. Nobody else's permission says anything of it. A block that is
-- frozen is owned by nobody any more.
use Rattle.std.specs.Prelude.{nat_eq}
use Rattle.std.proofs.Common.{◌≡◌, ◌≢◌, ◌⊎◌, inl, inr, ℕ, zero, suc, ◌+◌, ◌<◌, ◌≤◌, true, false, List, [], ◌∷◌, ◌++◌, map, Option, Some, None, slice_get, slice_set, refl, sym, ap, ◌∙◌, subst, arith}
use Rattle.std.specs.List.{list_any}
use Rattle.std.proofs.lemmas.Bool.{cases_eq}
use Rattle.mz_tree.specs.Plain.{Atom, Unknown_type, Block_type, Has_atom, map_atom}
use Rattle.mz_tree.specs.Programs.{Program}
use Rattle.mz_tree.specs.Code.{Command, The_command, Write_op, Retag_op, to_of}
use Rattle.mz_decl.specs.Declarations.{Decls, decls_of}
use Rattle.mz_perm.specs.Lists.{TakesOne, Any_copy}
use Rattle.mz_perm.specs.Occurrence.{in_atom, occurs}
use Rattle.mz_modes.specs.Affine.{IsMutableCon}
use Rattle.mz_flow.specs.Commands.{Replaces, Writes, Retags}
use Rattle.mz_deriv.specs.Rules.{Rule}
use Rattle.mz_named.specs.Configurations.{Value, Int_value, Block_value, Cell, Block_cell, Lock_cell, Environment, Frame, Suspended, Running, Config}
use Rattle.mz_named.specs.Bodies.{Binds, Puts}
use Rattle.mz_named.specs.Operations.{IsBlock, WritesField, ChangesTag}
use Rattle.mz_named.specs.Steps.{next}
use Rattle.mz_resource.specs.Meaning.{Owned, OwnsOnly, Sight, Means, Means_unknown, Means_fixed, Means_block, MeansAll}
use Rattle.mz_resource.specs.Frames.{ThreadHolding, StackIsHeld}
use Rattle.mz_resource.specs.Held.{Holding, sight, Held}
use Rattle.mz_resource.specs.Owners.{Owner, Of_thread, Of_lock}
use Rattle.mz_resource.proofs.Facts.{zero_by}
use Rattle.mz_resource.proofs.Meaning.Names.{eq_is, or_left, or_right}
use Rattle.mz_perm.proofs.Orders.{in_of}
use Rattle.mz_resource.proofs.Meaning.Owning.{take_out, all_end}
use Rattle.mz_resource.proofs.Meaning.Staying.{Stays, all_stay, one_at_self}
use Rattle.mz_resource.proofs.Meaning.Spending.{or_either, in_occurs, take_occurs, where_occurs, not_true, true_false}
use Rattle.mz_resource.proofs.Meaning.Inverse.{owned_inv, cell_con, cell_fields, block_is}
use Rattle.mz_resource.proofs.Threads.Quiet.{at_only, adopted_not, lock_not, Onward}
use Rattle.mz_resource.proofs.Threads.Standing.{bound_share}
use Rattle.mz_resource.proofs.Owners.Handing.{two_fair, with_two}
use Rattle.mz_resource.proofs.Owners.Changing.{Change, change_held, who_has, threads_else, none_else}
use Rattle.mz_resource.proofs.Owners.Heaps.{block_lock, put_stays}
use Rattle.mz_resource.proofs.Commands.Locking.{append_occurs, lock_thread, lock_adopted, lock_is}
use Rattle.mz_resource.proofs.Commands.Ruled.{AtRule, then_part, then_stack}

map_set : (f : ℕ → Value) (ys : List ℕ) (i z : ℕ) → map f (slice_set ys i z) ≡ slice_set (map f ys) i (f z)
map_set f [] i z = refl
map_set f (y ∷ ys) zero z = refl
map_set f (y ∷ ys) (suc i) z = ap (λ l. f y ∷ l) (map_set f ys i z)

in_set : (x : ℕ) (ys : List ℕ) (i z : ℕ) → list_any (λ n. nat_eq n x) (slice_set ys i z) ≡ true → (z ≡ x) ⊎ (list_any (λ n. nat_eq n x) ys ≡ true)
in_set x [] i z o = inr o
in_set x (y ∷ ys) zero z o = elim (or_either (nat_eq z x) (list_any (λ n. nat_eq n x) ys) o) [ inl e ↦ inl (eq_is z x e) | inr q ↦ inr (or_right (nat_eq y x) (list_any (λ n. nat_eq n x) ys) q) ]
in_set x (y ∷ ys) (suc i) z o = elim (or_either (nat_eq y x) (list_any (λ n. nat_eq n x) (slice_set ys i z)) o) [
  | inl e ↦ inr (or_left (nat_eq y x) (list_any (λ n. nat_eq n x) ys) e)
  | inr q ↦ elim (in_set x ys i z q) [ inl e ↦ inl e | inr r ↦ inr (or_right (nat_eq y x) (list_any (λ n. nat_eq n x) ys) r) ]
]

write_rule : (D : Decls) (R : List (Atom ℕ)) (c y con i z : ℕ) (uses : Option (Atom ℕ)) (T : List (Atom ℕ)) → Rule D R c (Write_op y con i z) uses T → (a : Atom ℕ) × Writes Any_copy D R c y con i z a T
write_rule D R c y con i z None T r = absurd r
write_rule D R c y con i z (Some a) T r = (a, r)

retag_rule : (D : Decls) (R : List (Atom ℕ)) (c y old new : ℕ) (uses : Option (Atom ℕ)) (T : List (Atom ℕ)) → Rule D R c (Retag_op y old new) uses T → (a : Atom ℕ) × Retags Any_copy D R c y old new a T
retag_rule D R c y old new None T r = absurd r
retag_rule D R c y old new (Some a) T r = (a, r)

moved : {x z : Option Cell} {c d a y : ℕ} {o : Option ℕ} {vs us xs : List Value} → x ≡ Some (Block_cell c o us) → x ≡ Some (Block_cell d (Some y) xs) → z ≡ Some (Block_cell a o vs) → z ≡ Some (Block_cell a (Some y) vs)
moved p q r = cc

-- block b of a mutable constructor becomes one of another constructor or with other fields, with the adopter that it has
module _ (p : Program) (w w' : Config) (h : Holding) (H : Held p w h) (k : ℕ) (f : Frame) (below : List Suspended) (c : Command) (rest : List Command) (e' : Environment)
    (point : AtRule p w h H k f below c rest) (binds : Binds f.env (to_of c) (Int_value 0) e') (puts : Puts (slice_get w.threads) k (Running (next f e' rest) below) (slice_get w'.threads))
    (b old new : ℕ) (o : Option ℕ) (vs us : List Value) (was : w.heap.at b ≡ Some (Block_cell old o vs)) (cells : Puts w.heap.at b (Block_cell new o us) w'.heap.at) (mutable : IsMutableCon (decls_of p) old) (owned : 0 < point.st.top_owns b) where
  abbrev S : Sight
  S = sight w h

  abbrev q' : ThreadHolding
  q' = then_part p w w' h H k f below c rest point (Int_value 0) e' binds

  abbrev h' : Holding
  h' = record { clause = h.clause; hides = h.hides; thread = at_only k q' h.thread }

  abbrev pub remade : Sight
  remade = record { at = w'.heap.at; clause = h.clause; hides = h.hides }

  pub remade_stays : (g : Owned) → g b ≡ 0 → Stays (decls_of p) S remade g
  remade_stays g z = put_stays (decls_of p) S remade b (Block_cell new o us) cells (λ m n. refl) (λ m q e. e) g (record {
    fixed = λ con xs i m. absurd (i (subst (λ n. IsMutableCon (decls_of p) n) (cell_con was m.made) mutable));
    made = λ con xs m. (new, us, record { adopter = o; made = cells.put });
    owned = λ con xs l m. absurd (omega (arith, l, z));
    locked = λ l e. absurd (block_lock was e);
  })

  own_b : H.own (Of_thread k) b ≡ 1
  own_b = let a = point.st.join b in let c = H.heap.fair.once (Of_thread k) b in let d = owned in omega arith

  below_b : point.st.below_owns b ≡ 0
  below_b = let a = point.st.join b in let c = own_b in let d = owned in omega arith

  others_b : (q : Owner) → (q ≡ Of_thread k → ⊥) → H.own q b ≡ 0
  others_b q n = zero_by (H.own q b) (λ z. n (H.heap.fair.apart q (Of_thread k) b z (let a = own_b in omega arith)))

  -- each block was one, of the same constructor but for b
  back : (x con : ℕ) (y : ℕ) (xs : List Value) → w'.heap.at x ≡ Some (Block_cell con (Some y) xs) → (d : ℕ) × (zs : List Value) × (w.heap.at x ≡ Some (Block_cell d (Some y) zs))
  back x con y xs e = elim (cases_eq x b) [
    | inl z ↦ (old, vs, subst (λ n. w.heap.at n ≡ Some (Block_cell old (Some y) vs)) (sym z) (moved cells.put (subst (λ n. w'.heap.at n ≡ Some (Block_cell con (Some y) xs)) z e) was))
    | inr n ↦ (con, xs, sym (cells.others x n) ∙ e)
  ]

  pub remade_held : (g : Owned) → ((t : ℕ) → g t ≤ point.st.top_owns t) → MeansAll (decls_of p) remade (map (map_atom (at_only (to_of c) (Int_value 0) (h.thread k).top.values)) point.d.state) g → Onward p w' h k q'
  remade_held g le state = (h', change_held p w w' h H h' (Of_thread k) (Of_lock b) mine none change, λ m. refl)
    where
      none : Owned
      none t = 0

      mine : Owned
      mine t = g t + point.st.below_owns t

      stack : StackIsHeld (decls_of p) remade (next f e' rest) below q' mine
      stack = then_stack p w w' h H k f below c rest point (Int_value 0) e' binds remade g state (remade_stays point.st.below_owns below_b)

      had : (q : Owner) (t : ℕ) → 0 < with_two (Of_thread k) mine (Of_lock b) none H.own q t → 0 < H.own q t
      had = who_has H.own (Of_thread k) (Of_lock b) mine none (λ q t. 0 < H.own q t) (λ t z. let a = point.st.join t in let c = le t in omega arith) (λ t z. absurd (omega (arith, z))) (λ q t x y z. z) lock_thread

      there : (t : ℕ) (x : Cell) → w.heap.at t ≡ Some x → (y : Cell) × (w'.heap.at t ≡ Some y)
      there t x e = elim (cases_eq t b) [ inl z ↦ (Block_cell new o us, subst (λ n. w'.heap.at n ≡ Some (Block_cell new o us)) (sym z) cells.put) | inr n ↦ (x, cells.others t n ∙ e) ]

      change : Change p w w' h H h' (Of_thread k) (Of_lock b) mine none
      change = record {
        fair = two_fair H.own (Of_thread k) (Of_lock b) mine none H.heap.fair lock_thread (λ t. inl (let a = point.st.join t in let c = le t in omega arith));
        real = λ q t z. let r = H.heap.real q t (had q t z) in there t r.0 r.1;
        stays = λ q x y. remade_stays (H.own q) (others_b q x);
        adoptees = λ x y u a. (let r = back x a.con y a.fields a.adopted in inl (
          adopted_not,
          lock_adopted,
          elim (cases_eq y b) [
            | inl z ↦ record { con = r.0; fields = r.1; adopted = r.2; other = old; more = vs; pool = record { adopter = o; made = subst (λ n. w.heap.at n ≡ Some (Block_cell old o vs)) (sym z) was }; mutable = mutable; adopts = a.adopts }
            | inr n ↦ record { con = r.0; fields = r.1; adopted = r.2; other = a.other; more = a.more; pool = record { adopter = a.pool.adopter; made = sym (cells.others y n) ∙ a.pool.made }; mutable = a.mutable; adopts = a.adopts }
          ],
        ));
        locks = λ m q e i. (let n : m ≢ b = λ z. block_lock cells.put (subst (λ x. w'.heap.at x ≡ Some (Lock_cell false)) z e) in inl (lock_not, λ y. n (lock_is y), sym (cells.others m n) ∙ e, i));
        tokens = λ q m e. (let n : m ≢ b = λ z. block_lock cells.put (subst (λ x. w'.heap.at x ≡ Some (Lock_cell false)) z e) in
            zero_by (with_two (Of_thread k) mine (Of_lock b) none H.own q m) (λ z. let x = H.heap.tokens q m (sym (cells.others m n) ∙ e) in let y = had q m z in omega (arith, x, y)));
        free = λ q t con y xs z i e. let r = back t con y xs e in H.heap.free q t r.0 y r.1 (had q t z) i r.2;
        adopters = λ x y con xs e. (let r = back x con y xs e in
            let a = H.heap.adopters x y r.0 r.1 r.2 in
            elim (cases_eq y b) [
              | inl z ↦ record { con = new; fields = us; made = record { adopter = o; made = subst (λ n. w'.heap.at n ≡ Some (Block_cell new o us)) (sym z) cells.put }; adopts = λ m. a.adopts (subst (λ n. IsMutableCon (decls_of p) n) (cell_con was (subst (λ n. w.heap.at n ≡ Some (Block_cell a.con a.made.adopter a.fields)) z a.made.made)) mutable) }
              | inr n ↦ record { con = a.con; fields = a.fields; made = record { adopter = a.made.adopter; made = cells.others y n ∙ a.made.made }; adopts = a.adopts }
            ]);
        hidden = λ m q e. (let r = H.heap.hidden m q e in (r.0, cells.others m (λ z. block_lock was (subst (λ n. w.heap.at n ≡ Some (Lock_cell r.0)) z r.1)) ∙ r.1));
        clauses = H.heap.clauses;
        threads = threads_else p w w' h H k (Running (next f e' rest) below) q' remade (Of_lock b) mine none (λ j. lock_thread) puts stack;
        none = none_else p w w' h H k (Running (next f e' rest) below) q' remade (Of_lock b) mine none (λ j. lock_thread) puts stack;
      }

-- one permission goes, another comes
replaced_means : (D : Decls) (S' : Sight) (names : ℕ → Value) (to : ℕ) (a b : Atom ℕ) (R T : List (Atom ℕ)) (s : Replaces Any_copy a b R to T) (g one two : Owned) → occurs to s.rest ≡ false → in_atom to b ≡ false → MeansAll D S' (map (map_atom names) s.rest) two → Means D S' (map_atom names b) one → ((t : ℕ) → g t ≡ two t + one t) → MeansAll D S' (map (map_atom (at_only to (Int_value 0) names)) T) g
replaced_means D S' names to a b R T s g one two fr fb m n j =
    subst (λ q. MeansAll D S' (map (map_atom (at_only to (Int_value 0) names)) q) g) (sym s.new)
    (all_end D S' (map_atom (at_only to (Int_value 0) names)) (s.rest ++ b ∷ []) (Has_atom to Unknown_type) g g (λ t. 0)
    (subst (λ q. MeansAll D S' q g) (sym (bound_share names to (Int_value 0) (s.rest ++ b ∷ []) fresh)) (all_end D S' (map_atom names) s.rest b g two one m n j))
    (Means_unknown (λ t. refl)) (λ t. omega arith))
  where
    fresh : occurs to (s.rest ++ b ∷ []) ≡ false
    fresh = not_true (λ o. elim (append_occurs to s.rest (b ∷ []) o) [ inl q ↦ true_false q fr | inr q ↦ elim (where_occurs to b [] q) [ inl z ↦ true_false z fb | inr z ↦ true_false z refl ] ])

module _ (p : Program) (w w' : Config) (h : Holding) (H : Held p w h) (k : ℕ) (f : Frame) (below : List Suspended) (to : ℕ) (rest : List Command) (e' : Environment) where
  abbrev sees : Sight
  sees = sight w h

  abbrev names : ℕ → Value
  names = (h.thread k).top.values

  -- the block of the permission that is changed
  record Mine (y con : ℕ) (fields : List ℕ) (adopts : Option ℕ) (b : ℕ) (R rest' : List (Atom ℕ)) (top : Owned) : Type 0 where
    one : Owned
    two : Owned
    join : (t : ℕ) → top t ≡ one t + two t
    only : OwnsOnly b one
    made : IsBlock w.heap.at b con (map names fields)
    clause_is : h.clause b ≡ adopts
    others : MeansAll (decls_of p) sees (map (map_atom names) rest') two

  mine_of : (y con : ℕ) (fields : List ℕ) (adopts : Option ℕ) (b : ℕ) (a : Atom ℕ) (R rest' : List (Atom ℕ)) (top : Owned) → a ≡ Has_atom y (Block_type con fields adopts) → IsMutableCon (decls_of p) con → names y ≡ Block_value b → TakesOne a R rest' → MeansAll (decls_of p) sees (map (map_atom names) R) top → Mine y con fields adopts b R rest' top
  mine_of y con fields adopts b a R rest' top e mutable is t m =
      let r = take_out (decls_of p) sees (map_atom names) (Has_atom y (Block_type con fields adopts)) R rest' top (subst (λ x. TakesOne x R rest') e t) m in
      let o = owned_inv (decls_of p) sees mutable r.first_part in
      let q : o.block ≡ b = block_is o.is is in
      record {
        one = r.one;
        two = r.two;
        join = r.join;
        only = subst (λ n. OwnsOnly n r.one) q o.only;
        made = subst (λ n. IsBlock w.heap.at n con (map names fields)) q o.made;
        clause_is = subst (λ n. h.clause n ≡ adopts) q o.clause_is;
        others = r.second_part;
      }

  pub write_keeps : (y con i z : ℕ) (place : _) → (point : AtRule p w h H k f below (The_command to (Write_op y con i z) place) rest) → WritesField w.heap.at (f.env y) con i (f.env z) w'.heap.at → (binds : Binds f.env to (Int_value 0) e') → Puts (slice_get w.threads) k (Running (next f e' rest) below) (slice_get w'.threads) → Onward p w' h k (then_part p w w' h H k f below (The_command to (Write_op y con i z) place) rest point (Int_value 0) e' binds)
  write_keeps y con i z place point writes binds puts = remade_held p w w' h H k f below c rest e' point binds puts b con con writes.made.adopter writes.fields us writes.made.made writes.puts rule.1.mutable owned point.st.top_owns (λ t. omega arith) state
    where
      c : Command
      c = The_command to (Write_op y con i z) place

      b : ℕ
      b = writes.name

      us : List Value
      us = slice_set writes.fields i (f.env z)

      R : List (Atom ℕ)
      R = point.st.top.state

      rule : (a : Atom ℕ) × Writes Any_copy (decls_of p) R to y con i z a point.d.state
      rule = write_rule (decls_of p) R to y con i z point.d.uses point.d.state point.d.does.rule

      is : names y ≡ Block_value b
      is = point.st.top.env y point.core.0.0 ∙ writes.is

      m : Mine y con rule.1.fields rule.1.adopts b R rule.1.changed.rest point.st.top_owns
      m = mine_of y con rule.1.fields rule.1.adopts b rule.0 R rule.1.changed.rest point.st.top_owns rule.1.block rule.1.mutable is rule.1.changed.taken point.means

      owned : 0 < point.st.top_owns b
      owned = let a = m.join b in let d = m.only b in let e = one_at_self b in omega arith

      two_b : m.two b ≡ 0
      two_b = let a = m.join b in let d = m.only b in let e = one_at_self b in let g = point.st.join b in let j = H.heap.fair.once (Of_thread k) b in omega arith

      S' : Sight
      S' = remade p w w' h H k f below c rest e' point binds puts b con con writes.made.adopter writes.fields us writes.made.made writes.puts rule.1.mutable owned

      values : us ≡ map names (slice_set rule.1.fields i z)
      values = ap (λ l. slice_set l i (f.env z)) (cell_fields writes.made.made m.made.made) ∙ ap (λ v. slice_set (map names rule.1.fields) i v) (sym (point.st.top.env z point.core.1.0)) ∙ sym (map_set names rule.1.fields i z)

      atom : Means (decls_of p) S' (map_atom names (Has_atom y (Block_type con (slice_set rule.1.fields i z) rule.1.adopts))) m.one
      atom = Means_block b is (record { adopter = writes.made.adopter; made = writes.puts.put ∙ ap (λ l. Some (Block_cell con writes.made.adopter l)) values }) rule.1.mutable m.clause_is m.only

      in_r : (x : ℕ) → in_atom x (Has_atom y (Block_type con rule.1.fields rule.1.adopts)) ≡ true → occurs x R ≡ true
      in_r x o = in_occurs x rule.0 R (in_of rule.0 R rule.1.changed.rest rule.1.changed.taken) (subst (λ a. in_atom x a ≡ true) (sym rule.1.block) o)

      fresh_b : in_atom to (Has_atom y (Block_type con (slice_set rule.1.fields i z) rule.1.adopts)) ≡ false
      fresh_b = not_true (λ o. elim (or_either (nat_eq y to) (list_any (λ n. nat_eq n to) (slice_set rule.1.fields i z)) o) [
        | inl e ↦ point.core.0.1 (eq_is y to e)
        | inr q ↦ elim (in_set to rule.1.fields i z q) [ inl e ↦ point.core.1.1 e | inr r ↦ true_false (in_r to (or_right (nat_eq y to) (list_any (λ n. nat_eq n to) rule.1.fields) r)) point.d.does.new ]
      ])

      state : MeansAll (decls_of p) S' (map (map_atom (at_only to (Int_value 0) names)) point.d.state) point.st.top_owns
      state = replaced_means (decls_of p) S' names to rule.0 _ R point.d.state rule.1.changed point.st.top_owns m.one m.two (not_true (λ o. true_false (take_occurs to rule.0 R rule.1.changed.rest rule.1.changed.taken o) point.d.does.new)) fresh_b
          (all_stay (decls_of p) sees S' m.others (remade_stays p w w' h H k f below c rest e' point binds puts b con con writes.made.adopter writes.fields us writes.made.made writes.puts rule.1.mutable owned m.two two_b)) atom (λ t. omega (arith, m.join t))

  pub retag_keeps : (y old new : ℕ) (place : _) → (point : AtRule p w h H k f below (The_command to (Retag_op y old new) place) rest) → ChangesTag w.heap.at (f.env y) old new w'.heap.at → (binds : Binds f.env to (Int_value 0) e') → Puts (slice_get w.threads) k (Running (next f e' rest) below) (slice_get w'.threads) → Onward p w' h k (then_part p w w' h H k f below (The_command to (Retag_op y old new) place) rest point (Int_value 0) e' binds)
  retag_keeps y old new place point changes binds puts = elim rule.1.adopts_left [
    | inl q ↦ remade_held p w w' h H k f below c rest e' point binds puts b old new changes.made.adopter changes.fields changes.fields changes.made.made changes.puts rule.1.mutable owned point.st.top_owns (λ t. omega arith)
        (state point.st.top_owns m.one (Means_block b is made q.0 (m.clause_is ∙ sym q.1) m.only) (λ t. omega (arith, m.join t)))
    | inr q ↦ remade_held p w w' h H k f below c rest e' point binds puts b old new changes.made.adopter changes.fields changes.fields changes.made.made changes.puts rule.1.mutable owned m.two (λ t. omega (arith, m.join t))
        (state m.two (λ t. 0) (Means_fixed b is made q.0 q.1 (λ t. refl)) (λ t. omega arith))
  ]
    where
      c : Command
      c = The_command to (Retag_op y old new) place

      b : ℕ
      b = changes.name

      R : List (Atom ℕ)
      R = point.st.top.state

      rule : (a : Atom ℕ) × Retags Any_copy (decls_of p) R to y old new a point.d.state
      rule = retag_rule (decls_of p) R to y old new point.d.uses point.d.state point.d.does.rule

      is : names y ≡ Block_value b
      is = point.st.top.env y point.core.0 ∙ changes.is

      m : Mine y old rule.1.fields rule.1.adopts b R rule.1.changed.rest point.st.top_owns
      m = mine_of y old rule.1.fields rule.1.adopts b rule.0 R rule.1.changed.rest point.st.top_owns rule.1.block rule.1.mutable is rule.1.changed.taken point.means

      owned : 0 < point.st.top_owns b
      owned = let a = m.join b in let d = m.only b in let e = one_at_self b in omega arith

      two_b : m.two b ≡ 0
      two_b = let a = m.join b in let d = m.only b in let e = one_at_self b in let g = point.st.join b in let j = H.heap.fair.once (Of_thread k) b in omega arith

      S' : Sight
      S' = remade p w w' h H k f below c rest e' point binds puts b old new changes.made.adopter changes.fields changes.fields changes.made.made changes.puts rule.1.mutable owned

      made : IsBlock w'.heap.at b new (map names rule.1.fields)
      made = record { adopter = changes.made.adopter; made = changes.puts.put ∙ ap (λ l. Some (Block_cell new changes.made.adopter l)) (cell_fields changes.made.made m.made.made) }

      in_r : (x : ℕ) → in_atom x (Has_atom y (Block_type old rule.1.fields rule.1.adopts)) ≡ true → occurs x R ≡ true
      in_r x o = in_occurs x rule.0 R (in_of rule.0 R rule.1.changed.rest rule.1.changed.taken) (subst (λ a. in_atom x a ≡ true) (sym rule.1.block) o)

      state : (g one : Owned) → Means (decls_of p) S' (map_atom names (Has_atom y (Block_type new rule.1.fields rule.1.left))) one → ((t : ℕ) → g t ≡ m.two t + one t) → MeansAll (decls_of p) S' (map (map_atom (at_only to (Int_value 0) names)) point.d.state) g
      state g one atom j = replaced_means (decls_of p) S' names to rule.0 _ R point.d.state rule.1.changed g one m.two (not_true (λ o. true_false (take_occurs to rule.0 R rule.1.changed.rest rule.1.changed.taken o) point.d.does.new)) (not_true (λ o. true_false (in_r to o) point.d.does.new))
          (all_stay (decls_of p) sees S' m.others (remade_stays p w w' h H k f below c rest e' point binds puts b old new changes.made.adopter changes.fields changes.fields changes.made.made changes.puts rule.1.mutable owned m.two two_b)) atom j
