-- Who writes a block owns it; who touches it owns it, or it is immutable.
use Rattle.std.proofs.Common.{◌≡◌, ◌⊎◌, inl, inr, ℕ, ◌+◌, ◌<◌, List, map, Option, Some, None, refl, sym, ap, ◌∙◌, subst, arith}
use Rattle.mz_tree.specs.Plain.{Atom, Int_type, Unknown_type, Dynamic_type, Locked_type, Named_type, Function_type, Block_type, Lock_type, Has_atom, Same_atom, map_atom}
use Rattle.mz_tree.specs.Programs.{Program}
use Rattle.mz_tree.specs.Code.{Command, Cases, The_command, Int_op, Unit_op, Fun_op, Copy_op, Arith_op, New_op, Read_op, Write_op, Retag_op, If_op, Match_op, Call_op, Give_op, Take_op, New_lock_op, Acquire_op, Release_op, Spawn_op, Print_op, op_of, Body}
use Rattle.mz_tree.specs.declared.types.Place.{Place}
use Rattle.mz_decl.specs.Declarations.{Decls, decls_of}
use Rattle.mz_perm.specs.Lists.{In}
use Rattle.mz_modes.specs.Affine.{IsMutable, IsMutableCon, AffineAtom}
use Rattle.mz_adopt.specs.Adopting.{IsAdopter}
use Rattle.mz_deriv.specs.Rules.{Rule}
use Rattle.mz_deriv.specs.Scripts.{ScriptCases}
use Rattle.mz_named.specs.Configurations.{Value, Block_value, Frame, Suspended, Config}
use Rattle.mz_named.specs.Operations.{IsBlock}
use Rattle.mz_named.specs.Steps.{IsAt}
use Rattle.mz_named.specs.Safety.{Touches, WritesTo}
use Rattle.mz_resource.specs.Meaning.{Owned, Sight, Means, MeansAll}
use Rattle.mz_resource.specs.Held.{Holding, sight, Held}
use Rattle.mz_resource.specs.Owners.{Of_thread}
use Rattle.mz_resource.proofs.Programs.Proper.{ProperDecls}
use Rattle.mz_resource.specs.Following.{AtCommand}
use Rattle.mz_perm.proofs.Orders.{in_of, used_in}
use Rattle.mz_resource.proofs.Meaning.Owning.{Split, look_up, take_out}
use Rattle.mz_resource.proofs.Meaning.Staying.{one_at_self, mutable_or_not}
use Rattle.mz_resource.proofs.Meaning.Inverse.{owned_inv, block_inv, data_inv, block_is, cell_con}
use Rattle.mz_resource.proofs.Commands.Ruled.{AtRule, at_rule}
use Rattle.mz_resource.proofs.Commands.Adopting.{adopts_inv}
use Rattle.mz_resource.proofs.Threads.Ready.{at_branches}
use Rattle.mz_resource.proofs.Threads.Entering.{Entered, first_entered}

-- an owned block of a mutable constructor
pub record OwnsIt (D : Decls) (w : Config) (g : Owned) (b : ℕ) : Type 0 where
  pub con : ℕ
  pub fields : List Value
  pub made : IsBlock w.heap.at b con fields
  pub mutable : IsMutableCon D con
  pub owned : 0 < g b

-- a block of an immutable one
pub record IsFixed (D : Decls) (w : Config) (b : ℕ) : Type 0 where
  pub con : ℕ
  pub fields : List Value
  pub made : IsBlock w.heap.at b con fields
  pub fixed : IsMutableCon D con → ⊥

module _ (p : Program) (L : ProperDecls (decls_of p)) (w : Config) (h : Holding) (H : Held p w h) (names : ℕ → Value) (R : List (Atom ℕ)) (top : Owned) (m : MeansAll (decls_of p) (sight w h) (map (map_atom names) R) top) where
  abbrev D : Decls
  D = decls_of p

  abbrev S : Sight
  S = sight w h

  -- the block of a structural permission
  of_block : (y con : ℕ) (ys : List ℕ) (c : Option ℕ) (b : ℕ) → In (Has_atom y (Block_type con ys c)) R → names y ≡ Block_value b → OwnsIt (decls_of p) w top b ⊎ IsFixed (decls_of p) w b
  of_block y con ys c b i is =
      let r = look_up (decls_of p) S (map_atom names) (Has_atom y (Block_type con ys c)) R top i m in
      elim (mutable_or_not (decls_of p) con) [
        | inl z ↦ (let o = owned_inv (decls_of p) S z r.1 in
            let q : o.block ≡ b = block_is o.is is in
            inl (record { con = con; fields = map names ys; made = subst (λ n. IsBlock w.heap.at n con (map names ys)) q o.made; mutable = z; owned = subst (λ n. 0 < top n) q (let a = o.only o.block in let s = one_at_self o.block in let l = r.2 o.block in omega arith) }))
        | inr z ↦ (let o = block_inv (decls_of p) S r.1 in inr (record { con = con; fields = map names ys; made = subst (λ n. IsBlock w.heap.at n con (map names ys)) (block_is o.1 is) o.2; fixed = z }))
      ]

  -- of one at a data type
  of_data : (y d b : ℕ) → In (Has_atom y (Named_type d)) R → names y ≡ Block_value b → OwnsIt (decls_of p) w top b ⊎ IsFixed (decls_of p) w b
  of_data y d b i is =
      let r = look_up (decls_of p) S (map_atom names) (Has_atom y (Named_type d)) R top i m in
      let o = data_inv (decls_of p) S r.1 in
      let q : o.block ≡ b = block_is o.is is in
      let made = subst (λ n. IsBlock w.heap.at n o.con o.fields) q o.made.block in
      elim o.kind [
        | inl z ↦ inr (record { con = o.con; fields = o.fields; made = made; fixed = z.0 })
        | inr z ↦ inl (record { con = o.con; fields = o.fields; made = made; mutable = z.0; owned = subst (λ n. 0 < top n) q (let a = z.2.join o.block in let c = z.2.first_part o.block in let s = one_at_self o.block in let l = r.2 o.block in omega arith) })
      ]

  only_owned : (b con : ℕ) (fields : List Value) → IsBlock w.heap.at b con fields → IsMutableCon (decls_of p) con → OwnsIt (decls_of p) w top b ⊎ IsFixed (decls_of p) w b → OwnsIt (decls_of p) w top b
  only_owned b con fields k z (inl o) = o
  only_owned b con fields k z (inr o) = absurd (o.fixed (subst (λ n. IsMutableCon (decls_of p) n) (cell_con k.made o.made.made) z))

  -- an adopter
  of_adopter : (y u b : ℕ) (a : Atom ℕ) → IsAdopter (decls_of p) y u a → In a R → names y ≡ Block_value b → OwnsIt (decls_of p) w top b
  of_adopter y u b a k i is =
      let r = look_up (decls_of p) S (map_atom names) a R top i m in
      let o = adopts_inv (decls_of p) L S names y u a r.0 k r.1 in
      let q : o.block ≡ b = block_is o.is is in
      record { con = o.con; fields = o.fields; made = subst (λ n. IsBlock w.heap.at n o.con o.fields) q o.made; mutable = o.mutable; owned = subst (λ n. 0 < top n) q (let l = r.2 o.block in let z = o.owned in omega arith) }

  of_match : (y d b to : ℕ) (all : Cases) (giving : List (Atom ℕ)) (place : Place) (uses : Option (Atom ℕ)) (cases : ScriptCases) (bound : List ℕ) (join : List (Atom ℕ)) (walked : Body) →
      Entered (decls_of p) R (The_command to (Match_op y d all giving) place) uses cases bound join 0 0 walked → names y ≡ Block_value b → OwnsIt (decls_of p) w top b ⊎ IsFixed (decls_of p) w b
  of_match y d b to all giving place None cases bound join walked t is = absurd t.begins.starts
  of_match y d b to all giving place (Some (Same_atom x z)) cases bound join walked t is = absurd t.begins.starts
  of_match y d b to all giving place (Some (Has_atom x Int_type)) cases bound join walked t is = absurd t.begins.starts.1
  of_match y d b to all giving place (Some (Has_atom x Unknown_type)) cases bound join walked t is = absurd t.begins.starts.1
  of_match y d b to all giving place (Some (Has_atom x Dynamic_type)) cases bound join walked t is = absurd t.begins.starts.1
  of_match y d b to all giving place (Some (Has_atom x Locked_type)) cases bound join walked t is = absurd t.begins.starts.1
  of_match y d b to all giving place (Some (Has_atom x (Function_type s))) cases bound join walked t is = absurd t.begins.starts.1
  of_match y d b to all giving place (Some (Has_atom x (Lock_type q))) cases bound join walked t is = absurd t.begins.starts.1
  of_match y d b to all giving place (Some (Has_atom x (Block_type con ys c))) cases bound join walked t is = of_block x con ys c b t.begins.starts.1.held (ap names t.begins.starts.0 ∙ is)
  of_match y d b to all giving place (Some (Has_atom x (Named_type n))) cases bound join walked t is =
      let o = t.begins.starts.1.opens in
      of_data y d b (used_in (AffineAtom (decls_of p)) (Has_atom y (Named_type d)) R o.rest o.used) is

module _ (p : Program) (L : ProperDecls (decls_of p)) (w : Config) (h : Holding) (H : Held p w h) (k : ℕ) (f : Frame) (below : List Suspended) (rest : List Command) (at : AtCommand (h.thread k).top.script) where
  mine : (b : ℕ) (top under all : Owned) → ((t : ℕ) → all t ≡ top t + under t) → OwnsIt (decls_of p) w top b → OwnsIt (decls_of p) w all b
  mine b top under all j o = record { con = o.con; fields = o.fields; made = o.made; mutable = o.mutable; owned = (let a = j b in let z = o.owned in omega arith) }

  either : (b : ℕ) (top under all : Owned) → ((t : ℕ) → all t ≡ top t + under t) → OwnsIt (decls_of p) w top b ⊎ IsFixed (decls_of p) w b → OwnsIt (decls_of p) w all b ⊎ IsFixed (decls_of p) w b
  either b top under all j (inl o) = inl (mine b top under all j o)
  either b top under all j (inr o) = inr o

  pub writer : (c : Command) (b : ℕ) → IsAt w k f below c rest → WritesTo f.env (op_of c) b → OwnsIt (decls_of p) w (H.own (Of_thread k)) b
  writer (The_command to (Write_op y con i z) place) b here wr = by (at_rule p w h H k f below _ rest at here refl)
    where
      by : AtRule p w h H k f below (The_command to (Write_op y con i z) place) rest → OwnsIt (decls_of p) w (H.own (Of_thread k)) b
      by t = go t.d.uses t.d.does.rule
        where
          go : (uses : Option (Atom ℕ)) → Rule (decls_of p) t.st.top.state to (Write_op y con i z) uses t.d.state → OwnsIt (decls_of p) w (H.own (Of_thread k)) b
          go None r = absurd r
          go (Some a) r =
              let is = t.st.top.env y t.core.0.0 ∙ wr in
              let held : In (Has_atom y (Block_type con r.fields r.adopts)) t.st.top.state = subst (λ x. In x t.st.top.state) r.block (in_of a t.st.top.state r.changed.rest r.changed.taken) in
              let o = block_inv (decls_of p) (sight w h) (look_up (decls_of p) (sight w h) (map_atom (h.thread k).top.values) (Has_atom y (Block_type con r.fields r.adopts)) t.st.top.state t.st.top_owns held t.means).1 in
              mine b t.st.top_owns t.st.below_owns (H.own (Of_thread k)) t.st.join (only_owned p L w h H (h.thread k).top.values t.st.top.state t.st.top_owns t.means b con (map (h.thread k).top.values r.fields) (subst (λ n. IsBlock w.heap.at n con (map (h.thread k).top.values r.fields)) (block_is o.1 is) o.2) r.mutable (of_block p L w h H (h.thread k).top.values t.st.top.state t.st.top_owns t.means y con r.fields r.adopts b held is))
  writer (The_command to (Retag_op y old new) place) b here wr = by (at_rule p w h H k f below _ rest at here refl)
    where
      by : AtRule p w h H k f below (The_command to (Retag_op y old new) place) rest → OwnsIt (decls_of p) w (H.own (Of_thread k)) b
      by t = go t.d.uses t.d.does.rule
        where
          go : (uses : Option (Atom ℕ)) → Rule (decls_of p) t.st.top.state to (Retag_op y old new) uses t.d.state → OwnsIt (decls_of p) w (H.own (Of_thread k)) b
          go None r = absurd r
          go (Some a) r =
              let is = t.st.top.env y t.core.0 ∙ wr in
              let held : In (Has_atom y (Block_type old r.fields r.adopts)) t.st.top.state = subst (λ x. In x t.st.top.state) r.block (in_of a t.st.top.state r.changed.rest r.changed.taken) in
              let o = block_inv (decls_of p) (sight w h) (look_up (decls_of p) (sight w h) (map_atom (h.thread k).top.values) (Has_atom y (Block_type old r.fields r.adopts)) t.st.top.state t.st.top_owns held t.means).1 in
              mine b t.st.top_owns t.st.below_owns (H.own (Of_thread k)) t.st.join (only_owned p L w h H (h.thread k).top.values t.st.top.state t.st.top_owns t.means b old (map (h.thread k).top.values r.fields) (subst (λ n. IsBlock w.heap.at n old (map (h.thread k).top.values r.fields)) (block_is o.1 is) o.2) r.mutable (of_block p L w h H (h.thread k).top.values t.st.top.state t.st.top_owns t.means y old r.fields r.adopts b held is))
  writer (The_command to (Take_op x y) place) b here wr = by (at_rule p w h H k f below _ rest at here refl)
    where
      by : AtRule p w h H k f below (The_command to (Take_op x y) place) rest → OwnsIt (decls_of p) w (H.own (Of_thread k)) b
      by t = go t.d.uses t.d.does.rule
        where
          go : (uses : Option (Atom ℕ)) → Rule (decls_of p) t.st.top.state to (Take_op x y) uses t.d.state → OwnsIt (decls_of p) w (H.own (Of_thread k)) b
          go None r = absurd r
          go (Some a) r = mine b t.st.top_owns t.st.below_owns (H.own (Of_thread k)) t.st.join (of_adopter p L w h H (h.thread k).top.values t.st.top.state t.st.top_owns t.means y r.adopted b a r.adopter r.held (t.st.top.env y t.core.1.0 ∙ wr))
  writer (The_command to (Give_op x y) place) b here wr = by (at_rule p w h H k f below _ rest at here refl)
    where
      by : AtRule p w h H k f below (The_command to (Give_op x y) place) rest → OwnsIt (decls_of p) w (H.own (Of_thread k)) b
      by t = go t.d.uses t.d.does.rule
        where
          go : (uses : Option (Atom ℕ)) → Rule (decls_of p) t.st.top.state to (Give_op x y) uses t.d.state → OwnsIt (decls_of p) w (H.own (Of_thread k)) b
          go None r = absurd r
          go (Some a) r = elim wr [ inl q ↦ of_x q | inr q ↦ mine b used.two (λ n. used.one n + t.st.below_owns n) (H.own (Of_thread k)) (λ n. (let i = t.st.join n in let j = used.join n in omega (arith, i, j))) (of_adopter p L w h H (h.thread k).top.values r.rest used.two used.second_part y r.adopted b a r.adopter r.held (t.st.top.env y t.core.1.0 ∙ q)) ]
            where
              used : Split (Means (decls_of p) (sight w h) (Has_atom ((h.thread k).top.values x) (Named_type r.adopted))) (MeansAll (decls_of p) (sight w h) (map (map_atom (h.thread k).top.values) r.rest)) t.st.top_owns
              used = take_out (decls_of p) (sight w h) (map_atom (h.thread k).top.values) (Has_atom x (Named_type r.adopted)) t.st.top.state r.rest t.st.top_owns r.taken t.means

              of_x : f.env x ≡ Block_value b → OwnsIt (decls_of p) w (H.own (Of_thread k)) b
              of_x q =
                  let z = adopts_inv (decls_of p) L (sight w h) (h.thread k).top.values y r.adopted a (look_up (decls_of p) (sight w h) (map_atom (h.thread k).top.values) a r.rest used.two r.held used.second_part).0 r.adopter (look_up (decls_of p) (sight w h) (map_atom (h.thread k).top.values) a r.rest used.two r.held used.second_part).1 in
                  let o = data_inv (decls_of p) (sight w h) used.first_part in
                  let e : o.block ≡ b = block_is o.is (t.st.top.env x t.core.0.0 ∙ q) in
                  elim o.kind [
                    | inl n ↦ absurd (n.0 (record { con = o.con_is; made = o.made.is_con; mutable = subst (λ n. IsMutable (decls_of p) n) (sym o.made.of_type) (H.heap.clauses z.block r.adopted z.clause_is) }))
                    | inr n ↦ record { con = o.con; fields = o.fields; made = subst (λ n. IsBlock w.heap.at n o.con o.fields) e o.made.block; mutable = n.0; owned = subst (λ n. 0 < H.own (Of_thread k) n) e (let a = n.2.join o.block in let c = n.2.first_part o.block in let s = one_at_self o.block in let i = t.st.join o.block in let j = used.join o.block in omega arith) }
                  ]
  writer (The_command to (Int_op n) place) b here wr = absurd wr
  writer (The_command to Unit_op place) b here wr = absurd wr
  writer (The_command to (Fun_op n) place) b here wr = absurd wr
  writer (The_command to (Copy_op n) place) b here wr = absurd wr
  writer (The_command to (Arith_op o x y) place) b here wr = absurd wr
  writer (The_command to (New_op con ys) place) b here wr = absurd wr
  writer (The_command to (Read_op y con i) place) b here wr = absurd wr
  writer (The_command to (If_op y one two g) place) b here wr = absurd wr
  writer (The_command to (Match_op y d all g) place) b here wr = absurd wr
  writer (The_command to (Call_op g ys) place) b here wr = absurd wr
  writer (The_command to (New_lock_op g) place) b here wr = absurd wr
  writer (The_command to (Acquire_op l) place) b here wr = absurd wr
  writer (The_command to (Release_op l) place) b here wr = absurd wr
  writer (The_command to (Spawn_op g y) place) b here wr = absurd wr
  writer (The_command to (Print_op x) place) b here wr = absurd wr

  pub toucher : (c : Command) (b : ℕ) → IsAt w k f below c rest → Touches f.env (op_of c) b → OwnsIt (decls_of p) w (H.own (Of_thread k)) b ⊎ IsFixed (decls_of p) w b
  toucher (The_command to (Read_op y con i) place) b here tc = by (at_rule p w h H k f below _ rest at here refl)
    where
      by : AtRule p w h H k f below (The_command to (Read_op y con i) place) rest → OwnsIt (decls_of p) w (H.own (Of_thread k)) b ⊎ IsFixed (decls_of p) w b
      by t = go t.d.uses t.d.does.rule
        where
          go : (uses : Option (Atom ℕ)) → Rule (decls_of p) t.st.top.state to (Read_op y con i) uses t.d.state → OwnsIt (decls_of p) w (H.own (Of_thread k)) b ⊎ IsFixed (decls_of p) w b
          go None r = absurd r
          go (Some a) r = either b t.st.top_owns t.st.below_owns (H.own (Of_thread k)) t.st.join (of_block p L w h H (h.thread k).top.values t.st.top.state t.st.top_owns t.means y con r.fields r.adopts b (subst (λ x. In x t.st.top.state) r.block r.held) (t.st.top.env y t.core.0 ∙ tc))
  toucher (The_command to (Match_op y d all giving) place) b here tc =
      let t = at_branches p w h H k f below _ rest at here refl in
      let first = first_entered (decls_of p) t.st.top.state (The_command to (Match_op y d all giving) place) t.b.uses t.b.names t.b.join t.b.cases t.b.branches t.b.rule t.b.inside in
      either b t.st.top_owns t.st.below_owns (H.own (Of_thread k)) t.st.join (of_match p L w h H (h.thread k).top.values t.st.top.state t.st.top_owns t.means y d b to all giving place t.b.uses t.b.cases t.b.names t.b.join first.0 first.1 (t.st.top.env y t.core.0.0 ∙ tc))
  toucher (The_command to (Write_op y con i z) place) b here tc = inl (writer (The_command to (Write_op y con i z) place) b here tc)
  toucher (The_command to (Retag_op y old new) place) b here tc = inl (writer (The_command to (Retag_op y old new) place) b here tc)
  toucher (The_command to (Take_op x y) place) b here tc = inl (writer (The_command to (Take_op x y) place) b here tc)
  toucher (The_command to (Give_op x y) place) b here tc = inl (writer (The_command to (Give_op x y) place) b here tc)
  toucher (The_command to (Int_op n) place) b here tc = absurd tc
  toucher (The_command to Unit_op place) b here tc = absurd tc
  toucher (The_command to (Fun_op n) place) b here tc = absurd tc
  toucher (The_command to (Copy_op n) place) b here tc = absurd tc
  toucher (The_command to (Arith_op o x y) place) b here tc = absurd tc
  toucher (The_command to (New_op con ys) place) b here tc = absurd tc
  toucher (The_command to (If_op y one two g) place) b here tc = absurd tc
  toucher (The_command to (Call_op g ys) place) b here tc = absurd tc
  toucher (The_command to (New_lock_op g) place) b here tc = absurd tc
  toucher (The_command to (Acquire_op l) place) b here tc = absurd tc
  toucher (The_command to (Release_op l) place) b here tc = absurd tc
  toucher (The_command to (Spawn_op g y) place) b here tc = absurd tc
  toucher (The_command to (Print_op x) place) b here tc = absurd tc
