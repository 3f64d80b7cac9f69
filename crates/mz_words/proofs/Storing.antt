-- What is being made was stored before: the words of a block, and the function and the argument of a thread.
use Rattle.std.proofs.Common.{◌≡◌, ◌<◌, ◌≤◌, ◌==◌, inl, inr, ℕ, zero, suc, ◌+◌, ◌*◌, List, [], ◌∷◌, ◌++◌, length, Option, Some, None, Bool, true, false, leb, ltb, refl, sym, ap, ◌∙◌, subst, append_assoc, arith}
use Rattle.std.specs.Prelude.{slice_get, if◌then◌else◌, Contains}
use Rattle.std.proofs.lemmas.Bool.{cases_eq, eqb-true}
use Rattle.std.proofs.lemmas.List.Elements.{Contains-append_left, Contains-push}
use Rattle.mz_tree.specs.declared.types.Place.{Place}
use Rattle.mz_tape.specs.declared.entry.Entry.{Entry}
use Rattle.mz_tape.specs.declared.entry.Kind.TheVariants.{Store}
use Rattle.mz_words.specs.declared.code.Act.{Act}
use Rattle.mz_words.specs.declared.code.Act.TheVariants.{Const, Copy, Arith as Arith_act, New, Read, Write, Retag, Switch, Branch, Jump, Call, Return, Give, Take, NewLock, Acquire, Release, Spawn, Print}
use Rattle.mz_words.specs.declared.code.Instr.{Instr}
use Rattle.mz_words.specs.declared.code.Start.{Start}
use Rattle.mz_words.specs.declared.code.Code.{Code}
use Rattle.mz_words.specs.declared.options.Options.{Options}
use Rattle.mz_words.specs.declared.asks.Ask.{Ask}
use Rattle.mz_words.specs.declared.asks.Ask.TheVariants.{Local, Frames, Stores, Nothing}
use Rattle.mz_words.specs.declared.asks.Answer.{Answer}
use Rattle.mz_words.specs.declared.asks.Answer.TheVariants.{Saw, Quiet, Missed, Refused}
use Rattle.mz_words.specs.declared.ends.End.{End}
use Rattle.mz_words.specs.declared.ends.End.TheVariants as ending
use Rattle.mz_words.specs.declared.stages.Stage.{Stage}
use Rattle.mz_words.specs.declared.stages.Stage.TheVariants.{Idle, IdleStop, IdleLive, LoadFun, LoadArg, Entering, Border, Ready, Making, Taking, Spawning, Unmatched, Closing, Over}
use Rattle.mz_words.specs.declared.stages.Waiting.{Waiting}
use Rattle.mz_words.specs.Standing.{Standing}
use Rattle.mz_words.specs.Steps.{reg, case_at, callee_of, made_words, made_word, counted, placed, ask_act, ask_making, ask_spawning, ask_at, ask, opening, gives, unit_at, stop, goes_to, result_of, spawned_one, take_step, take_at, take_saw, take_local, take_frame, take_quiet, take_done, switched, gives_or, returns, calls, enters}
use Rattle.mz_words.specs.Answers.{May}
use Rattle.mz_words.specs.Raw.{completed_at, born_at}
use Rattle.mz_words.specs.Replays.{Follows, Follows_start, Follows_on, entries}
use Rattle.mz_words.specs.Laws.{stored, MakesWords, HasStoredWords, BlocksAreStored, HasStoredStart, StartsAreStored}
use Rattle.mz_words.proofs.Events.{nil_right}

-- a stage inside an instruction only with nothing stored yet
abbrev Fresh : Stage → Type 0
Fresh (Making b zero) = Unit {0}
Fresh (Making b (suc i)) = ⊥
Fresh (Spawning j zero) = Unit {0}
Fresh (Spawning j (suc i)) = ⊥
Fresh stage = Unit {0}

-- a stage at which nothing is being stored
abbrev Outside : Stage → Type 0
Outside (Making b i) = ⊥
Outside (Spawning j i) = ⊥
Outside stage = Unit {0}

fresh_if : (b : Bool) (x y : Standing) → Fresh x.stage → Fresh y.stage → Fresh (if b then x else y).stage
fresh_if true x y p q = p
fresh_if false x y p q = q

fresh_case : (target : Option ℕ) (t : Standing) → Fresh (switched target t).stage
fresh_case None t = tt
fresh_case (Some target) t = tt

fresh_computed : (place : Place) (to : ℕ) (n : Option ℕ) (t : Standing) → Fresh (gives_or place to n t).stage
fresh_computed place to None t = tt
fresh_computed place to (Some n) t = tt

fresh_return : (value : ℕ) (below : List Waiting) (t : Standing) → Fresh (returns value below t).stage
fresh_return value [] t = tt
fresh_return value (w ∷ below) t = tt

fresh_call : (to : ℕ) (args : List ℕ) (s : Option Start) (t : Standing) → Fresh t.stage → Fresh (calls to args s t).stage
fresh_call to args None t f = f
fresh_call to args (Some s) t f = tt

fresh_saw : (o : Options) (place : Place) (t : Standing) (a : Act) (n : ℕ) → Fresh t.stage → Fresh (take_saw o place t a n).stage
fresh_saw o place t (New to con fields) n f = fresh_if (leb (n + (length fields + 2)) o.heap) (unit_at (Making n 0) t) (stop (ending.HeapFull place) (unit_at Ready t)) tt tt
fresh_saw o place t (NewLock to) n f = fresh_if (leb (n + 1) o.heap) (unit_at (Making n 0) t) (stop (ending.HeapFull place) (unit_at Ready t)) tt tt
fresh_saw o place t (Read to block con field) n f = tt
fresh_saw o place t (Write to block con field source) n f = tt
fresh_saw o place t (Retag to block old con) n f = tt
fresh_saw o place t (Switch block cons targets) n f = fresh_case (case_at cons targets n) t
fresh_saw o place t (Give to block adopter) n f = tt
fresh_saw o place t (Take to block adopter) n f = fresh_if (n == reg t adopter) (unit_at Taking t) (stop (ending.TakeFailed place) (unit_at Ready t)) tt tt
fresh_saw o place t (Acquire to lock) n f = tt
fresh_saw o place t (Release to lock) n f = tt
fresh_saw o place t (Spawn to callee arg) n f = fresh_if (ltb n 64) (unit_at (Spawning n 0) t) (stop (ending.ThreadsFull place) (unit_at Ready t)) tt tt
fresh_saw o place t (Print to source) n f = tt
fresh_saw o place t a n f = f

fresh_local : (o : Options) (place : Place) (t : Standing) (a : Act) → Fresh (take_local o place t a).stage
fresh_local o place t (Const to value) = tt
fresh_local o place t (Copy to source) = tt
fresh_local o place t (Arith_act to op left right) = fresh_computed place to _ t
fresh_local o place t (Branch test at_zero) = fresh_if (reg t test == 0) (goes_to at_zero t) (goes_to (t.at + 1) t) tt tt
fresh_local o place t (Jump target) = tt
fresh_local o place t (Return source) = fresh_return (reg t source) t.below t
fresh_local o place t (Call to callee args) = fresh_if (leb o.steps t.units) (stop ending.Spent t) (stop (ending.StackFull place) t) tt tt
fresh_local o place t a = tt

fresh_frame : (c : Code) (t : Standing) (a : Act) → Fresh t.stage → Fresh (take_frame c t a).stage
fresh_frame c t (Call to callee args) f = fresh_call to args (callee_of c (reg t callee) (length args)) t f
fresh_frame c t a f = f

fresh_quiet : (c : Code) (o : Options) (t : Standing) (i : Instr) (ask : Ask) → Fresh t.stage → Fresh (take_quiet c o t i ask).stage
fresh_quiet c o t i (Frames n) f = fresh_frame c t i.act f
fresh_quiet c o t i ask f = fresh_local o i.place t i.act

fresh_done : (t : Standing) (a : Act) → Fresh t.stage → Fresh (take_done t a).stage
fresh_done t (Take to block adopter) f = tt
fresh_done t a f = f

fresh_enter : (k arg : ℕ) (s : Option Start) (t : Standing) → Fresh t.stage → Fresh (enters k arg s t).stage
fresh_enter k arg None t f = f
fresh_enter k arg (Some s) t f = tt

-- no answer leads from outside into the middle of what is being made
fresh_at : (c : Code) (o : Options) (k : ℕ) (t : Standing) (stage : Stage) (a : Option Instr) (answer : Answer) → Outside stage → Fresh t.stage → Fresh (take_at c o k t stage a answer).stage
fresh_at c o k t Idle a (Saw n) x f = tt
fresh_at c o k t Idle a Quiet x f = tt
fresh_at c o k t Idle a Missed x f = f
fresh_at c o k t Idle a Refused x f = f
fresh_at c o k t IdleStop a (Saw n) x f = tt
fresh_at c o k t IdleStop a Quiet x f = tt
fresh_at c o k t IdleStop a Missed x f = f
fresh_at c o k t IdleStop a Refused x f = f
fresh_at c o k t IdleLive a (Saw n) x f = tt
fresh_at c o k t IdleLive a Quiet x f = tt
fresh_at c o k t IdleLive a Missed x f = f
fresh_at c o k t IdleLive a Refused x f = f
fresh_at c o k t LoadFun a (Saw n) x f = tt
fresh_at c o k t LoadFun a Quiet x f = f
fresh_at c o k t LoadFun a Missed x f = f
fresh_at c o k t LoadFun a Refused x f = f
fresh_at c o k t (LoadArg g) a (Saw n) x f = tt
fresh_at c o k t (LoadArg g) a Quiet x f = f
fresh_at c o k t (LoadArg g) a Missed x f = f
fresh_at c o k t (LoadArg g) a Refused x f = f
fresh_at c o k t (Entering g arg) a (Saw n) x f = f
fresh_at c o k t (Entering g arg) a Quiet x f = fresh_enter k arg _ t f
fresh_at c o k t (Entering g arg) a Missed x f = f
fresh_at c o k t (Entering g arg) a Refused x f = tt
fresh_at c o k t Border None answer x f = f
fresh_at c o k t Border (Some i) (Saw n) x f = tt
fresh_at c o k t Border (Some i) Quiet x f = tt
fresh_at c o k t Border (Some i) Missed x f = f
fresh_at c o k t Border (Some i) Refused x f = f
fresh_at c o k t Ready None answer x f = f
fresh_at c o k t Ready (Some i) (Saw n) x f = fresh_saw o i.place t i.act n f
fresh_at c o k t Ready (Some i) Quiet x f = fresh_quiet c o t i (ask_act c o t i.act) f
fresh_at c o k t Ready (Some i) Missed x f = fresh_if (t.lost + 1 == o.tries) (record t { lost = t.lost + 1; stage = Closing (ending.Blocked i.place) }) (record t { lost = t.lost + 1; stage = Border }) tt tt
fresh_at c o k t Ready (Some i) Refused x f = tt
fresh_at c o k t Taking None answer x f = f
fresh_at c o k t Taking (Some i) (Saw n) x f = fresh_done t i.act f
fresh_at c o k t Taking (Some i) Quiet x f = tt
fresh_at c o k t Taking (Some i) Missed x f = f
fresh_at c o k t Taking (Some i) Refused x f = tt
fresh_at c o k t Unmatched a answer x f = f
fresh_at c o k t (Closing e) a (Saw n) x f = tt
fresh_at c o k t (Closing e) a Quiet x f = f
fresh_at c o k t (Closing e) a Missed x f = f
fresh_at c o k t (Closing e) a Refused x f = f
fresh_at c o k t (Over e) a answer x f = f
fresh_at c o k t (Making b i) a answer x f = absurd x
fresh_at c o k t (Spawning j i) a answer x f = absurd x

-- what is known inside an instruction: the words of a block that are stored, and the last entries of a spawn
abbrev Known : ℕ → List Entry → Standing → Stage → Act → Type 0
Known k part t (Making b i) a = (m : ℕ) → m < i → (value : ℕ) × Contains part (stored k (b + m) value)
Known k part t (Spawning j (suc (suc zero))) (Spawn to callee arg) = (before : List Entry) × (part ≡ before ++ stored k (6 + 3 * j) (reg t callee) ∷ [])
Known k part t (Spawning j (suc (suc (suc zero)))) (Spawn to callee arg) = (before : List Entry) × (part ≡ before ++ stored k (6 + 3 * j) (reg t callee) ∷ stored k (7 + 3 * j) (reg t arg) ∷ [])
Known k part t stage a = Unit {0}

abbrev KnownAt : ℕ → List Entry → Standing → Stage → Option Instr → Type 0
KnownAt k part t stage None = Unit {0}
KnownAt k part t stage (Some i) = Known k part t stage i.act

fresh_known : (k : ℕ) (part : List Entry) (t : Standing) (stage : Stage) (x : Option Instr) → Fresh stage → KnownAt k part t stage x
fresh_known k part t stage None f = tt
fresh_known k part t (Making b zero) (Some i) f = λ m h. absurd (omega (arith, h))
fresh_known k part t (Making b (suc n)) (Some i) f = absurd f
fresh_known k part t (Spawning j zero) (Some i) f = tt
fresh_known k part t (Spawning j (suc n)) (Some i) f = absurd f
fresh_known k part t stage (Some i) f = tt

outside_fresh : (stage : Stage) → Outside stage → Fresh stage
outside_fresh (Making b i) x = absurd x
outside_fresh (Spawning j i) x = absurd x
outside_fresh stage x = tt

-- where something was seen, the ask was the step itself
seen_counted : (b : Bool) (y : Ask) (n : ℕ) → May (if b then Local else y) (Saw n) → (if b then Local else y) ≡ y
seen_counted true y n m = absurd m
seen_counted false y n m = refl

seen_placed : (b : Bool) (y : Ask) (n : ℕ) → May (if b then y else Nothing) (Saw n) → (if b then y else Nothing) ≡ y
seen_placed true y n m = refl
seen_placed false y n m = absurd m

module _ (o : Options) (k : ℕ) (t : Standing) where
  -- a store is the one entry of its answer
  store_entry : (x : Ask) (place value n : ℕ) → x ≡ Stores place value → May x (Saw n) → entries k x (Saw n) ≡ stored k place value ∷ []
  store_entry x place value n e m =
      let zero_seen : n ≡ 0 = subst (λ (y : Ask). May y (Saw n)) e m in
      ap (λ (y : Ask). entries k y (Saw n)) e ∙ ap (λ q. stored_seen q) zero_seen
    where
      stored_seen : ℕ → List Entry
      stored_seen q = record { actor = k; place = place; kind = Store; value = value; seen = q } ∷ []

  both_seen : (place : ℕ) (y : Ask) (n : ℕ) → May (counted o t (placed o place y)) (Saw n) → counted o t (placed o place y) ≡ y
  both_seen place y n m =
      let e = seen_counted (leb o.steps t.units) (placed o place y) n m in
      e ∙ seen_placed (ltb place o.heap) y n (subst (λ (x : Ask). May x (Saw n)) e m)

  making_entry : (a : Act) (b i n : ℕ) → May (ask_making o t a b i) (Saw n) → (value : ℕ) × (entries k (ask_making o t a b i) (Saw n) ≡ stored k (b + i) value ∷ [])
  making_entry (New to con fields) b i n m = (made_word t (New to con fields) i, store_entry _ (b + i) (made_word t (New to con fields) i) n (both_seen (b + i) _ n m) m)
  making_entry (NewLock to) b i n m = (0, store_entry _ (b + i) 0 n (both_seen (b + i) _ n m) m)
  making_entry a b i n m = absurd m

  one_more : (part : List Entry) (b i value : ℕ) → ((m : ℕ) → m < i → (v : ℕ) × Contains part (stored k (b + m) v)) → (m : ℕ) → m < i + 1 → (v : ℕ) × Contains (part ++ stored k (b + i) value ∷ []) (stored k (b + m) v)
  one_more part b i value known m h = elim (cases_eq m i) [
    | inl e ↦ (value, subst (λ x. Contains (part ++ stored k (b + i) value ∷ []) (stored k (b + x) value)) (sym e) (Contains-push part (stored k (b + i) value)))
    | inr d ↦ (let z = known m (omega (arith, h, d)) in (z.0, Contains-append_left part (stored k (b + i) value ∷ []) (stored k (b + m) z.0) z.1))
  ]

  -- a step further on in a spawn than its last one
  far_known : (part : List Entry) (u : Standing) (j n : ℕ) (x : Option Instr) → 4 ≤ n → KnownAt k part u (Spawning j n) x
  far_known part u j n None h = tt
  far_known part u j zero (Some i) h = absurd (omega (arith, h))
  far_known part u j (suc zero) (Some i) h = absurd (omega (arith, h))
  far_known part u j (suc (suc zero)) (Some i) h = absurd (omega (arith, h))
  far_known part u j (suc (suc (suc zero))) (Some i) h = absurd (omega (arith, h))
  far_known part u j (suc (suc (suc (suc n)))) (Some i) h = tt

known_if : (c : Code) (k : ℕ) (part : List Entry) (b : Bool) (x y : Standing) → KnownAt k part x x.stage (slice_get c.instrs x.at) → KnownAt k part y y.stage (slice_get c.instrs y.at)
    → KnownAt k part (if b then x else y) (if b then x else y).stage (slice_get c.instrs (if b then x else y).at)
known_if c k part true x y p q = p
known_if c k part false x y p q = q

nothing_asked : (answer : Answer) → May Nothing answer → ⊥
nothing_asked (Saw n) m = m
nothing_asked Quiet m = m
nothing_asked Missed m = m
nothing_asked Refused m = m

module _ (c : Code) (o : Options) (k : ℕ) (part : List Entry) (t : Standing) where
  stays : (stage : Stage) (x : Option Instr) → t.stage ≡ stage → slice_get c.instrs t.at ≡ x → KnownAt k part t stage x → KnownAt k (part ++ []) t t.stage (slice_get c.instrs t.at)
  stays stage x e q n =
      subst (λ (l : List Entry). KnownAt k l t t.stage (slice_get c.instrs t.at)) (sym (nil_right part))
      (subst (λ (y : Option Instr). KnownAt k part t t.stage y) (sym q) (subst (λ (s : Stage). KnownAt k part t s x) (sym e) n))

  -- one more word is stored
  making_on : (b i n : ℕ) (instr : Instr) → slice_get c.instrs t.at ≡ Some instr → May (ask_making o t instr.act b i) (Saw n) → KnownAt k part t (Making b i) (Some instr)
      → (m : ℕ) → m < i + 1 → (value : ℕ) × Contains (part ++ entries k (ask_making o t instr.act b i) (Saw n)) (stored k (b + m) value)
  making_on b i n instr q m known j h =
      let e = making_entry o k t instr.act b i n m in
      subst (λ (l : List Entry). (value : ℕ) × Contains (part ++ l) (stored k (b + j) value)) (sym e.1) (one_more o k t part b i e.0 known j h)

  -- one more step of a spawn
  spawning_on : (j i n : ℕ) (a : Act) (x : Option Instr) → May (ask_spawning o t a j i) (Saw n) → Known k part t (Spawning j i) a → (instr : Instr) → instr.act ≡ a → slice_get c.instrs t.at ≡ Some instr
      → KnownAt k (part ++ entries k (ask_spawning o t a j i) (Saw n)) (spawned_one t a j i) (spawned_one t a j i).stage (slice_get c.instrs (spawned_one t a j i).at)
  spawning_on j zero n (Spawn to callee arg) x m known instr is q = subst (λ (y : Option Instr). KnownAt k (part ++ entries k (ask_spawning o t (Spawn to callee arg) j 0) (Saw n)) (unit_at (Spawning j 1) t) (Spawning j 1) y) (sym q) tt
  spawning_on j (suc zero) n (Spawn to callee arg) x m known instr is q =
      subst (λ (y : Option Instr). KnownAt k (part ++ entries k (ask_spawning o t (Spawn to callee arg) j 1) (Saw n)) (unit_at (Spawning j 2) t) (Spawning j 2) y) (sym q)
      (subst (λ (a : Act). Known k (part ++ entries k (ask_spawning o t (Spawn to callee arg) j 1) (Saw n)) (unit_at (Spawning j 2) t) (Spawning j 2) a) (sym is)
      (part, ap (λ (l : List Entry). part ++ l) (store_entry o k t _ (6 + 3 * j) (reg t callee) n (seen_counted (leb o.steps t.units) _ n m) m)))
  spawning_on j (suc (suc zero)) n (Spawn to callee arg) x m known instr is q =
      subst (λ (y : Option Instr). KnownAt k (part ++ entries k (ask_spawning o t (Spawn to callee arg) j 2) (Saw n)) (unit_at (Spawning j 3) t) (Spawning j 3) y) (sym q)
      (subst (λ (a : Act). Known k (part ++ entries k (ask_spawning o t (Spawn to callee arg) j 2) (Saw n)) (unit_at (Spawning j 3) t) (Spawning j 3) a) (sym is) (
        known.0,
        ap (λ (l : List Entry). part ++ l) (store_entry o k t _ (7 + 3 * j) (reg t arg) n (seen_counted (leb o.steps t.units) _ n m) m)
            ∙ ap (λ (l : List Entry). l ++ stored k (7 + 3 * j) (reg t arg) ∷ []) known.1 ∙ append_assoc known.0 (stored k (6 + 3 * j) (reg t callee) ∷ []) (stored k (7 + 3 * j) (reg t arg) ∷ []),
      ))
  spawning_on j (suc (suc (suc i))) n (Spawn to callee arg) x m known instr is q =
      let l = part ++ entries k (ask_spawning o t (Spawn to callee arg) j (suc (suc (suc i)))) (Saw n) in
      let done = gives to 0 (unit_at Ready t) in
      let on = unit_at (Spawning j (suc (suc (suc i)) + 1)) t in
      known_if c k l (suc (suc (suc i)) == 3) done on (fresh_known k l done Border (slice_get c.instrs done.at) tt) (far_known o k t l on j (suc (suc (suc i)) + 1) (slice_get c.instrs t.at) (omega arith))
  spawning_on j i n a x m known instr is q = absurd m

  closes : (l : List Entry) (e : End) → KnownAt k l (stop e t) (Closing e) (slice_get c.instrs t.at)
  closes l e = fresh_known k l (stop e t) (Closing e) (slice_get c.instrs t.at) tt

  kept_at : (stage : Stage) (x : Option Instr) (answer : Answer) → t.stage ≡ stage → slice_get c.instrs t.at ≡ x → May (ask_at c o k t stage x) answer → KnownAt k part t stage x
      → KnownAt k (part ++ entries k (ask_at c o k t stage x) answer) (take_at c o k t stage x answer) (take_at c o k t stage x answer).stage (slice_get c.instrs (take_at c o k t stage x answer).at)
  kept_at (Making b i) None answer e q m n = absurd (nothing_asked answer m)
  kept_at (Making b i) (Some instr) (Saw s) e q m n =
      let l = part ++ entries k (ask_making o t instr.act b i) (Saw s) in
      let done = gives (result_of instr.act b).0 b (unit_at Ready t) in
      let on = unit_at (Making b (i + 1)) t in
      known_if c k l (i + 1 == made_words instr.act) done on (fresh_known k l done Border (slice_get c.instrs done.at) tt) (subst (λ (y : Option Instr). KnownAt k l on (Making b (i + 1)) y) (sym q) (making_on b i s instr q m n))
  kept_at (Making b i) (Some instr) Quiet e q m n = closes (part ++ []) ending.Spent
  kept_at (Making b i) (Some instr) Missed e q m n = stays (Making b i) (Some instr) e q n
  kept_at (Making b i) (Some instr) Refused e q m n = closes (part ++ []) ending.Memory
  kept_at (Spawning j i) None answer e q m n = absurd (nothing_asked answer m)
  kept_at (Spawning j i) (Some instr) (Saw s) e q m n = spawning_on j i s instr.act (Some instr) m n instr refl q
  kept_at (Spawning j i) (Some instr) Quiet e q m n = closes (part ++ []) ending.Spent
  kept_at (Spawning j i) (Some instr) Missed e q m n = stays (Spawning j i) (Some instr) e q n
  kept_at (Spawning j i) (Some instr) Refused e q m n = closes (part ++ []) ending.Memory
  kept_at stage x answer e q m n =
      let u = take_at c o k t stage x answer in
      fresh_known k (part ++ entries k (ask_at c o k t stage x) answer) u u.stage (slice_get c.instrs u.at) (fresh_at c o k t stage x answer tt (subst (λ (s : Stage). Fresh s) (sym e) tt))

-- at each standing that a record leads to
known_all : (c : Code) (o : Options) (k : ℕ) (part : List Entry) (t : Standing) → Follows c o k part t → KnownAt k part t t.stage (slice_get c.instrs t.at)
unfolding ask take_step
known_all c o k _ _ Follows_start = fresh_known k [] opening Idle (slice_get c.instrs 0) tt
known_all c o k _ _ (Follows_on part t answer f m) = kept_at c o k part t t.stage (slice_get c.instrs t.at) answer refl refl m (known_all c o k part t f)

some_same : {A : Type 0} {x y : A} → Some x ≡ Some y → x ≡ y
some_same e = cc

none_same : {A : Type 0} {x : A} → None ≡ Some x → ⊥
none_same e = absurd (cc)

head_same : {x y : ℕ} → x ∷ [] ≡ y ∷ [] → x ≡ y
head_same e = cc

nil_head : {y : ℕ} → [] ≡ y ∷ [] → ⊥
nil_head e = absurd (cc)

abbrev chosen : Bool → ℕ → ℕ → Option (ℕ × ℕ)
chosen f b n = if f then Some (b, n) else None

-- what makes a block makes as many words as are drawn
makes_words : (o : Options) (t : Standing) (a : Act) (b i n : ℕ) → May (ask_making o t a b i) (Saw n) → MakesWords a (made_words a)
makes_words o t (New to con fields) b i n m = refl
makes_words o t (NewLock to) b i n m = refl
makes_words o t a b i n m = absurd m

module _ (c : Code) (o : Options) (k : ℕ) (part : List Entry) (t : Standing) where
  block_at : (place size : ℕ) (stage : Stage) (x : Option Instr) (answer : Answer) → slice_get c.instrs t.at ≡ x → May (ask_at c o k t stage x) answer → KnownAt k part t stage x → completed_at stage x answer ≡ Some (place, size)
      → HasStoredWords c k t (part ++ entries k (ask_at c o k t stage x) answer) place size
  block_at place size (Making b i) (Some instr) (Saw n) q m known e = by_flag (i + 1 == made_words instr.act) refl e
    where
      by_flag : (f : Bool) → (i + 1 == made_words instr.act) ≡ f → chosen f b (made_words instr.act) ≡ Some (place, size) → HasStoredWords c k t (part ++ entries k (ask_making o t instr.act b i) (Saw n)) place size
      by_flag true f z =
          let at : b ≡ place = ap (λ (y : ℕ × ℕ). y.0) (some_same z) in
          let many : made_words instr.act ≡ size = ap (λ (y : ℕ × ℕ). y.1) (some_same z) in
          let last : i + 1 ≡ made_words instr.act = eqb-true (i + 1) (made_words instr.act) f in
          record {
            instr = instr;
            found = q;
            makes = subst (λ y. MakesWords instr.act y) many (makes_words o t instr.act b i n m);
            each = λ j h. subst (λ y. (value : ℕ) × Contains (part ++ entries k (ask_making o t instr.act b i) (Saw n)) (stored k (y + j) value)) at
                (making_on c o k part t b i n instr q m known j (omega (arith, h, last, many)));
          }
      by_flag false f z = absurd (none_same z)
  block_at place size (Making b i) (Some instr) Quiet q m known e = absurd (none_same e)
  block_at place size (Making b i) (Some instr) Missed q m known e = absurd (none_same e)
  block_at place size (Making b i) (Some instr) Refused q m known e = absurd (none_same e)
  block_at place size (Making b i) None answer q m known e = absurd (none_same e)
  block_at place size stage x answer q m known e = absurd (none_same e)

  -- a spawn at its last step
  spawned_at : (j n : ℕ) (instr : Instr) (a : Act) → instr.act ≡ a → slice_get c.instrs t.at ≡ Some instr → May (ask_spawning o t a j 3) (Saw n) → Known k part t (Spawning j 3) a
      → HasStoredStart c k t part j × (entries k (ask_spawning o t a j 3) (Saw n) ≡ stored k (5 + 3 * j) 1 ∷ [])
  spawned_at j n instr (Spawn to callee arg) is q m known = (
    record { instr = instr; found = q; to = to; callee = callee; arg = arg; act = is; before = known.0; last = known.1 },
    store_entry o k t (ask_spawning o t (Spawn to callee arg) j 3) (5 + 3 * j) 1 n (seen_counted (leb o.steps t.units) (Stores (5 + 3 * j) 1) n m) m,
  )
  spawned_at j n instr a is q m known = absurd m

  start_at : (j : ℕ) (stage : Stage) (x : Option Instr) (answer : Answer) → slice_get c.instrs t.at ≡ x → May (ask_at c o k t stage x) answer → KnownAt k part t stage x → born_at stage answer ≡ j ∷ []
      → HasStoredStart c k t part j × (entries k (ask_at c o k t stage x) answer ≡ stored k (5 + 3 * j) 1 ∷ [])
  start_at j (Spawning h i) None (Saw n) q m known e = absurd (nothing_asked (Saw n) m)
  start_at j (Spawning h i) (Some instr) (Saw n) q m known e = by_flag (i == 3) refl e
    where
      by_flag : (f : Bool) → (i == 3) ≡ f → (if f then h ∷ [] else []) ≡ j ∷ [] → HasStoredStart c k t part j × (entries k (ask_spawning o t instr.act h i) (Saw n) ≡ stored k (5 + 3 * j) 1 ∷ [])
      by_flag true f z =
          let three : i ≡ 3 = eqb-true i 3 f in
          let same : h ≡ j = head_same z in
          let at_three = spawned_at h n instr instr.act refl q (subst (λ y. May (ask_spawning o t instr.act h y) (Saw n)) three m) (subst (λ y. Known k part t (Spawning h y) instr.act) three known) in (
            subst (λ y. HasStoredStart c k t part y) same at_three.0,
            ap (λ y. entries k (ask_spawning o t instr.act h y) (Saw n)) three ∙ at_three.1 ∙ ap (λ y. stored k (5 + 3 * y) 1 ∷ []) same,
          )
      by_flag false f z = absurd (nil_head z)
  start_at j (Spawning h i) x Quiet q m known e = absurd (nil_head e)
  start_at j (Spawning h i) x Missed q m known e = absurd (nil_head e)
  start_at j (Spawning h i) x Refused q m known e = absurd (nil_head e)
  start_at j stage x answer q m known e = absurd (nil_head e)

pub blocks_stored : BlocksAreStored
unfolding ask
blocks_stored c o k part t answer place size f m e = block_at c o k part t place size t.stage (slice_get c.instrs t.at) answer refl m (known_all c o k part t f) e

pub starts_stored : StartsAreStored
unfolding ask
starts_stored c o k part t answer j f m e = start_at c o k part t j t.stage (slice_get c.instrs t.at) answer refl m (known_all c o k part t f) e
