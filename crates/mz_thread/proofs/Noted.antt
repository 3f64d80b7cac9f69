-- The words' note is kept: only a failed try makes one, and only the last of them ends the thread.
use Rattle.std.proofs.Common.{◌≡◌, ◌+◌, ◌==◌, inl, inr, ℕ, length, List, [], ◌∷◌, ◌++◌, Option, Some, None, Bool, true, false, leb, ltb, refl, sym, subst, arith, ◌∙◌, slice_get, if◌then◌else◌}
use Rattle.mz_tape.specs.declared.entry.Entry.{Entry}
use Rattle.mz_words.specs.declared.words.Note.{Note}
use Rattle.mz_words.specs.declared.code.Act.{Act}
use Rattle.mz_words.specs.declared.code.Act.TheVariants.{Const, Copy, Arith as Arith_act, New, Read, Write, Retag, Switch, Branch, Jump, Call, Return, Give, Take, NewLock, Acquire, Release, Spawn, Print}
use Rattle.mz_words.specs.declared.code.Instr.{Instr}
use Rattle.mz_words.specs.declared.code.Start.{Start}
use Rattle.mz_words.specs.declared.code.Code.{Code}
use Rattle.mz_words.specs.declared.options.Options.{Options}
use Rattle.mz_words.specs.declared.ends.End.{End}
use Rattle.mz_words.specs.declared.ends.End.TheVariants as ending
use Rattle.mz_words.specs.declared.asks.Ask.{Ask}
use Rattle.mz_words.specs.declared.asks.Ask.TheVariants.{Local, Frames, Tries, Nothing}
use Rattle.mz_words.specs.declared.asks.Answer.{Answer}
use Rattle.mz_words.specs.declared.asks.Answer.TheVariants.{Saw, Quiet, Missed, Refused}
use Rattle.mz_words.specs.declared.stages.Stage.{Stage}
use Rattle.mz_words.specs.declared.stages.Stage.TheVariants.{Idle, IdleStop, IdleLive, LoadFun, LoadArg, Entering, Border, Ready, Making, Taking, Spawning, Unmatched, Closing, Over}
use Rattle.mz_words.specs.Standing.{Standing}
use Rattle.mz_words.specs.Steps.{reg, callee_of, ask, ask_at, ask_act, ask_call, ask_spawn, ask_closing, ask_frame, is_full, first_params, take_at, missed_one, enters, take_step}
use Rattle.mz_words.specs.Answers.{May}
use Rattle.mz_words.specs.Views.{WordsView}
use Rattle.mz_thread.specs.Keeping.{IsForwardAt, GoesForward}
use Rattle.mz_thread.specs.Turned.{IsNotBlocked}
use Rattle.mz_thread.specs.Inside.{IsRunning, Inside, LostWithin, StageWithin}
use Rattle.mz_thread.specs.Stages.{IsFrame}
use Rattle.mz_words.specs.Ran.{EndIsNoted}
use Rattle.mz_thread.specs.Noted.{StageIsNoted, IsNoted}
use Rattle.mz_words.specs.Turns.{answered}
use Rattle.mz_thread.proofs.Moves.{by, Change, unit_made, called, moved_on, stopped, tried_again, gave_up}
use Rattle.mz_thread.proofs.Steps.{in_code, found_in, works_change, frame_quiet, no_frame_saw, no_frame_miss, nothing_no, no_miss, no_miss_placed, no_miss_making, no_miss_taking, no_miss_spawning, closing_saw, not_saw}

-- ---- ends and stages that say nothing of the note

free_end : (c : Code) (t : Standing) (e : End) (last : Option Note) (entries : ℕ) → IsNotBlocked e → EndIsNoted c t e last entries
free_end c t (ending.Blocked p) last entries b = absurd b
free_end c t e last entries b = tt

free_stage : (c : Code) (t : Standing) (s : Stage) (units : ℕ) (last : Option Note) (entries : ℕ) → IsRunning s units → StageIsNoted c t s last entries
free_stage c t (Closing e) units last entries r = free_end c t e last (entries + 1) r
free_stage c t (Over e) units last entries r = absurd r
free_stage c t s units last entries r = tt

at_border : (c : Code) (t : Standing) (s : Stage) (last : Option Note) (entries : ℕ) → s ≡ Border → StageIsNoted c t s last entries
at_border c t s last entries e = subst (λ (x : Stage). StageIsNoted c t x last entries) (sym e) tt

-- an event that isn't a failed try comes to no end at a lock
free_change : (n : ℕ) (c : Code) (o : Options) (t : Standing) (a : Ask) (answer : Answer) (u : Standing) (last : Option Note) (entries : ℕ) → (answer ≡ Missed → ⊥) → Change n o t a answer u → StageIsNoted c u u.stage last entries
free_change n c o t a _ _ last entries m (unit_made k u x e b z r) = free_stage c u u.stage u.units last entries r
free_change n c o t a _ _ last entries m (called u h e b z s) = at_border c u u.stage last entries s
free_change n c o t a _ _ last entries m (moved_on u w e b z s) = at_border c u u.stage last entries s
free_change n c o t a _ _ last entries m (stopped answer e h b) = free_end c _ e last (entries + 1) b
free_change n c o t a _ _ last entries m (tried_again u e b z h s) = absurd (m refl)
free_change n c o t a _ _ last entries m (gave_up u p e q b z h s) = absurd (m refl)

-- ---- the last failed try

-- only an acquire tries
pub record Acquires (t : Standing) (x : Act) (a : Ask) : Type 0 where
  pub to : ℕ
  pub lock : ℕ
  pub act : x ≡ Acquire to lock
  pub tries : a ≡ Tries (reg t lock)

acquire_tries : (o : Options) (t : Standing) (to lock : ℕ) → (b d : Bool) → May (if b then Local else if d then Tries (reg t lock) else Nothing) Missed → Acquires t (Acquire to lock) (if b then Local else if d then Tries (reg t lock) else Nothing)
acquire_tries o t to lock true d m = absurd m
acquire_tries o t to lock false false m = absurd m
acquire_tries o t to lock false true m = record { to = to; lock = lock; act = refl; tries = refl }

tries_acquires : (c : Code) (o : Options) (t : Standing) (x : Act) → May (ask_act c o t x) Missed → Acquires t x (ask_act c o t x)
tries_acquires c o t (Acquire to lock) m = acquire_tries o t to lock (leb o.steps t.units) (ltb (reg t lock) o.heap) m
tries_acquires c o t (Const to value) m = absurd m
tries_acquires c o t (Copy to source) m = absurd m
tries_acquires c o t (Arith_act to op left right) m = absurd m
tries_acquires c o t (Branch test at_zero) m = absurd m
tries_acquires c o t (Jump target) m = absurd m
tries_acquires c o t (Return source) m = absurd m
tries_acquires c o t (New to con fields) m = absurd (no_miss o t _ (λ q. q) m)
tries_acquires c o t (NewLock to) m = absurd (no_miss o t _ (λ q. q) m)
tries_acquires c o t (Read to block con field) m = absurd (no_miss o t _ (no_miss_placed (ltb (reg t block + 2 + field) o.heap) _ (λ q. q)) m)
tries_acquires c o t (Write to block con field source) m = absurd (no_miss o t _ (no_miss_placed (ltb (reg t block + 2 + field) o.heap) _ (λ q. q)) m)
tries_acquires c o t (Retag to block old con) m = absurd (no_miss o t _ (no_miss_placed (ltb (reg t block) o.heap) _ (λ q. q)) m)
tries_acquires c o t (Switch block cons targets) m = absurd (no_miss o t _ (no_miss_placed (ltb (reg t block) o.heap) _ (λ q. q)) m)
tries_acquires c o t (Give to block adopter) m = absurd (no_miss o t _ (no_miss_placed (ltb (reg t block + 1) o.heap) _ (λ q. q)) m)
tries_acquires c o t (Take to block adopter) m = absurd (no_miss o t _ (no_miss_placed (ltb (reg t block + 1) o.heap) _ (λ q. q)) m)
tries_acquires c o t (Release to lock) m = absurd (no_miss o t _ (no_miss_placed (ltb (reg t lock) o.heap) _ (λ q. q)) m)
tries_acquires c o t (Print to source) m = absurd (no_miss o t _ (λ q. q) m)
tries_acquires c o t (Call to callee args) m = absurd (no_miss o t _ (no_miss_call t (callee_of c (reg t callee) (length args))) m)
  where
    no_miss_call : (t : Standing) (s : Option Start) → May (ask_call t s) Missed → ⊥
    no_miss_call t None q = q
    no_miss_call t (Some s) q = by (λ b. May (if b then Local else Frames s.registers) Missed → ⊥) (is_full t s) (λ e z. z) (λ e z. z) q
tries_acquires c o t (Spawn to callee arg) m = absurd (no_miss o t _ (no_miss_spawn (callee_of c (reg t callee) 1)) m)
  where
    no_miss_spawn : (s : Option Start) → May (ask_spawn s) Missed → ⊥
    no_miss_spawn None q = q
    no_miss_spawn (Some s) q = q

-- the try that was the last noted its lock
missed_noted : (c : Code) (o : Options) (t : Standing) (i : Instr) (w : WordsView) → slice_get c.instrs t.at ≡ Some i → Acquires t i.act (ask_act c o t i.act)
    → StageIsNoted c (missed_one o i.place t) (missed_one o i.place t).stage (answered (ask_act c o t i.act) Missed w).note (length (answered (ask_act c o t i.act) Missed w).part)
missed_noted c o t i w f x = subst (λ (a : Ask). StageIsNoted c (missed_one o i.place t) (missed_one o i.place t).stage (answered a Missed w).note (length (answered a Missed w).part)) (sym x.tries)
    (by (λ b. (let u : Standing = if b then record t { lost = t.lost + 1; stage = Closing (ending.Blocked i.place) } else record t { lost = t.lost + 1; stage = Border } in
    StageIsNoted c u u.stage (Some (record { place = reg t x.lock; made = length w.part })) (length w.part))) (t.lost + 1 == o.tries)
    (λ e. record { last = record { place = reg t x.lock; made = length w.part }; noted = refl; at_lock = record { instr = i; found = f; to = x.to; lock = x.lock; act = x.act; place = refl }; made = refl })
    (λ e. tt))

-- ---- an event

closing_noted : (c : Code) (t : Standing) (e : End) (m entries : ℕ) (w : WordsView) → EndIsNoted c t e w.note (length w.part + 1) → May (ask_closing e) (Saw m)
    → EndIsNoted c (record t { stage = Over e }) e (answered (ask_closing e) (Saw m) w).note (length (answered (ask_closing e) (Saw m) w).part)
closing_noted c t (ending.Blocked p) m entries w h y = record {
  last = h.last;
  noted = h.noted;
  at_lock = record { instr = h.at_lock.instr; found = h.at_lock.found; to = h.at_lock.to; lock = h.at_lock.lock; act = h.at_lock.act; place = h.at_lock.place };
  made = one_more w.part _ ∙ h.made;
}
  where
    one_more : (part : List Entry) (e : Entry) → length (part ++ e ∷ []) ≡ length part + 1
    one_more [] e = refl
    one_more (x ∷ part) e = let k = one_more part e in omega (arith, k)
closing_noted c t ending.Done m entries w h y = tt
closing_noted c t (ending.TakeFailed p) m entries w h y = tt
closing_noted c t (ending.Arith p) m entries w h y = tt
closing_noted c t (ending.HeapFull p) m entries w h y = tt
closing_noted c t (ending.ThreadsFull p) m entries w h y = tt
closing_noted c t (ending.StackFull p) m entries w h y = tt
closing_noted c t ending.Spent m entries w h y = tt
closing_noted c t ending.Halted m entries w h y = tt
closing_noted c t ending.NeverStarted m entries w h y = tt
closing_noted c t ending.Memory m entries w h y = tt

entered_noted : (c : Code) (k arg : ℕ) (x : Option Start) (t : Standing) (last : Option Note) (entries : ℕ) → IsFrame (ask_frame x) → StageIsNoted c (enters k arg x t) (enters k arg x t).stage last entries
entered_noted c k arg None t last entries f = absurd f
entered_noted c k arg (Some s) t last entries f = tt

saw_missed : {m : ℕ} → Saw m ≡ Missed → ⊥
saw_missed e = absurd (cc)

quiet_missed : ◌≡◌ {A = Answer} Quiet Missed → ⊥
quiet_missed e = absurd (cc)

refused_missed : ◌≡◌ {A = Answer} Refused Missed → ⊥
refused_missed e = absurd (cc)

noted_at : (n : ℕ) (c : Code) (o : Options) (k : ℕ) (t : Standing) (s : Stage) (a : Option Instr) (answer : Answer) (w : WordsView) → slice_get c.instrs t.at ≡ a → in_code a t.at n → IsForwardAt t.at a → LostWithin o s t.lost → StageWithin s t.units
    → StageIsNoted c t s w.note (length w.part) → May (ask_at c o k t s a) answer
    → StageIsNoted c (take_at c o k t s a answer) (take_at c o k t s a answer).stage (answered (ask_at c o k t s a) answer w).note (length (answered (ask_at c o k t s a) answer w).part)
noted_at n c o k t Idle a (Saw m) w q h f l g p y = tt
noted_at n c o k t Idle a Quiet w q h f l g p y = tt
noted_at n c o k t IdleStop a (Saw m) w q h f l g p y = tt
noted_at n c o k t IdleStop a Quiet w q h f l g p y = tt
noted_at n c o k t IdleLive a (Saw m) w q h f l g p y = tt
noted_at n c o k t IdleLive a Quiet w q h f l g p y = tt
noted_at n c o k t LoadFun a (Saw m) w q h f l g p y = tt
noted_at n c o k t (LoadArg e) a (Saw m) w q h f l g p y = tt
noted_at n c o k t (Entering e arg) a Quiet w q h f l g p y = entered_noted c k arg (callee_of c e (first_params k)) t _ _ (frame_quiet (callee_of c e (first_params k)) y)
noted_at n c o k t (Entering e arg) a Refused w q h f l g p y = tt
noted_at n c o k t (Entering e arg) a (Saw m) w q h f l g p y = absurd (no_frame_saw (callee_of c e (first_params k)) m y)
noted_at n c o k t (Entering e arg) a Missed w q h f l g p y = absurd (no_frame_miss (callee_of c e (first_params k)) y)
noted_at n c o k t (Closing e) a (Saw m) w q h f l g p y = closing_noted c t e m 0 w p y
noted_at n c o k t (Closing e) a Quiet w q h f l g p y = absurd (let z = closing_saw e Quiet y in not_saw Quiet (inl tt) z.1)
noted_at n c o k t (Closing e) a Missed w q h f l g p y = absurd (let z = closing_saw e Missed y in not_saw Missed (inr refl) z.1)
noted_at n c o k t (Closing e) a Refused w q h f l g p y = absurd (let z = closing_saw e Refused y in not_saw Refused (inl tt) z.1)
noted_at n c o k t Border (Some x) (Saw m) w q h f l g p y = tt
noted_at n c o k t Border (Some x) Quiet w q h f l g p y = tt
noted_at n c o k t Ready (Some i) Missed w q h f l g p y = missed_noted c o t i w q (tries_acquires c o t i.act y)
noted_at n c o k t Ready a (Saw m) w q h f l g p y = free_change n c o t _ (Saw m) _ _ _ saw_missed (works_change n c o k t Ready a (Saw m) tt h f l g y)
noted_at n c o k t Ready a Quiet w q h f l g p y = free_change n c o t _ Quiet _ w.note (length w.part) quiet_missed (works_change n c o k t Ready a Quiet tt h f l g y)
noted_at n c o k t Ready a Refused w q h f l g p y = free_change n c o t _ Refused _ w.note (length w.part) refused_missed (works_change n c o k t Ready a Refused tt h f l g y)
noted_at n c o k t (Making base j) (Some i) Missed w q h f l g p y = absurd (no_miss_making o t i.act base j y)
noted_at n c o k t (Making base j) a (Saw m) w q h f l g p y = free_change n c o t _ (Saw m) _ _ _ saw_missed (works_change n c o k t (Making base j) a (Saw m) tt h f l g y)
noted_at n c o k t (Making base j) a Quiet w q h f l g p y = free_change n c o t _ Quiet _ w.note (length w.part) quiet_missed (works_change n c o k t (Making base j) a Quiet tt h f l g y)
noted_at n c o k t (Making base j) a Refused w q h f l g p y = free_change n c o t _ Refused _ w.note (length w.part) refused_missed (works_change n c o k t (Making base j) a Refused tt h f l g y)
noted_at n c o k t Taking (Some i) Missed w q h f l g p y = absurd (no_miss_taking o t i.act y)
noted_at n c o k t Taking a (Saw m) w q h f l g p y = free_change n c o t _ (Saw m) _ _ _ saw_missed (works_change n c o k t Taking a (Saw m) tt h f l g y)
noted_at n c o k t Taking a Quiet w q h f l g p y = free_change n c o t _ Quiet _ w.note (length w.part) quiet_missed (works_change n c o k t Taking a Quiet tt h f l g y)
noted_at n c o k t Taking a Refused w q h f l g p y = free_change n c o t _ Refused _ w.note (length w.part) refused_missed (works_change n c o k t Taking a Refused tt h f l g y)
noted_at n c o k t (Spawning j x) (Some i) Missed w q h f l g p y = absurd (no_miss_spawning o t i.act j x y)
noted_at n c o k t (Spawning j x) a (Saw m) w q h f l g p y = free_change n c o t _ (Saw m) _ _ _ saw_missed (works_change n c o k t (Spawning j x) a (Saw m) tt h f l g y)
noted_at n c o k t (Spawning j x) a Quiet w q h f l g p y = free_change n c o t _ Quiet _ w.note (length w.part) quiet_missed (works_change n c o k t (Spawning j x) a Quiet tt h f l g y)
noted_at n c o k t (Spawning j x) a Refused w q h f l g p y = free_change n c o t _ Refused _ w.note (length w.part) refused_missed (works_change n c o k t (Spawning j x) a Refused tt h f l g y)
noted_at n c o k t Border None answer w q h f l g p y = absurd (nothing_no answer y)
noted_at n c o k t Unmatched a answer w q h f l g p y = absurd (nothing_no answer y)
noted_at n c o k t (Over x) a answer w q h f l g p y = absurd (nothing_no answer y)
noted_at n c o k t s a answer w q h f l g p y = absurd (y)

pub noted_next : (c : Code) (o : Options) (k : ℕ) (t u : Standing) (answer : Answer) (w v : WordsView) (spare : ℕ) → GoesForward c → Inside o t → IsNoted c t w.note (length w.part) → May (ask c o k t) answer → v ≡ record (answered (ask c o k t) answer w) { spare = spare } → u ≡ take_step c o k t answer
    → IsNoted c u v.note (length v.part)
unfolding ask take_step IsNoted
noted_next c o k t u answer w v spare f i p m a e = subst (λ (x : Standing). StageIsNoted c x x.stage v.note (length v.part)) (sym e)
    (subst (λ (x : WordsView). StageIsNoted c (take_at c o k t t.stage (slice_get c.instrs t.at) answer) (take_at c o k t t.stage (slice_get c.instrs t.at) answer).stage x.note (length x.part)) (sym a)
    (noted_at (length c.instrs) c o k t t.stage (slice_get c.instrs t.at) answer w refl (found_in c.instrs t.at) (f t.at) i.lost i.stage p m))
