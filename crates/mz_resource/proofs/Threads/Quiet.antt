-- A step of one thread that leaves the heap as it is: the invariant is kept where the thread owns no more than before, and what it
-- holds then means what it says. View steps, branches, calls, returns and seven of the commands are such steps.
use Rattle.std.specs.Prelude.{if◌then◌else◌}
use Rattle.std.proofs.Common.{◌≡◌, ◌⊎◌, inl, inr, ℕ, ◌<◌, ◌≤◌, nat_eq, List, Option, Some, None, slice_get, refl, sym, ◌∙◌, subst, arith}
use Rattle.std.proofs.lemmas.Bool.{cases_eq}
use Rattle.std.proofs.lemmas.Bool.Decides.{nat_tests}
use Rattle.mz_tree.specs.Programs.{Program}
use Rattle.mz_decl.specs.Declarations.{Decls, decls_of}
use Rattle.mz_modes.specs.Affine.{IsMutable, IsMutableCon}
use Rattle.mz_named.specs.Configurations.{Value, Cell, Block_cell, Thread, Config}
use Rattle.mz_named.specs.Bodies.{Puts, Keeps}
use Rattle.mz_named.specs.Operations.{IsBlock}
use Rattle.mz_resource.specs.Meaning.{Owned, OwnsNothing, Sight}
use Rattle.mz_resource.specs.Frames.{ThreadHolding, ThreadIsHeld}
use Rattle.mz_resource.specs.Held.{Holding, sight, Held}
use Rattle.mz_resource.specs.Owners.{Owner, Of_thread, Of_adopted, Of_lock, IsAdopted, IsPool, HeapIsHeld}
use Rattle.mz_resource.proofs.Facts.{some_is, none_some, zero_by}
use Rattle.mz_resource.proofs.Meaning.Staying.{Stays, means_stays, all_stay}
use Rattle.mz_resource.proofs.Meaning.Inverse.{cell_con}
use Rattle.mz_resource.proofs.Threads.Stacks.{thread_stays}
use Rattle.mz_resource.specs.Following.{OthersStay}

pub thread_is : {j k : ℕ} → Of_thread j ≡ Of_thread k → j ≡ k
thread_is e = cc

pub adopted_not : {x k : ℕ} → Of_adopted x ≡ Of_thread k → ⊥
adopted_not e = cc

pub lock_not : {x k : ℕ} → Of_lock x ≡ Of_thread k → ⊥
lock_not e = cc

-- a family with another member at k
abbrev pub at_only : {A : Type 0} → ℕ → A → (ℕ → A) → ℕ → A
at_only k x f m = if nat_eq k m then x else f m

pub at_it : {A : Type 0} (k : ℕ) (x : A) (f : ℕ → A) → at_only k x f k ≡ x
at_it k x f = grind (arith, nat_tests)

pub at_others : {A : Type 0} (k m : ℕ) (x : A) (f : ℕ → A) → (k ≡ m → ⊥) → at_only k x f m ≡ f m
at_others k m x f h = grind (arith, nat_tests)

-- what each owns after what thread k owns changed
abbrev pub owning : ℕ → Owned → (Owner → Owned) → Owner → Owned
owning k g own (Of_thread j) = at_only k g (λ m. own (Of_thread m)) j
owning k g own (Of_adopted x) = own (Of_adopted x)
owning k g own (Of_lock l) = own (Of_lock l)

pub owning_less : (k : ℕ) (g : Owned) (own : Owner → Owned) → ((t : ℕ) → g t ≤ own (Of_thread k) t) → (o : Owner) (t : ℕ) → owning k g own o t ≤ own o t
owning_less k g own le (Of_thread j) t = elim (cases_eq k j) [ inl e ↦ subst (λ n. at_only k g (λ m. own (Of_thread m)) n t ≤ own (Of_thread n) t) e (rw (at_it k g (λ m. own (Of_thread m))) (le t)) | inr e ↦ rw (at_others k j g (λ m. own (Of_thread m)) e) (omega arith) ]
owning_less k g own le (Of_adopted x) t = omega arith
owning_less k g own le (Of_lock l) t = omega arith

-- clauses change only where there was none, of blocks that thread k owns
abbrev pub ClausesChange : Decls → (ℕ → Option ℕ) → (ℕ → Option ℕ) → Owned → Type 0
ClausesChange D old new f = (b : ℕ) → (new b ≡ old b) ⊎ ((0 < f b) × (old b ≡ None) × ((u : ℕ) → new b ≡ Some u → IsMutable D u))

pub clauses_stay : (D : Decls) (c : ℕ → Option ℕ) (f : Owned) → ClausesChange D c c f
clauses_stay D c f b = inl refl

-- what another owner has stays
pub sight_stays : (D : Decls) (S : Sight) (at' : ℕ → Option Cell) (clause' : ℕ → Option ℕ) (f g : Owned) → Keeps S.at at' → ClausesChange D S.clause clause' f → ((b : ℕ) → 0 < f b → g b ≡ 0) → Stays D S (record { at = at'; clause = clause'; hides = S.hides }) g
sight_stays D S at' clause' f g same change apart = record {
  fixed = λ b con vs i m. record { adopter = m.adopter; made = same b ∙ m.made };
  made = λ b con vs m. (con, vs, record { adopter = m.adopter; made = same b ∙ m.made });
  owned = λ b con vs l m. (record { adopter = m.adopter; made = same b ∙ m.made }, elim (change b) [ inl e ↦ e | inr c ↦ absurd (let z = apart b c.0 in omega (arith, z, l)) ]);
  locked = λ l h e. same l ∙ e;
  hides = λ l p e. e;
}

module _ (p : Program) (w w' : Config) (h : Holding) (H : Held p w h) (k : ℕ) (t' : Thread) (q' : ThreadHolding) (g : Owned) (clause' : ℕ → Option ℕ)
    (same : Keeps w.heap.at w'.heap.at) (puts : Puts (slice_get w.threads) k t' (slice_get w'.threads)) (less : (t : ℕ) → g t ≤ H.own (Of_thread k) t)
    (change : ClausesChange (decls_of p) h.clause clause' (H.own (Of_thread k))) where
  abbrev D : Decls
  D = decls_of p

  abbrev pub after : Holding
  after = record { clause = clause'; hides = h.hides; thread = at_only k q' h.thread }

  abbrev owns : Owner → Owned
  owns = owning k g H.own

  le : (o : Owner) (t : ℕ) → owns o t ≤ H.own o t
  le = owning_less k g H.own less

  stays : (o : Owner) → (o ≡ Of_thread k → ⊥) → Stays D (sight w h) (sight w' after) (H.own o)
  stays o n = sight_stays D (sight w h) w'.heap.at clause' (H.own (Of_thread k)) (H.own o) same change (λ b l. zero_by (H.own o b) (λ m. n (H.heap.fair.apart o (Of_thread k) b m l)))

  block_back : (b con : ℕ) (vs : List Value) → IsBlock w'.heap.at b con vs → IsBlock w.heap.at b con vs
  block_back b con vs m = record { adopter = m.adopter; made = sym (same b) ∙ m.made }

  -- an adopter that is mutable had its clause
  no_change : (y con : ℕ) (vs : List Value) → IsPool D (sight w h) y → IsBlock w.heap.at y con vs → IsMutableCon D con → clause' y ≡ h.clause y
  no_change y con vs pool m mutable = elim (change y) [
    | inl e ↦ e
    | inr c ↦ absurd (pool.adopts (subst (λ n. IsMutableCon D n) (cell_con m.made pool.made.made) mutable) c.1)
  ]

  adopted_back : (x y u : ℕ) → IsAdopted D (sight w' after) x y u → IsAdopted D (sight w h) x y u
  adopted_back x y u a =
      let was : w.heap.at x ≡ Some (Block_cell a.con (Some y) a.fields) = sym (same x) ∙ a.adopted in
      let pool = block_back y a.other a.more a.pool in
      record { con = a.con; fields = a.fields; adopted = was; other = a.other; more = a.more; pool = pool; mutable = a.mutable; adopts = sym (no_change y a.other a.more (H.heap.adopters x y a.con a.fields was) pool a.mutable) ∙ a.adopts }

  heap : HeapIsHeld D (sight w' after) owns
  heap = record {
    fair = record {
      once = λ o t. (let a = le o t in let b = H.heap.fair.once o t in omega arith);
      apart = λ o q t a b. H.heap.fair.apart o q t (let c = le o t in omega arith) (let c = le q t in omega arith);
    };
    real = λ o t l. let r = H.heap.real o t (let c = le o t in omega arith) in (r.0, same t ∙ r.1);
    adoptees = λ x y u a. means_stays D (sight w h) (sight w' after) (H.heap.adoptees x y u (adopted_back x y u a)) (stays (Of_adopted x) adopted_not);
    locks = λ l p e hid. all_stay D (sight w h) (sight w' after) (H.heap.locks l p (sym (same l) ∙ e) hid) (stays (Of_lock l) lock_not);
    tokens = λ o l e. (let a = le o l in let b = H.heap.tokens o l (sym (same l) ∙ e) in omega arith);
    free = λ o b con y vs l n e. H.heap.free o b con y vs (let c = le o b in omega arith) n (sym (same b) ∙ e);
    adopters = λ x y con vs e. (let r = H.heap.adopters x y con vs (sym (same x) ∙ e) in record {
      con = r.con;
      fields = r.fields;
      made = record { adopter = r.made.adopter; made = same y ∙ r.made.made };
      adopts = λ m z. r.adopts m (sym (no_change y r.con r.fields r r.made m) ∙ z);
    });
    hidden = λ l p e. let r = H.heap.hidden l p e in (r.0, same l ∙ r.1);
    clauses = λ b u e. elim (change b) [ inl q ↦ H.heap.clauses b u (sym q ∙ e) | inr q ↦ q.2 u e ];
  }

  pub quiet_held : ThreadIsHeld D (sight w' after) t' q' g → Held p w' after
  quiet_held mine = record { own = owns; heap = heap; threads = threads; none = none }
    where
      threads : (j : ℕ) (t : Thread) → slice_get w'.threads j ≡ Some t → ThreadIsHeld D (sight w' after) t (at_only k q' h.thread j) (at_only k g (λ m. H.own (Of_thread m)) j)
      threads j t e = elim (cases_eq k j) [
        | inl q ↦ subst (λ n. ThreadIsHeld D (sight w' after) t (at_only k q' h.thread n) (at_only k g (λ m. H.own (Of_thread m)) n)) q
            (subst (λ r. ThreadIsHeld D (sight w' after) t r (at_only k g (λ m. H.own (Of_thread m)) k)) (sym (at_it k q' h.thread))
            (subst (λ o. ThreadIsHeld D (sight w' after) t q' o) (sym (at_it k g (λ m. H.own (Of_thread m))))
            (subst (λ z. ThreadIsHeld D (sight w' after) z q' g) (some_is puts.put (subst (λ n. slice_get w'.threads n ≡ Some t) (sym q) e)) mine)))
        | inr n ↦ subst (λ r. ThreadIsHeld D (sight w' after) t r (at_only k g (λ m. H.own (Of_thread m)) j)) (sym (at_others k j q' h.thread n))
            (subst (λ o. ThreadIsHeld D (sight w' after) t (h.thread j) o) (sym (at_others k j g (λ m. H.own (Of_thread m)) n))
            (thread_stays D (sight w h) (sight w' after) t (h.thread j) (H.own (Of_thread j)) (stays (Of_thread j) (λ z. n (sym (thread_is z)))) (H.threads j t (sym (puts.others j (λ z. n (sym z))) ∙ e))))
      ]

      none : (j : ℕ) → slice_get w'.threads j ≡ None → OwnsNothing (at_only k g (λ m. H.own (Of_thread m)) j)
      none j e = elim (cases_eq k j) [
        | inl q ↦ absurd (none_some e (subst (λ n. slice_get w'.threads n ≡ Some t') q puts.put))
        | inr n ↦ subst (λ o. OwnsNothing o) (sym (at_others k j g (λ m. H.own (Of_thread m)) n)) (H.none j (sym (puts.others j (λ z. n (sym z))) ∙ e))
      ]

-- a holding that goes on with another one for thread k, and is held
abbrev pub Onward : Program → Config → Holding → ℕ → ThreadHolding → Type 0
Onward p w' h k q' = (h' : Holding) × Held p w' h' × ((m : ℕ) → h'.thread m ≡ at_only k q' h.thread m)

-- what is so of thread k's holding then
pub onward : (p : Program) (w' : Config) (h : Holding) (k : ℕ) (P : ThreadHolding → Type 0) (q' : ThreadHolding) → P q' → Onward p w' h k q' → (h' : Holding) × (P (h'.thread k) × OthersStay k h h') × Held p w' h'
onward p w' h k P q' is o = (o.0, (subst P (sym (o.2 k ∙ at_it k q' h.thread)) is, λ m n. o.2 m ∙ at_others k m q' h.thread (λ e. n (sym e))), o.1)
