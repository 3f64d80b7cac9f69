-- A step that changes what two owners have: thread and thread, thread and lock, thread and the place of an adopted block.
-- `Change` is what such a step has to show, and from it the invariant is kept.
use Rattle.std.proofs.Common.{◌≡◌, ◌⊎◌, inl, inr, ℕ, ◌<◌, Bool, false, List, Some, None, slice_get, sym, ◌∙◌, subst}
use Rattle.std.proofs.lemmas.Bool.{cases_eq}
use Rattle.mz_tree.specs.Plain.{Atoms, Named_type, Has_atom, list_of}
use Rattle.mz_tree.specs.Programs.{Program}
use Rattle.mz_decl.specs.Declarations.{decls_of}
use Rattle.mz_modes.specs.Affine.{IsMutable}
use Rattle.mz_named.specs.Configurations.{Value, Block_value, Cell, Block_cell, Lock_cell, Thread, Config}
use Rattle.mz_named.specs.Bodies.{Puts}
use Rattle.mz_resource.specs.Meaning.{Owned, OwnsNothing, Sight, Means, MeansAll}
use Rattle.mz_resource.specs.Frames.{ThreadHolding, ThreadIsHeld}
use Rattle.mz_resource.specs.Held.{Holding, sight, Held}
use Rattle.mz_resource.specs.Owners.{Owner, Of_thread, Of_adopted, Of_lock, IsFair, IsAdopted, IsPool}
use Rattle.mz_resource.proofs.Facts.{some_is, none_some}
use Rattle.mz_resource.proofs.Meaning.Staying.{Stays, means_stays, all_stay}
use Rattle.mz_resource.proofs.Threads.Stacks.{thread_stays}
use Rattle.mz_resource.proofs.Threads.Quiet.{at_only, at_it, at_others, thread_is}
use Rattle.mz_resource.proofs.Owners.Handing.{cases_owner, with_two, two_first, two_second, two_others}

-- what a step has to show: a and b are the owners that it changes
pub record Change (p : Program) (w w' : Config) (h : Holding) (H : Held p w h) (h' : Holding) (a b : Owner) (f g : Owned) : Type 0 where
  pub fair : IsFair (with_two a f b g H.own)
  pub real : (o : Owner) (t : ℕ) → 0 < with_two a f b g H.own o t → (c : Cell) × (w'.heap.at t ≡ Some c)
  -- what the other owners have stays
  pub stays : (o : Owner) → (o ≡ a → ⊥) → (o ≡ b → ⊥) → Stays (decls_of p) (sight w h) (sight w' h') (H.own o)
  pub adoptees : (x y u : ℕ) → IsAdopted (decls_of p) (sight w' h') x y u → ((Of_adopted x ≡ a → ⊥) × (Of_adopted x ≡ b → ⊥) × IsAdopted (decls_of p) (sight w h) x y u) ⊎ Means (decls_of p) (sight w' h') (Has_atom (Block_value x) (Named_type u)) (with_two a f b g H.own (Of_adopted x))
  pub locks : (l : ℕ) (q : Atoms Value) → w'.heap.at l ≡ Some (Lock_cell false) → h'.hides l ≡ Some q →
      ((Of_lock l ≡ a → ⊥) × (Of_lock l ≡ b → ⊥) × (w.heap.at l ≡ Some (Lock_cell false)) × (h.hides l ≡ Some q)) ⊎ MeansAll (decls_of p) (sight w' h') (list_of q) (with_two a f b g H.own (Of_lock l))
  pub tokens : (o : Owner) (l : ℕ) → w'.heap.at l ≡ Some (Lock_cell false) → with_two a f b g H.own o l ≡ 0
  pub free : (o : Owner) (t con y : ℕ) (vs : List Value) → 0 < with_two a f b g H.own o t → (o ≡ Of_adopted t → ⊥) → w'.heap.at t ≡ Some (Block_cell con (Some y) vs) → ⊥
  pub adopters : (x y con : ℕ) (vs : List Value) → w'.heap.at x ≡ Some (Block_cell con (Some y) vs) → IsPool (decls_of p) (sight w' h') y
  pub hidden : (l : ℕ) (q : Atoms Value) → h'.hides l ≡ Some q → (held : Bool) × (w'.heap.at l ≡ Some (Lock_cell held))
  pub clauses : (t u : ℕ) → h'.clause t ≡ Some u → IsMutable (decls_of p) u
  pub threads : (j : ℕ) (t : Thread) → slice_get w'.threads j ≡ Some t →
      ((Of_thread j ≡ a → ⊥) × (Of_thread j ≡ b → ⊥) × (slice_get w.threads j ≡ Some t) × (h'.thread j ≡ h.thread j)) ⊎ ThreadIsHeld (decls_of p) (sight w' h') t (h'.thread j) (with_two a f b g H.own (Of_thread j))
  pub none : (j : ℕ) → slice_get w'.threads j ≡ None → (Of_thread j ≡ a → ⊥) × (Of_thread j ≡ b → ⊥) × (slice_get w.threads j ≡ None)

pub change_held : (p : Program) (w w' : Config) (h : Holding) (H : Held p w h) (h' : Holding) (a b : Owner) (f g : Owned) → Change p w w' h H h' a b f g → Held p w' h'
change_held p w w' h H h' a b f g c = record {
  own = with_two a f b g H.own;
  heap = record {
    fair = c.fair;
    real = c.real;
    adoptees = λ x y u z. elim (c.adoptees x y u z) [
      | inl q ↦ subst (λ o. Means (decls_of p) (sight w' h') (Has_atom (Block_value x) (Named_type u)) o) (sym (two_others a b f g H.own (Of_adopted x) q.0 q.1)) (means_stays (decls_of p) (sight w h) (sight w' h') (H.heap.adoptees x y u q.2) (c.stays (Of_adopted x) q.0 q.1))
      | inr m ↦ m
    ];
    locks = λ l q e i. elim (c.locks l q e i) [
      | inl z ↦ subst (λ o. MeansAll (decls_of p) (sight w' h') (list_of q) o) (sym (two_others a b f g H.own (Of_lock l) z.0 z.1)) (all_stay (decls_of p) (sight w h) (sight w' h') (H.heap.locks l q z.2 z.3) (c.stays (Of_lock l) z.0 z.1))
      | inr m ↦ m
    ];
    tokens = c.tokens;
    free = c.free;
    adopters = c.adopters;
    hidden = c.hidden;
    clauses = c.clauses;
  };
  threads = λ j t e. elim (c.threads j t e) [
    | inl z ↦ subst (λ o. ThreadIsHeld (decls_of p) (sight w' h') t (h'.thread j) o) (sym (two_others a b f g H.own (Of_thread j) z.0 z.1))
        (subst (λ q. ThreadIsHeld (decls_of p) (sight w' h') t q (H.own (Of_thread j))) (sym z.3) (thread_stays (decls_of p) (sight w h) (sight w' h') t (h.thread j) (H.own (Of_thread j)) (c.stays (Of_thread j) z.0 z.1) (H.threads j t z.2)))
    | inr m ↦ m
  ];
  none = λ j e. let z = c.none j e in subst (λ (o : Owned). OwnsNothing o) (sym (two_others a b f g H.own (Of_thread j) z.0 z.1)) (H.none j z.2);
}

-- where thread k alone is another
module _ (p : Program) (w w' : Config) (h : Holding) (H : Held p w h) (k : ℕ) (t' : Thread) (q' : ThreadHolding) (S' : Sight) (b : Owner) (f g : Owned) (not_thread : (j : ℕ) → Of_thread j ≡ b → ⊥) (puts : Puts (slice_get w.threads) k t' (slice_get w'.threads)) (mine : ThreadIsHeld (decls_of p) S' t' q' f) where
  pub threads_else : (j : ℕ) (t : Thread) → slice_get w'.threads j ≡ Some t →
      ((Of_thread j ≡ Of_thread k → ⊥) × (Of_thread j ≡ b → ⊥) × (slice_get w.threads j ≡ Some t) × (at_only k q' h.thread j ≡ h.thread j)) ⊎ ThreadIsHeld (decls_of p) S' t (at_only k q' h.thread j) (with_two (Of_thread k) f b g H.own (Of_thread j))
  threads_else j t e = elim (cases_eq k j) [
    | inl q ↦ inr (subst (λ n. ThreadIsHeld (decls_of p) S' t (at_only k q' h.thread n) (with_two (Of_thread k) f b g H.own (Of_thread n))) q
        (subst (λ r. ThreadIsHeld (decls_of p) S' t r (with_two (Of_thread k) f b g H.own (Of_thread k))) (sym (at_it k q' h.thread))
        (subst (λ o. ThreadIsHeld (decls_of p) S' t q' o) (sym (two_first (Of_thread k) b f g H.own))
        (subst (λ z. ThreadIsHeld (decls_of p) S' z q' f) (some_is puts.put (subst (λ n. slice_get w'.threads n ≡ Some t) (sym q) e)) mine))))
    | inr n ↦ inl (λ z. n (sym (thread_is z)), not_thread j, sym (puts.others j (λ z. n (sym z))) ∙ e, at_others k j q' h.thread n)
  ]

  pub none_else : (j : ℕ) → slice_get w'.threads j ≡ None → (Of_thread j ≡ Of_thread k → ⊥) × (Of_thread j ≡ b → ⊥) × (slice_get w.threads j ≡ None)
  none_else j e = elim (cases_eq k j) [
    | inl q ↦ absurd (none_some e (subst (λ n. slice_get w'.threads n ≡ Some t') q puts.put))
    | inr n ↦ (λ z. n (sym (thread_is z)), not_thread j, sym (puts.others j (λ z. n (sym z))) ∙ e)
  ]

-- who has something afterwards
pub who_has : (own : Owner → Owned) (a b : Owner) (f g : Owned) (P : Owner → ℕ → Type 0) → ((t : ℕ) → 0 < f t → P a t) → ((t : ℕ) → 0 < g t → P b t) → ((o : Owner) (t : ℕ) → (o ≡ a → ⊥) → (o ≡ b → ⊥) → 0 < own o t → P o t) → (a ≡ b → ⊥) → (o : Owner) (t : ℕ) → 0 < with_two a f b g own o t → P o t
who_has own a b f g P pa pb po d o t l = elim (cases_owner o a) [
  | inl e ↦ subst (λ x. P x t) (sym e) (pa t (subst (λ (z : Owned). 0 < z t) (two_first a b f g own) (subst (λ x. 0 < with_two a f b g own x t) e l)))
  | inr n ↦ elim (cases_owner o b) [
    | inl e ↦ subst (λ x. P x t) (sym e) (pb t (subst (λ (z : Owned). 0 < z t) (two_second a b f g own d) (subst (λ x. 0 < with_two a f b g own x t) e l)))
    | inr m ↦ po o t n m (subst (λ (z : Owned). 0 < z t) (two_others a b f g own o n m) l)
  ]
]
