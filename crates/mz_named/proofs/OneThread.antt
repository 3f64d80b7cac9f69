-- One thread of a list does what it is to do.
use Rattle.std.proofs.Common.{◌≡◌, ℕ, zero, suc, ◌+◌, ◌≤◌, List, [], ◌∷◌, ◌++◌, length, map, Some, Result, Ok, Err, IfOk, OnErr, refl, sym, ap, ◌∙◌, subst, slice_get, slice_set, get_or, arith}
use Rattle.std.proofs.lemmas.Option.{get_or_from_slice_get}
use Rattle.std.proofs.lemmas.List.{append-nil}
use Rattle.std.proofs.Math.Seq.{map-set_same}
use Rattle.mz_named.specs.Configurations.{Running}
use Rattle.mz_named.specs.Moving.{Turns, Starts, Settles}
use Rattle.mz_named.specs.View.{plain_frame, plain_thread}
use Rattle.mz_named.specs.declared.config.Value.{Value as CodeValue}
use Rattle.mz_named.specs.declared.config.Frame.{Frame as CodeFrame}
use Rattle.mz_named.specs.declared.config.Suspended.{Suspended as CodeSuspended}
use Rattle.mz_named.specs.declared.config.Thread.{Thread as CodeThread}
use Rattle.mz_named.specs.declared.plan.Plan.{Plan}
use Rattle.mz_named.specs.declared.plan.Plan.TheVariants as plan
use Rattle.mz_named.specs.declared.turn.NamedTurn.{NamedTurn}
use Rattle.mz_named.specs.declared.turn.NamedTurn.TheVariants as turn

-- what follows from an answer
pub if_ok : {A E : Type 0} (r : Result A E) (P Q : A → Type 0) → ((a : A) → P a → Q a) → IfOk r P → IfOk r Q
if_ok (Ok a) P Q f p = f a p
if_ok (Err e) P Q f p = p

pub on_err : {A E : Type 0} (r : Result A E) (P Q : Type 0) → (P → Q) → OnErr r P → OnErr r Q
on_err (Ok a) P Q f p = p
on_err (Err e) P Q f p = f p

-- what stands in a list stands there where more come
pub stays : {A : Type 0} (xs more : List A) (k : ℕ) (x : A) → slice_get xs k ≡ Some x → slice_get (xs ++ more) k ≡ Some x
stays [] more k x here = absurd (cc)
stays (y ∷ xs) more zero x here = here
stays (y ∷ xs) more (suc k) x here = stays xs more k x here

-- an element that is indexed is the one that stands there
pub indexed : {A : Type 0} (xs : List A) (k : ℕ) (x y : A) → y ≡ get_or xs k y → slice_get xs k ≡ Some x → y ≡ x
indexed xs k x y is here = is ∙ get_or_from_slice_get xs k x y here

-- also after one more came
pub indexed_on : {A : Type 0} (xs ys : List A) (more : A) (k : ℕ) (x y : A) → ys ≡ xs ++ more ∷ [] → y ≡ get_or ys k y → slice_get xs k ≡ Some x → y ≡ x
indexed_on xs ys more k x y longer is here = indexed ys k x y is (ap (λ l. slice_get l k) longer ∙ stays xs (more ∷ []) k x here)

none_starts : (p : Plan) → ((f : CodeFrame) (vs : List CodeValue) → p ≡ plan.Spawns f vs → ⊥) → Starts p []
none_starts (plan.Goes values) other = refl
none_starts plan.FailsArith other = refl
none_starts plan.FailsTake other = refl
none_starts (plan.Branches to rest) other = refl
none_starts (plan.Calls to frame) other = refl
none_starts (plan.Spawns frame values) other = absurd (other frame values refl)
none_starts (plan.Joins values) other = refl
none_starts (plan.Returns values) other = refl
none_starts plan.Ends other = refl
none_starts plan.Waits other = refl
none_starts plan.Wrong other = refl

module _ (threads : List CodeThread) (k : ℕ) (f : CodeFrame) (below : List CodeSuspended) where
  -- no thread comes but for a spawn
  pub settles_alone : (p : Plan) (t : CodeThread) (answer : NamedTurn) → ((g : CodeFrame) (vs : List CodeValue) → p ≡ plan.Spawns g vs → ⊥) → Turns f below p answer (plain_thread t) →
      Settles threads k f below p answer (slice_set threads k t)
  settles_alone p t answer other turns = record {
    thread = t;
    started = [];
    put = ap (λ l. slice_set l k t) (sym (append-nil threads));
    turns = turns;
    starts = none_starts p other;
  }

  -- a spawn
  pub settles_spawn : (g : CodeFrame) (vs : List CodeValue) (p : Plan) (t started : CodeThread) (threads' : List CodeThread) → p ≡ plan.Spawns g vs → threads' ≡ threads ++ started ∷ [] → plain_thread started ≡ Running (plain_frame g) [] →
      Turns f below (plan.Spawns g vs) turn.Stepped (plain_thread t) → Settles threads k f below p turn.Stepped (slice_set threads' k t)
  settles_spawn g vs p t started threads' is longer starts turns = record {
    thread = t;
    started = started ∷ [];
    put = ap (λ l. slice_set l k t) longer;
    turns = subst (λ q. Turns f below q turn.Stepped (plain_thread t)) (sym is) turns;
    starts = subst (λ q. Starts q (plain_thread started ∷ [])) (sym is) (ap (λ s. s ∷ []) starts);
  }

-- a thread that is as it was
pub same_threads : (threads : List CodeThread) (k : ℕ) (t old : CodeThread) → old ≡ get_or threads k old → plain_thread t ≡ plain_thread old → map plain_thread (slice_set threads k t) ≡ map plain_thread threads
same_threads threads k t old is same = map-set_same plain_thread threads k t old (same ∙ ap plain_thread is)

pub set_length : {A : Type 0} (xs : List A) (k : ℕ) (x : A) → length (slice_set xs k x) ≡ length xs
set_length [] k x = refl
set_length (y ∷ xs) zero x = refl
set_length (y ∷ xs) (suc k) x = ap suc (set_length xs k x)

pub at_most_one_more : {A : Type 0} (xs : List A) (k : ℕ) (x : A) → length (slice_set xs k x) ≤ length xs + 1
at_most_one_more xs k x = let same = set_length xs k x in omega (arith, same)
