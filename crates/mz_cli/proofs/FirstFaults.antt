-- The first fault of a list is one, and so is the first place of all.
use Rattle.std.proofs.Common.{◌≡◌, inl, inr, ℕ, List, [], Some, None, refl, sym, ap, ap₂, ◌∙◌, slice_get, arith}
use Rattle.std.proofs.Math.Nat.{le_antisymm}
use Rattle.mz_tree.specs.declared.types.Place.{Place}
use Rattle.mz_scope.specs.Faults.{rank, IsNotAfter, IsFirst}
use Rattle.mz_decl.specs.Places as places
use Rattle.mz_cli.proofs.Settling.{IsDecided}

-- a place is known by its line and its column
same_place : (p q : Place) → p.line ≡ q.line → p.col ≡ q.col → p ≡ q
same_place p q line col = ap₂ (λ (l c : ℕ). record { line = l; col = c }) line col

-- two places of which neither is after the other
one_place : (p q : Place) → places.IsNotAfter p q → places.IsNotAfter q p → p ≡ q
one_place p q (inl a) (inl b) = absurd (omega (arith, a, b))
one_place p q (inl a) (inr b) = let line = b.0 in absurd (omega (arith, a, line))
one_place p q (inr a) (inl b) = let line = a.0 in absurd (omega (arith, line, b))
one_place p q (inr a) (inr b) = same_place p q a.0 (le_antisymm a.1 b.1)

-- what stands first at a place stands first at no other, and elsewhere it doesn't stand at no place
pub first_place : {B : Type 0} (Stands : Place → Type 0) (answer_of : Place → B) → IsDecided (λ place. places.IsFirst Stands (Some place)) (λ (none : Unit {0}). places.IsFirst Stands None) answer_of
first_place Stands answer_of = record {
  one_answer = λ p q a b. ap answer_of (one_place p q (a.1 q b.0) (b.1 p a.0));
  one_value = λ a b none other. refl;
  apart = λ p none a never. never p a.0;
}

-- two faults of which neither is after the other have one place and one rank
one_rank : (a b : _) → IsNotAfter a b → IsNotAfter b a → (a.place ≡ b.place) × (rank a.cause ≡ rank b.cause)
one_rank a b (inl p) (inl q) = absurd (omega (arith, p, q))
one_rank a b (inl p) (inr q) = let line = q.0 in absurd (omega (arith, p, line))
one_rank a b (inr p) (inl q) = let line = p.0 in absurd (omega (arith, line, q))
one_rank a b (inr (line, inl p)) (inr (same, inl q)) = absurd (omega (arith, p, q))
one_rank a b (inr (line, inl p)) (inr (same, inr q)) = let col = q.0 in absurd (omega (arith, p, col))
one_rank a b (inr (line, inr p)) (inr (same, inl q)) = let col = p.0 in absurd (omega (arith, col, q))
one_rank a b (inr (line, inr p)) (inr (same, inr q)) = (same_place a.place b.place line p.0, le_antisymm p.1 q.1)

-- the first fault of a list has one rank and one place, and a list without faults has no first
pub first_fault : {B : Type 0} (faults : List _) (answer : ℕ → Place → B) → IsDecided (λ fault. IsFirst faults fault) (λ (none : Unit {0}). faults ≡ []) (λ fault. answer (rank fault.cause) fault.place)
first_fault faults answer = record {
  one_answer = λ f g a b. let same = one_rank f g (a.before b.number g b.stands) (b.before a.number f a.stands) in ap₂ answer same.1 same.0;
  one_value = λ a b none other. refl;
  apart = λ f none a clean. let found : None ≡ Some f = sym (ap (λ l. slice_get l a.number) clean) ∙ a.stands in absurd (cc);
}
