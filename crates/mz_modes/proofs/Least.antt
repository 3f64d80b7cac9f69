-- The marks reach the least set.
use Rattle.std.proofs.lemmas.Bool.{cases_eq}
use Rattle.std.proofs.lemmas.Option.{slice_get_within}
use Rattle.std.proofs.Common.{◌≡◌, ◌⊎◌, inl, inr, ℕ, zero, suc, ◌+◌, ◌<◌, Bool, true, false, List, [], ◌∷◌, length, Some, slice_get, slice_set, refl, sym, ap, ◌∙◌, subst, arith}
use Rattle.mz_tree.specs.Plain.{Ty, Atom, Int_type, Unknown_type, Dynamic_type, Locked_type, Named_type, Function_type, Block_type, Lock_type, Has_atom, Same_atom}
use Rattle.mz_tree.specs.Programs.{Con, Field}
use Rattle.mz_decl.specs.Declarations.{Decls}
use Rattle.mz_modes.specs.Affine.{HasContent, Affine, Is_mutable, Holds_named, Holds_block, Holds_locked}
use Rattle.mz_modes.specs.Marks.{MarkedTy, Marked, AnyMarked, unmarked, AreMutableCons, IsRound, IsClosedBelow, Rounds, Marks}

-- a field with a marked content is among the fields
any_in : (cons marks : List Bool) (a : Atom ℕ) (p : List Field) → HasContent a p → Marked cons marks a → AnyMarked cons marks p
any_in cons marks a [] i m = absurd i
any_in cons marks a (f ∷ p) (inl e) m = inl (subst (λ x. Marked cons marks x) (sym e) m)
any_in cons marks a (f ∷ p) (inr i) m = inr (any_in cons marks a p i m)

-- a closed set of marks has each affine data type, by induction on why it is affine
pub all_marked : (D : Decls) (cons marks : List Bool) (r : IsRound D marks) (m : AreMutableCons D cons) → IsClosedBelow (length D.cons) D cons marks → (d : ℕ) → Affine D d → slice_get marks d ≡ Some true
all_marked D cons marks r m closed _ (Is_mutable d t) = r.base d t
all_marked D cons marks r m closed _ (Holds_named k x d c e h a) = closed k c (slice_get_within D.cons k c e) e (any_in cons marks _ c.fields h (all_marked D cons marks r m closed d a))
all_marked D cons marks r m closed _ (Holds_block k x con ys u c e h a) = closed k c (slice_get_within D.cons k c e) e (any_in cons marks _ c.fields h (m.all con a))
all_marked D cons marks r m closed _ (Holds_locked k x c e h) = closed k c (slice_get_within D.cons k c e) e (any_in cons marks _ c.fields h tt)

-- a field that is affine by sound marks makes its data type affine
affine_by : (D : Decls) (cons marks : List Bool) (k : ℕ) (c : Con) (x : ℕ) (t : Ty ℕ) → AreMutableCons D cons → IsRound D marks → slice_get D.cons k ≡ Some c → HasContent (Has_atom x t) c.fields → MarkedTy cons marks t → Affine D c.variety
affine_by D cons marks k c x Locked_type m r e h y = Holds_locked k x c e h
affine_by D cons marks k c x (Named_type d) m r e h y = Holds_named k x d c e h (r.sound d y)
affine_by D cons marks k c x (Block_type con ys u) m r e h y = Holds_block k x con ys u c e h (m.yes con y)
affine_by D cons marks k c x Int_type m r e h y = absurd y
affine_by D cons marks k c x Unknown_type m r e h y = absurd y
affine_by D cons marks k c x Dynamic_type m r e h y = absurd y
affine_by D cons marks k c x (Function_type s) m r e h y = absurd y
affine_by D cons marks k c x (Lock_type p) m r e h y = absurd y

-- the same for the content of a field, by cases on the permission
affine_content : (D : Decls) (cons marks : List Bool) (k : ℕ) (c : Con) (a : Atom ℕ) → AreMutableCons D cons → IsRound D marks → slice_get D.cons k ≡ Some c → HasContent a c.fields → Marked cons marks a → Affine D c.variety
affine_content D cons marks k c (Has_atom x t) m r e h y = affine_by D cons marks k c x t m r e h y
affine_content D cons marks k c (Same_atom x z) m r e h y = absurd y

-- and for one of the fields
affine_any : (D : Decls) (cons marks : List Bool) (k : ℕ) (c : Con) (p : List Field) → AreMutableCons D cons → IsRound D marks → slice_get D.cons k ≡ Some c → ((a : Atom ℕ) → HasContent a p → HasContent a c.fields) → AnyMarked cons marks p → Affine D c.variety
affine_any D cons marks k c [] m r e h y = absurd y
affine_any D cons marks k c (f ∷ p) m r e h (inl y) = affine_content D cons marks k c f.content m r e (h _ (inl refl)) y
affine_any D cons marks k c (f ∷ p) m r e h (inr y) = affine_any D cons marks k c p m r e (λ b i. h b (inr i)) y

-- one more mark leaves fewer without
unmarked_set : (marks : List Bool) (n : ℕ) → slice_get marks n ≡ Some false → unmarked (slice_set marks n true) < unmarked marks
unmarked_set [] n e = absurd (cc)
unmarked_set (true ∷ marks) zero e = absurd (cc)
unmarked_set (false ∷ marks) zero e = omega arith
unmarked_set (true ∷ marks) (suc n) e = unmarked_set marks n e
unmarked_set (false ∷ marks) (suc n) e = omega (arith, unmarked_set marks n e)

set_length : (marks : List Bool) (n : ℕ) → length (slice_set marks n true) ≡ length marks
set_length [] n = refl
set_length (b ∷ marks) zero = refl
set_length (b ∷ marks) (suc n) = ap suc (set_length marks n)

-- a mark after is a mark before, or the new one
set_cases : (marks : List Bool) (n d : ℕ) → slice_get (slice_set marks n true) d ≡ Some true → (slice_get marks d ≡ Some true) ⊎ (d ≡ n)
set_cases [] n d e = inl e
set_cases (b ∷ marks) zero zero e = inr refl
set_cases (b ∷ marks) zero (suc d) e = inl e
set_cases (b ∷ marks) (suc n) zero e = inl e
set_cases (b ∷ marks) (suc n) (suc d) e = elim (set_cases marks n d e) [ inl h ↦ inl h | inr h ↦ inr (ap suc h) ]

set_keeps : (marks : List Bool) (n d : ℕ) → slice_get marks d ≡ Some true → slice_get (slice_set marks n true) d ≡ Some true
set_keeps [] n d e = e
set_keeps (b ∷ marks) zero zero e = refl
set_keeps (b ∷ marks) zero (suc d) e = e
set_keeps (b ∷ marks) (suc n) zero e = e
set_keeps (b ∷ marks) (suc n) (suc d) e = set_keeps marks n d e

-- a new mark is sound, since a field of the constructor is affine
pub round_set : (D : Decls) (cons marks after : List Bool) (k : ℕ) (c : Con) → AreMutableCons D cons → IsRound D marks → slice_get D.cons k ≡ Some c → Marks true c cons marks after → IsRound D after
round_set D cons marks after k c m r e y = subst (λ l. IsRound D l) (sym y.2) (record {
  sound = λ d h. elim (set_cases marks c.variety d h) [ inl g ↦ r.sound d g | inr g ↦ subst (Affine D) (sym g) (affine_any D cons marks k c c.fields m r e (λ a i. i) y.0) ];
  long = set_length marks c.variety ∙ r.long;
  base = λ d t. set_keeps marks c.variety d (r.base d t);
})

-- a round with a new mark leaves fewer without
pub rounds_set : (b : Bool) (D : Decls) (cons old marks after : List Bool) (n : ℕ) (c : Con) → Rounds b n D cons old marks → Marks true c cons marks after → Rounds true (n + 1) D cons old after
rounds_set true D cons old marks after n c r k = let s = unmarked_set marks c.variety k.1 in subst (λ l. unmarked l < unmarked old) (sym k.2) (omega arith)
rounds_set false D cons old marks after n c r k = let s = unmarked_set marks c.variety k.1 in subst (λ l. unmarked l < unmarked old) (sym k.2) (subst (λ l. unmarked (slice_set marks c.variety true) < unmarked l) r.0 s)

some_con : (a b : Con) → Some a ≡ Some b → a ≡ b
some_con a b e = cc

closed_next : (D : Decls) (cons marks : List Bool) (n : ℕ) (c : Con) → slice_get D.cons n ≡ Some c → IsClosedBelow n D cons marks → (AnyMarked cons marks c.fields → slice_get marks c.variety ≡ Some true) → IsClosedBelow (n + 1) D cons marks
closed_next D cons marks n c e closed y k d h g a = elim (cases_eq k n) [
  | inl s ↦ (let p : c ≡ d = some_con c d (sym e ∙ subst (λ j. slice_get D.cons j ≡ Some d) s g) in subst (λ (x : Con). AnyMarked cons marks x.fields → slice_get marks x.variety ≡ Some true) p y a)
  | inr s ↦ closed k d (omega arith) g a
]

-- a constructor that adds no mark
pub rounds_kept : (b : Bool) (D : Decls) (cons old marks after : List Bool) (n : ℕ) (c : Con) → slice_get D.cons n ≡ Some c → Rounds b n D cons old marks → Marks false c cons marks after → Rounds b (n + 1) D cons old after
rounds_kept true D cons old marks after n c e r k = subst (λ l. unmarked l < unmarked old) (sym k.0) r
rounds_kept false D cons old marks after n c e r k = (k.0 ∙ r.0, closed_next D cons old n c e r.1 (subst (λ l. AnyMarked cons l c.fields → slice_get l c.variety ≡ Some true) r.0 k.1))
