-- Permissions that are put into a state, one in front of the other.
use Rattle.std.proofs.Common.{◌≡◌, ◌≤◌, ◌<◌, ℕ, zero, suc, List, [], ◌∷◌, ◌++◌, length, take, drop, slice_set, refl, sym, ap, ◌∙◌, append_assoc, arith}
use Rattle.std.proofs.lemmas.List.{take-append-drop, length-take-le, length-append, map-append}
use Rattle.std.proofs.Math.Seq.{take-append_seam, drop-append_seam}
use Rattle.std.specs.List.{remove}
use Rattle.mz_tree.specs.View.{plain_atom, plain_atoms}
use Rattle.mz_tree.specs.declared.types.Atom.{Atom as CodeAtom}

-- so far the last of the new ones stand from place p on, and these are left
pub record Inserting {A : Type 0} (R new : List A) (p : ℕ) (left S : List A) : Type 0 where
  pub front : take p S ≡ take p R
  pub rest : left ++ drop p S ≡ new ++ drop p R
  pub within : p ≤ length S

-- a list is cut where its front ends
pub take_seam : {A : Type 0} (p : ℕ) (xs ys : List A) → length xs ≡ p → take p (xs ++ ys) ≡ xs
take_seam p xs ys e = ap (λ k. take k (xs ++ ys)) (sym e) ∙ take-append_seam xs ys

pub drop_seam : {A : Type 0} (p : ℕ) (xs ys : List A) → length xs ≡ p → drop p (xs ++ ys) ≡ ys
drop_seam p xs ys e = ap (λ k. drop k (xs ++ ys)) (sym e) ∙ drop-append_seam xs ys

-- the last of those that are left goes in
pub inserting_next : {A : Type 0} (R new : List A) (p : ℕ) (left less S T : List A) (a : A) → Inserting R new p left S → left ≡ less ++ a ∷ [] → T ≡ take p S ++ a ∷ drop p S → Inserting R new p less T
inserting_next R new p left less S T a i e t =
    let long = length-take-le p S i.within in
    record {
      front = ap (take p) t ∙ take_seam p (take p S) (a ∷ drop p S) long ∙ i.front;
      rest = ap (λ l. less ++ drop p l) t ∙ ap (λ l. less ++ l) (drop_seam p (take p S) (a ∷ drop p S) long) ∙ sym (append_assoc less (a ∷ []) (drop p S)) ∙ ap (λ l. l ++ drop p S) (sym e) ∙ i.rest;
      within = let h = ap length t ∙ length-append (take p S) (a ∷ drop p S) in omega (arith, h, long);
    }

-- where none is left all are in
pub inserted : {A : Type 0} (R new : List A) (p : ℕ) (left S : List A) → Inserting R new p left S → left ≡ [] → S ≡ take p R ++ new ++ drop p R
inserted R new p left S i e = sym (take-append-drop p S) ∙ ap (λ l. l ++ drop p S) i.front ∙ ap (λ l. take p R ++ l) (ap (λ l. l ++ drop p S) (sym e) ∙ i.rest) ∙ sym (append_assoc (take p R) new (drop p R))

-- what was taken out at a place leaves its front and what stood behind it
pub take_removed : {A : Type 0} (xs : List A) (p : ℕ) → p < length xs → take p (remove xs p) ≡ take p xs
take_removed xs p h = take_seam p (take p xs) (drop (suc p) xs) (length-take-le p xs (omega (arith, h)))

pub drop_removed : {A : Type 0} (xs : List A) (p : ℕ) → p < length xs → drop p (remove xs p) ≡ drop (suc p) xs
drop_removed xs p h = drop_seam p (take p xs) (drop (suc p) xs) (length-take-le p xs (omega (arith, h)))

-- another in its place
pub set_removed : {A : Type 0} (xs : List A) (p : ℕ) (a : A) → p < length xs → take p (remove xs p) ++ a ∷ drop p (remove xs p) ≡ slice_set xs p a
set_removed {A = A} xs p a h = ap (λ l. l ++ a ∷ drop p (remove xs p)) (take_removed xs p h) ∙ ap (λ l. take p xs ++ a ∷ l) (drop_removed xs p h) ∙ in_place xs p h
  where
    in_place : (ys : List A) (k : ℕ) → k < length ys → take k ys ++ a ∷ drop (suc k) ys ≡ slice_set ys k a
    in_place [] k h = absurd (omega arith)
    in_place (y ∷ ys) zero h = refl
    in_place (y ∷ ys) (suc k) h = ap (λ l. y ∷ l) (in_place ys k (omega arith))

-- the same of the code's permissions, of which one is the last
pub plain_last : (left less : List CodeAtom) (a : CodeAtom) → left ≡ less ++ a ∷ [] → plain_atoms left ≡ plain_atoms less ++ plain_atom a ∷ []
plain_last left less a e = ap plain_atoms e ∙ map-append plain_atom less (a ∷ [])
