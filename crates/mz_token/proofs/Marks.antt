-- Marks have one or two bytes, so the longer of the two that stands is the longest.
use Rattle.std.proofs.Common.{ℕ, ◌+◌, ◌<◌, Bool, true, false, ◌==◌, nat_le, List, [], ◌∷◌, ◌++◌, ◌≡◌, length, take, Some, None, refl, ap, ◌∙◌, subst, arith}
use Rattle.std.specs.Cmp.{second_so, first_so}
use Rattle.std.specs.List.{list_all, position_from}
use Rattle.std.specs.Str.{bytes_eq}
use Rattle.std.proofs.Math.Bool.{and-false}
use Rattle.std.proofs.lemmas.Bool.{leb-true}
use Rattle.mz_token.specs.declared.token.Kind.TheVariants as kind
use Rattle.mz_tree.specs.Spellings.{mark_texts, number_in}
use Rattle.mz_tree.specs.Shapes.{Mark_shape, mark_shape, shape_of}
use Rattle.mz_token.specs.Lexes.{NoPiece}
use Rattle.mz_token.specs.Fronts.{BeginsWith, IsOther}
use Rattle.mz_token.proofs.Classes.{mark_text}

-- whether a text has at most two bytes
abbrev short : List ℕ → Bool
short text = nat_le (length text) 2

-- a text of three bytes or more is none of at most two
differs : (a b c : ℕ) (text word : List ℕ) → short word ≡ true → bytes_eq (a ∷ b ∷ c ∷ text) word ≡ false
differs a b c text [] h = refl
differs a b c text (x ∷ []) h = and-false (a == x)
differs a b c text (x ∷ y ∷ []) h = rw (and-false, and-false) refl
differs a b c text (x ∷ y ∷ z ∷ word) h = absurd (omega (arith, leb-true (length (x ∷ y ∷ z ∷ word)) 2 h))

-- so it stands in no table of such texts
not_in : (a b c : ℕ) (text : List ℕ) (i : ℕ) (table : List (List ℕ)) → list_all short table ≡ true → position_from (bytes_eq (a ∷ b ∷ c ∷ text)) i table ≡ None
not_in a b c text i [] h = refl
not_in a b c text i (word ∷ table) h = rw (differs a b c text word (first_so (short word) (list_all short table) h)) (not_in a b c text (i + 1) table (second_so (short word) (list_all short table) h))

-- and is no mark
long_none : (a b c : ℕ) (text : List ℕ) → number_in mark_texts (a ∷ b ∷ c ∷ text) ≡ None
long_none a b c text = not_in a b c text 0 mark_texts refl

-- a front of a text that begins no other piece is a piece just where it is a mark
front_shape : (text others : List ℕ) → 0 < length text → IsOther (text ++ others) → shape_of text ≡ mark_shape (number_in mark_texts text)
front_shape [] others some o = absurd (omega arith)
front_shape (a ∷ []) others some o = mark_text (a ∷ []) o.blank o.small o.capital o.digit (and-false (47 == a))
front_shape (a ∷ b ∷ text) others some o = mark_text (a ∷ b ∷ text) o.blank o.small o.capital o.digit o.comment

one_longest : (a : ℕ) (more others : List ℕ) → IsOther ((a ∷ more) ++ others) → (1 < length ((a ∷ more) ++ others) → number_in mark_texts (take 2 ((a ∷ more) ++ others)) ≡ None) → 0 < length more → shape_of (a ∷ more) ≡ None
one_longest a [] others o pair some = absurd (omega arith)
one_longest a (b ∷ []) others o pair some = front_shape (a ∷ b ∷ []) others (omega arith) o ∙ ap mark_shape (pair (omega arith))
one_longest a (b ∷ c ∷ more) others o pair some = front_shape (a ∷ b ∷ c ∷ more) others (omega arith) o ∙ ap mark_shape (long_none a b c more)

two_longest : (a b : ℕ) (more others : List ℕ) → IsOther ((a ∷ b ∷ more) ++ others) → 0 < length more → shape_of (a ∷ b ∷ more) ≡ None
two_longest a b [] others o some = absurd (omega arith)
two_longest a b (c ∷ more) others o some = front_shape (a ∷ b ∷ c ∷ more) others (omega arith) o ∙ ap mark_shape (long_none a b c more)

-- one byte that is a mark, where the first two are none
pub one_found : (bytes : List ℕ) (number : ℕ) → IsOther bytes → 0 < length bytes → (1 < length bytes → number_in mark_texts (take 2 bytes) ≡ None) → number_in mark_texts (take 1 bytes) ≡ Some number → BeginsWith bytes (Some (kind.Mark number)) 1
one_found [] number o some pair one = absurd (omega arith)
one_found (a ∷ bytes) number o some pair one = record {
  piece = record { shape = Mark_shape number; text = a ∷ [] };
  rest = bytes;
  split = refl;
  stands = record {
    longest = record {
      shaped = front_shape (a ∷ []) bytes (omega arith) o ∙ ap mark_shape one;
      longest = λ more others split some_more. one_longest a more others (subst (λ rest. IsOther (a ∷ rest)) split o) (subst (λ rest. 1 < length (a ∷ rest) → number_in mark_texts (take 2 (a ∷ rest)) ≡ None) split pair) some_more;
    };
    lawful = tt;
  };
  same_kind = refl;
  same_size = refl;
}

-- two bytes that are a mark
pub two_found : (bytes : List ℕ) (number : ℕ) → IsOther bytes → 1 < length bytes → number_in mark_texts (take 2 bytes) ≡ Some number → BeginsWith bytes (Some (kind.Mark number)) 2
two_found [] number o some two = absurd (omega arith)
two_found (a ∷ []) number o some two = absurd (omega arith)
two_found (a ∷ b ∷ bytes) number o some two = record {
  piece = record { shape = Mark_shape number; text = a ∷ b ∷ [] };
  rest = bytes;
  split = refl;
  stands = record {
    longest = record {
      shaped = front_shape (a ∷ b ∷ []) bytes (omega arith) o ∙ ap mark_shape two;
      longest = λ more others split some_more. two_longest a b more others (subst (λ rest. IsOther (a ∷ b ∷ rest)) split o) some_more;
    };
    lawful = tt;
  };
  same_kind = refl;
  same_size = refl;
}

-- neither: then no front is a piece
pub none_found : (bytes : List ℕ) → IsOther bytes → 0 < length bytes → (1 < length bytes → number_in mark_texts (take 2 bytes) ≡ None) → number_in mark_texts (take 1 bytes) ≡ None → NoPiece bytes
none_found bytes o some pair one = record { more = some; none = by_front }
  where
    of_front : (front others : List ℕ) → IsOther (front ++ others) → (1 < length (front ++ others) → number_in mark_texts (take 2 (front ++ others)) ≡ None) → number_in mark_texts (take 1 (front ++ others)) ≡ None → shape_of front ≡ None
    of_front [] others o pair one = refl
    of_front (a ∷ []) others o pair one = front_shape (a ∷ []) others (omega arith) o ∙ ap mark_shape one
    of_front (a ∷ b ∷ more) others o pair one = one_longest a (b ∷ more) others o pair (omega arith)

    by_front : (front others : List ℕ) → bytes ≡ front ++ others → shape_of front ≡ None
    by_front front others split = of_front front others (subst IsOther split o) (subst (λ rest. 1 < length rest → number_in mark_texts (take 2 rest) ≡ None) split pair) (subst (λ rest. number_in mark_texts (take 1 rest) ≡ None) split one)
