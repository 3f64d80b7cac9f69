-- A test that is asked of each element of a list, one after the other.
use Rattle.std.proofs.Common.{◌≡◌, ◌&&◌, ◌+◌, ◌<◌, ◌≤◌, ℕ, Bool, true, false, List, length, map, drop, get_or, ap, ◌∙◌}
use Rattle.std.specs.List.{list_all}
use Rattle.mz_deriv.proofs.Lists.{next_of, none_of}

-- one that fails, and all fail
pub one_fails : {A B : Type 0} (test : B → Bool) (f : A → B) (xs : List A) (i : ℕ) (x : A) → i < length xs → x ≡ get_or xs i x → test (f x) ≡ false → list_all test (map f xs) ≡ list_all test (map f (drop i xs)) → list_all test (map f xs) ≡ false
one_fails test f xs i x h e n k = k ∙ ap (list_all test) (next_of f xs i x h e) ∙ ap (λ b. b && list_all test (map f (drop (i + 1) xs))) n

-- one that passes, and all pass just where the rest does
pub one_passes : {A B : Type 0} (test : B → Bool) (f : A → B) (xs : List A) (i : ℕ) (x : A) → i < length xs → x ≡ get_or xs i x → test (f x) ≡ true → list_all test (map f xs) ≡ list_all test (map f (drop i xs)) → list_all test (map f xs) ≡ list_all test (map f (drop (i + 1) xs))
one_passes test f xs i x h e n k = k ∙ ap (list_all test) (next_of f xs i x h e) ∙ ap (λ b. b && list_all test (map f (drop (i + 1) xs))) n

-- none is left, and all pass
pub all_pass : {A B : Type 0} (test : B → Bool) (f : A → B) (xs : List A) (i : ℕ) → length xs ≤ i → list_all test (map f xs) ≡ list_all test (map f (drop i xs)) → list_all test (map f xs) ≡ true
all_pass test f xs i h k = k ∙ ap (list_all test) (none_of f xs i h)
