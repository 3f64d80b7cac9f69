-- What a name stands for where a list of names has one more at its end.
use Rattle.std.proofs.Common.{◌≡◌, ℕ, Bool, true, false, if◌then◌else◌, List, [], ◌∷◌, ◌++◌, Option, Some, None, refl}
use Rattle.std.specs.Option.{option_or}
use Rattle.std.specs.Str.{bytes_eq}
use Rattle.mz_names.specs.Names.{Names, find}

-- it counts where the name stood for nothing before, by going along the list
pub find_more : (names : Names ℕ) (text : List ℕ) (number : ℕ) (other : List ℕ) → find (names ++ (text, number) ∷ []) other ≡ option_or (find names other) (if bytes_eq text other then Some number else None)
find_more [] text number other = refl
find_more (one ∷ rest) text number other = by (bytes_eq one.0 other) (find_more rest text number other)
  where
    by : (b : Bool) → find (rest ++ (text, number) ∷ []) other ≡ option_or (find rest other) (if bytes_eq text other then Some number else None) → (if b then Some one.1 else find (rest ++ (text, number) ∷ []) other) ≡ option_or (if b then Some one.1 else find rest other) (if bytes_eq text other then Some number else None)
    by true h = refl
    by false h = h
