-- A number for each name, and another for one of them.
use Rattle.std.proofs.Common.{◌≡◌, ◌≢◌, ℕ, cond, eqb, arith}
use Rattle.std.proofs.lemmas.Bool.Decides.{nat_tests}

abbrev pub Numbers : Type 0
Numbers = ℕ → ℕ

-- one name gets a number
abbrev pub put_number : Numbers → ℕ → ℕ → Numbers
put_number numbers k n m = cond (eqb m k) n (numbers m)

-- there it is
pub number_here : (f : Numbers) (k n m : ℕ) → m ≡ k → put_number f k n m ≡ n
number_here f k n m same = grind (arith, nat_tests)

-- elsewhere the numbers stay
pub number_there : (f : Numbers) (k n m : ℕ) → m ≢ k → put_number f k n m ≡ f m
number_there f k n m differ = grind (arith, nat_tests)
