-- Classes of bytes.
use Rattle.std.specs.Prelude.{ℕ, Bool, not, ◌||◌, ◌&&◌, ◌==◌, nat_le}

-- tab, line end, carriage return, space
abbrev pub is_blank : ℕ → Bool
is_blank b = (b == 9) || (b == 10) || (b == 13) || (b == 32)

-- any byte but a line end
abbrev pub is_inside_line : ℕ → Bool
is_inside_line b = not (b == 10)

-- what begins a lower name: a to z, or _
abbrev pub is_small : ℕ → Bool
is_small b = (nat_le 97 b && nat_le b 122) || (b == 95)

-- what begins an upper name: A to Z
abbrev pub is_capital : ℕ → Bool
is_capital b = nat_le 65 b && nat_le b 90

-- 0 to 9
abbrev pub is_digit : ℕ → Bool
is_digit b = nat_le 48 b && nat_le b 57

-- what a name is made of: letters, digits and _
abbrev pub is_name_byte : ℕ → Bool
is_name_byte b = is_small b || is_capital b || is_digit b
