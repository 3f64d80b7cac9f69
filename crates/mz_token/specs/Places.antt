-- Lines and columns, both from 1. A line ends at byte 10, and columns count bytes.
use Rattle.std.specs.Prelude.{ℕ, ◌+◌, ◌==◌, List, count_by}
use Rattle.std.specs.List.{suffix_len}
use Rattle.mz_tree.specs.declared.types.Place.{Place}
use Rattle.mz_tree.specs.Bytes.{is_inside_line}

-- the place of what stands after these bytes: the line by the line ends, the column by the bytes after the last of them
abbrev pub place_of : List ℕ → Place
place_of before = record { line = 1 + count_by (λ b. b == 10) before; col = 1 + suffix_len is_inside_line before }
