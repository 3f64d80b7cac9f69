-- The words of the command line that are taken.
use Rattle.std.specs.Prelude.{◌≡◌, ℕ, List, [], ◌∷◌, Option, Some, None, String, string_bytes, codes}
use Rattle.std.specs.declared.alloc.Global.{Global}
use Rattle.mz_cli.specs.declared.words.Mode.{Mode}
use Rattle.mz_cli.specs.declared.words.Mode.TheVariants.{Sched, Verify}

-- the word of a mode
abbrev pub mode_word : Mode → List ℕ
mode_word Sched = codes "sched"
mode_word Verify = codes "verify"

-- the words are the program's name and the word of this mode
abbrev pub Asks : List (String Global) → Mode → Type 0
Asks words mode = (name : String Global) × (word : String Global) × (words ≡ name ∷ word ∷ []) × (string_bytes word ≡ mode_word mode)

-- and so they are of some mode
abbrev pub AreTaken : List (String Global) → Type 0
AreTaken words = (mode : Mode) × Asks words mode

-- the mode of the words, where they are taken
abbrev pub Tells : List (String Global) → Option Mode → Type 0
Tells words (Some mode) = Asks words mode
Tells words None = AreTaken words → ⊥

-- the mode of a word, where it is that of one
abbrev pub TellsMode : List ℕ → Option Mode → Type 0
TellsMode word (Some mode) = word ≡ mode_word mode
TellsMode word None = (mode : Mode) → word ≡ mode_word mode → ⊥
