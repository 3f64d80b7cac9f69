-- Commands of a body, one after the other: what holds of each, and of one more behind them.
use Rattle.std.proofs.Common.{◌≡◌, ℕ, List, [], ◌∷◌, ◌++◌, refl, sym, ap, ◌∙◌, append_assoc, append-nil}
use Rattle.mz_tree.specs.Code.{Command, commands_of}
use Rattle.mz_tree.specs.Programs.{Program}
use Rattle.mz_tree.specs.Scoped.{Scope, IsBound, IsCommand, AreCommands, with_bound, after_command, after_commands, adopting_command, adopting_commands}

-- how many names stand after commands that are behind so many
abbrev pub all_after : ℕ → List Command → ℕ
all_after n commands = after_commands n (commands_of commands)

-- one more command
pub after_more : (n : ℕ) (commands : List Command) (c : Command) → all_after n (commands ++ c ∷ []) ≡ after_command (all_after n commands) c
after_more n [] c = refl
after_more n (d ∷ rest) c = after_more (after_command n d) rest c

-- the structural types in commands that adopt
abbrev pub all_adopting : List Command → List (ℕ × ℕ)
all_adopting commands = adopting_commands (commands_of commands)

-- and those of one more
pub adopting_more : (commands : List Command) (c : Command) → all_adopting (commands ++ c ∷ []) ≡ all_adopting commands ++ adopting_command c
adopting_more [] c = append-nil (adopting_command c)
adopting_more (d ∷ rest) c = ap (λ l. adopting_command d ++ l) (adopting_more rest c) ∙ sym (append_assoc (adopting_command d) (all_adopting rest) (adopting_command c))

module _ (p : Program) (spelling : List (List ℕ)) where
  -- what is in scope after commands
  abbrev pub scope_after : Scope → List Command → Scope
  scope_after here [] = here
  scope_after here (c ∷ rest) = scope_after (with_bound p spelling here c) rest

  -- and after one more
  pub scope_more : (here : Scope) (commands : List Command) (c : Command) → scope_after here (commands ++ c ∷ []) ≡ with_bound p spelling (scope_after here commands) c
  scope_more here [] c = refl
  scope_more here (d ∷ rest) c = scope_more (with_bound p spelling here d) rest c

  -- each is a command in its scope
  abbrev pub AreChained : Scope → ℕ → List Command → Type 0
  AreChained here n [] = Unit {0}
  AreChained here n (c ∷ rest) = IsCommand p spelling here n c × AreChained (with_bound p spelling here c) (after_command n c) rest

  -- with one more, if it is one in its scope
  pub chained_more : (here : Scope) (n : ℕ) (commands : List Command) (c : Command) → AreChained here n commands → IsCommand p spelling (scope_after here commands) (all_after n commands) c → AreChained here n (commands ++ c ∷ [])
  chained_more here n [] c are is = (is, tt)
  chained_more here n (d ∷ rest) c are is = (are.0, chained_more (with_bound p spelling here d) (after_command n d) rest c are.1 is)

  -- and with a value they are a body
  pub chained_whole : (here : Scope) (n value : ℕ) (commands : List Command) → AreChained here n commands → IsBound (scope_after here commands) value → AreCommands p spelling here n value (commands_of commands)
  chained_whole here n value [] are bound = bound
  chained_whole here n value (c ∷ rest) are bound = (are.0, chained_whole (with_bound p spelling here c) (after_command n c) value rest are.1 bound)
