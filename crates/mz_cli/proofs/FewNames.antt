-- The names of a scoped program of cells are few: its commands, and the name of its value.
use Rattle.std.proofs.Common.{◌≡◌, ◌⊎◌, inl, inr, ℕ, ◌+◌, ◌<◌, ◌≤◌, ◌==◌, ◌||◌, Bool, true, false, List, [], ◌∷◌, ◌++◌, length, refl, sym, ap, ◌∙◌, subst, arith}
use Rattle.std.proofs.lemmas.List.{length_push}
use Rattle.std.proofs.lemmas.Bool.Decides.{eqb_tells}
use Rattle.mz_tree.specs.declared.code.Arith.TheVariants.{Add}
use Rattle.mz_tree.specs.Code.{Op, Int_op, Unit_op, Arith_op, New_op, Read_op, Write_op, Print_op, Command, The_command, Commands, No_commands, More_commands, Body, The_body, command_list, commands_in, result_of}
use Rattle.mz_tree.specs.Programs.{Sig, Program}
use Rattle.mz_tree.specs.Scoped.{Scope, IsBound, with_bound, AreCommands, after_op, after_commands, names_after, names_below, Scoped}
use Rattle.mz_cli.proofs.NameKinds.{NameKind, Kinds, Gives, AllGive}
use Rattle.mz_cli.proofs.Cells.{CellNames, cell_sig, cell_main, cell_program, only_one}

-- a command that fits kinds has no body in which names are bound
plain_after : (kinds : Kinds) (op : Op) (kind : NameKind) (n : ℕ) → Gives kinds op kind → after_op n op ≡ n
plain_after kinds (Int_op m) kind n gives = refl
plain_after kinds Unit_op kind n gives = refl
plain_after kinds (Arith_op Add left right) kind n gives = refl
plain_after kinds (New_op con names) kind n gives = refl
plain_after kinds (Read_op block con field) kind n gives = refl
plain_after kinds (Write_op block con field from) kind n gives = refl
plain_after kinds (Print_op name) kind n gives = refl
plain_after kinds _ kind n gives = absurd gives

-- each command binds one name
names_counted : (commands : Commands) (kinds : Kinds) → AllGive kinds (command_list commands) → after_commands (length kinds) commands ≡ length kinds + length (command_list commands)
names_counted No_commands kinds all = omega arith
names_counted (More_commands (The_command to op place) rest) kinds (kind, to_is, gives, others) =
    let here = plain_after kinds op kind (length kinds) gives in
    let longer = length_push kinds kind in
    let next = names_counted rest (kinds ++ kind ∷ []) others in
    ap (λ n. after_commands (n + 1) rest) here ∙ ap (λ n. after_commands n rest) (sym longer) ∙ next ∙ (ap (λ n. n + length (command_list rest)) longer ∙ omega arith)

-- the names that are bound in a scope are below n
abbrev AllBelow : ℕ → Scope → Type 0
AllBelow n scope = (x : ℕ) → IsBound scope x → x < n

-- so it is with one more
one_more : (here rest : Bool) → (here || rest) ≡ true → (here ≡ true) ⊎ (rest ≡ true)
one_more true rest is = inl refl
one_more false rest is = inr is

-- the name of the value is below the names that are bound
value_below : (p : Program) (spelling : List (List ℕ)) (value : ℕ) (commands : Commands) (kinds : Kinds) (scope : Scope) → AllGive kinds (command_list commands) → AllBelow (length kinds) scope → AreCommands p spelling scope (length kinds) value commands → value < after_commands (length kinds) commands
value_below p spelling value No_commands kinds scope all below bound = below value bound
value_below p spelling value (More_commands (The_command to op place) rest) kinds scope (kind, to_is, gives, others) below (command, more) =
    let here = plain_after kinds op kind (length kinds) gives in
    let longer = length_push kinds kind in
    let same : after_op (length kinds) op + 1 ≡ length (kinds ++ kind ∷ []) = ap (λ n. n + 1) here ∙ sym longer in
    subst (λ n. value < after_commands n rest) (sym same)
    (value_below p spelling value rest (kinds ++ kind ∷ []) (with_bound p spelling scope (The_command to op place)) others bounds
    (subst (λ n. AreCommands p spelling (with_bound p spelling scope (The_command to op place)) n value rest) same more))
  where
    bounds : AllBelow (length (kinds ++ kind ∷ [])) (with_bound p spelling scope (The_command to op place))
    bounds x is = let longer = length_push kinds kind in elim (one_more (to == x) _ is) [
      | inl equal ↦ elim (eqb_tells to x) [
        | inl t ↦ omega (arith, t.1, to_is, longer)
        | inr t ↦ absurd (let no : true ≡ false = sym equal ∙ t.0 in cc)
      ]
      | inr older ↦ let under = below x older in omega (arith, under, longer)
    ]

-- nothing is bound at first
none_bound : (x : ℕ) → IsBound (names_below 0) x → x < 0
none_bound x is = cc

-- at most 256 commands, and a value of one of these names
pub few_names : (names : CellNames) (body : Body) (spelling : List (List ℕ)) → AllGive [] (commands_in body) → Scoped (cell_program names body spelling) → (result_of body ≤ 256) × (0 + length (commands_in body) ≤ 256)
few_names names (The_body commands value place) spelling kinded scoped =
    let body : Body = The_body commands value place in
    let p : Program = cell_program names body spelling in
    let fun = scoped.funs 0 (cell_main body spelling) refl in
    let no_params : fun.sig.count ≡ 0 = ap (λ (s : Sig). s.count) (only_one (cell_sig names) fun.sig 0 fun.signed) in
    let counted = names_counted commands [] kinded in
    let bound : AreCommands p spelling (names_below 0) 0 value commands = subst (λ n. AreCommands p spelling (names_below n) n value commands) no_params fun.body in
    let below = value_below p spelling value commands [] (names_below 0) kinded none_bound bound in
    let all : length spelling ≡ after_commands 0 commands = subst (λ n. length spelling ≡ after_commands n commands) no_params fun.spelled in
    let most = fun.few in
    (omega (arith, below, all, most), omega (arith, counted, all, most))
