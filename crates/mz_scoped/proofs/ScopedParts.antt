-- Parts of a body that are put together: what is known after them, where no fault came, of a function that is spelled so in
-- the end.
use Rattle.std.proofs.Common.{◌≡◌, ℕ, ◌≤◌, Bool, true, List, [], ◌∷◌, ◌++◌, length, refl, sym, ap, ◌∙◌, subst, append-nil, le_refl, true≢false}
use Rattle.mz_tree.specs.declared.types.Place.{Place}
use Rattle.mz_tree.specs.Code.{Op, Command, The_command}
use Rattle.mz_tree.specs.Programs.{Program}
use Rattle.mz_scope.specs.Names.{Names}
use Rattle.mz_scope.specs.Making.{CoreName, Made, Part, add_command}
use Rattle.mz_tree.specs.Scoped.{Scope, IsOp, bound_by, after_op, adopting_op}
use Rattle.mz_scoped.proofs.Proper.{AllOf}
use Rattle.mz_scoped.proofs.Grounds.{pairs_of}
use Rattle.mz_scoped.proofs.Goes.{Goes, made_in, weakened, commanded}
use Rattle.mz_scoped.proofs.KeptNames.{Spells, spells_before, one_longer, Ends, IsLast}
use Rattle.mz_scoped.proofs.CommandChains.{scope_after}
use Rattle.mz_scoped.proofs.FineCommands.{Held, Value_held, Callee_held, IsHeld, FitsOthers, IsSound, AreLocal, Known, held_as, known_more}

-- a part that ends with a command
pub with_end : {P : Made → Type 0} {part : Part ℕ} {Q : ℕ → Made → Type 0} → Ends part → Goes P part Q → Goes P part (λ n m. IsLast n m.names × Q n m)
with_end ends goes = record {
  clean = goes.clean;
  leads = λ m none before. (ends.last m, goes.leads m none before);
}

-- ---- in the middle of a body

-- a body begins in a scope, where the source's names are these and this was made
pub record Begun : Type 0 where
  pub here : Scope
  pub old : Made
  pub scope : Names ℕ

module _ (p : Program) (spelling : List (List ℕ)) where
  -- what has to be known where it begins
  abbrev pub IsBegun : Begun → Type 0
  IsBegun b = AllOf (IsSound p spelling (length b.old.names)) b.here × AreLocal p spelling b.here (length b.old.names) b.scope

  -- what is known of what is made
  abbrev pub KnownAt : Begun → Names ℕ → List Held → Made → Type 0
  KnownAt b scope held m = Known p spelling b.here b.old scope held m.commands (length m.names) (pairs_of m.clauses)

  -- what is known, if the names are spelled so
  pub record Sofar (b : Begun) (scope : Names ℕ) (held : List Held) (m : Made) : Type 0 where
    pub at : Spells m.names spelling → Spells b.old.names spelling × (IsBegun b → KnownAt b scope held m)

  -- other names may be held
  pub sofar_as : {b : Begun} {scope : Names ℕ} {held others : List Held} {m : Made} → ((now : Scope) (n : ℕ) → AllOf (IsHeld p spelling now n) held → AllOf (IsHeld p spelling now n) others) → Sofar b scope held m → Sofar b scope others m
  sofar_as turn sofar = record { at = λ spells. ((sofar.at spells).0, λ begun. held_as p spelling turn ((sofar.at spells).1 begun)) }

  -- ---- commands

  -- a command comes after parts that made no command, but bodies and types that belong to it
  pub record Next (b : Begun) (scope : Names ℕ) (held : List Held) (op : Op) (m : Made) : Type 0 where
    pub mid : Made
    pub known : KnownAt b scope held mid
    pub commands : m.commands ≡ mid.commands
    pub numbered : length m.names ≡ after_op (length mid.names) op
    pub grown : length mid.names ≤ length m.names
    pub pairs : pairs_of m.clauses ≡ pairs_of mid.clauses ++ adopting_op op
    pub is : IsOp p spelling (scope_after p spelling b.here mid.commands) (length mid.names) (length m.names) op

  -- what is known after it
  next_known : (b : Begun) (scope : Names ℕ) (held : List Held) (place : Place) (op : Op) (other : ℕ → Bool) (m : Made) → Next b scope held op m → FitsOthers p spelling other (bound_by p spelling (length m.names) op)
      → KnownAt b scope (Callee_held (length m.names) other ∷ held) (made_in (add_command place op m))
  next_known b scope held place op other m next fits =
      let to : ℕ = length m.names in
      let c : Command = The_command to op place in
      let n : CoreName = record { spelling = []; place = place } in
      let all : Known p spelling b.here b.old scope (Callee_held to other ∷ held) (next.mid.commands ++ c ∷ []) (length (m.names ++ n ∷ [])) (pairs_of next.mid.clauses ++ adopting_op op) =
      known_more p spelling b.here b.old scope held next.mid.commands (length next.mid.names) (pairs_of next.mid.clauses) to (length (m.names ++ n ∷ [])) op place other next.known next.numbered next.grown (one_longer m.names n) next.is fits in
      subst (λ pairs. Known p spelling b.here b.old scope (Callee_held to other ∷ held) (m.commands ++ c ∷ []) (length (m.names ++ n ∷ [])) pairs) (sym next.pairs)
      (subst (λ commands. Known p spelling b.here b.old scope (Callee_held to other ∷ held) (commands ++ c ∷ []) (length (m.names ++ n ∷ [])) (pairs_of next.mid.clauses ++ adopting_op op)) (sym next.commands) all)

  -- a command whose value may be called
  pub callee_goes : {P : Made → Type 0} {b : Begun} {scope : Names ℕ} {held : List Held} {place : Place} {op : Op} {other : ℕ → Bool}
      → ((m : Made) → P m → Spells m.names spelling → Spells b.old.names spelling × (IsBegun b → Next b scope held op m × FitsOthers p spelling other (bound_by p spelling (length m.names) op)))
      → Goes P (add_command place op) (λ x. Sofar b scope (Callee_held x other ∷ held))
  callee_goes {b = b} {scope = scope} {held = held} {place = place} {op = op} {other = other} step = commanded place op (λ m before. record {
    at = λ spells.
        let one = step m before (spells_before m.names (record { spelling = []; place = place }) spelling spells) in
        (one.0, λ begun. next_known b scope held place op other m (one.1 begun).0 (one.1 begun).1);
  })

  -- and one whose value isn't called by its own name; other names may be held after it
  pub value_goes : {P : Made → Type 0} {b : Begun} {scope : Names ℕ} {held : List Held} {place : Place} {op : Op} (others : List Held)
      → ((m : Made) → P m → Spells m.names spelling → Spells b.old.names spelling × (IsBegun b → Next b scope held op m))
      → ((now : Scope) (n : ℕ) → AllOf (IsHeld p spelling now n) held → AllOf (IsHeld p spelling now n) others)
      → Goes P (add_command place op) (λ x. Sofar b scope (Value_held x ∷ others))
  value_goes others step turn =
      weakened (λ m before. before) (λ x m after. sofar_as (λ now n all. (all.0.0, turn now n all.1)) after)
      (callee_goes {other = λ count. true} (λ m before spells. ((step m before spells).0, λ begun. ((step m before spells).1 begun, λ count is. absurd (true≢false is)))))

  -- what fits where these names are held
  abbrev pub Allows : List Held → Op → Type 0
  Allows held op = (now : Scope) (n : ℕ) → AllOf (IsHeld p spelling now n) held → IsOp p spelling now n n op

  -- a command without bodies and types comes next
  pub next_plain : {b : Begun} {scope : Names ℕ} {held : List Held} {op : Op} {m : Made} → ((n : ℕ) → n ≡ after_op n op) → adopting_op op ≡ [] → Allows held op → KnownAt b scope held m → Next b scope held op m
  next_plain {m = m} same none allows known = record {
    mid = m;
    known = known;
    commands = refl;
    numbered = same (length m.names);
    grown = le_refl (length m.names);
    pairs = sym (ap (λ l. pairs_of m.clauses ++ l) none ∙ append-nil (pairs_of m.clauses));
    is = allows _ _ known.all;
  }

  -- and its value is bound
  pub plain_goes : {P : Made → Type 0} {b : Begun} {scope : Names ℕ} {held : List Held} {place : Place} {op : Op} (others : List Held)
      → ((n : ℕ) → n ≡ after_op n op) → adopting_op op ≡ []
      → ((m : Made) → P m → Sofar b scope held m × Allows held op)
      → ((now : Scope) (n : ℕ) → AllOf (IsHeld p spelling now n) held → AllOf (IsHeld p spelling now n) others)
      → Goes P (add_command place op) (λ x. Sofar b scope (Value_held x ∷ others))
  plain_goes others same none step turn = value_goes others (λ m before spells. (((step m before).0.at spells).0, λ begun. next_plain same none (step m before).1 (((step m before).0.at spells).1 begun))) turn
