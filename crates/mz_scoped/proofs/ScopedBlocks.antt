-- Blocks: items one after the other, a `let` that puts a name into scope, and the body that a block comes to.
use Rattle.std.proofs.Common.{◌≡◌, ◌≢◌, ℕ, ◌+◌, ◌≤◌, List, [], ◌∷◌, ◌++◌, length, Option, Some, None, is_some, option_map, refl, sym, ap, ◌∙◌, subst, arith, append-nil, le_refl}
use Rattle.mz_tree.specs.declared.types.Place.{Place}
use Rattle.mz_tree.specs.Code.{Copy_op, Fun_op, Command, Body}
use Rattle.mz_tree.specs.Programs.{Program}
use Rattle.mz_scope.specs.Syntax.{Word, Expr, Number_expr, Unit_expr, Name_expr, Arith_expr, Call_expr, New_expr, Read_expr, Write_expr, New_lock_expr, Print_expr, If_expr, Match_expr, Retag_expr, Give_expr, Take_expr, Acquire_expr, Release_expr, Spawn_expr, Block, The_block, BlockItem, Let_item, Plain_item, BlockItems, No_items, More_items, Value, No_value, The_value}
use Rattle.mz_scope.specs.Names.{Names, find, Globals, FunEntry}
use Rattle.mz_scope.specs.Making.{Made, Came, Came_to, Part, ◌>>=◌, fault_if, declared_or}
use Rattle.mz_scope.specs.Types.{are_fields, con_by_name, flat_atoms}
use Rattle.mz_scope.specs.Bodies.{spell, local_name, own_name, body_came, has_other_count, differ_in_fields, match_data, lacks_a_case, field_in, select_con, named, name_value, flat_expression, flat_expressions, flat_values, flat_cases, flat_block, flat_items, flat_item, flat_value}
use Rattle.mz_scope.specs.Bodies.{given as given_atoms}
use Rattle.mz_tree.specs.Scoped.{Scope, IsBody, names_after, adopting_body}
use Rattle.mz_scoped.proofs.Grounds.{Grounds, pairs_of}
use Rattle.mz_scoped.proofs.Goes.{Goes, value_in, made_in, first_then, weakened, added, given, not_so}
use Rattle.mz_scoped.proofs.KeptNames.{Spells, IsLast, Ends, ends_command, ends_then, last_spells, spelled_length, one_longer}
use Rattle.mz_scoped.proofs.CommandChains.{scope_after, chained_whole}
use Rattle.mz_scoped.proofs.FineCommands.{Value_held, IsLocal, Known}
use Rattle.mz_scoped.proofs.LocalNames.{local_named, spelled_local}
use Rattle.mz_scoped.proofs.ScopedParts.{with_end, Begun, IsBegun, Sofar, sofar_as, plain_goes}
use Rattle.mz_scoped.proofs.ScopedExpressions.{ExprGoes, unit_goes}

-- ---- the value of an expression that is no local name is the last core name

module _ (g : Globals) where
  -- a name that is not local
  named_ends : (o : Option ℕ) (name : Word) → option_map (λ (_ : ℕ). name) o ≡ None → Ends (named g o name)
  named_ends None name none = ends_then (declared_or 0 (option_map (λ (f : FunEntry). f.number) (find g.funs name.text)) name.place) (λ f. ends_command name.place (Fun_op f))
  named_ends (Some x) name none = cc

  -- each other expression
  pub expression_ends : (scope : Names ℕ) (e : Expr) → local_name scope e ≡ None → Ends (flat_expression g scope e)
  unfolding flat_expression
  expression_ends scope (Number_expr n place) none = ends_command place _
  expression_ends scope (Unit_expr place) none = ends_command place _
  expression_ends scope (Name_expr name) none = named_ends (find scope name.text) name none
  expression_ends scope (Arith_expr left operator place right) none = ends_then (flat_expression g scope left) (λ x. ends_then (flat_expression g scope right) (λ y. ends_command place _))
  expression_ends scope (Call_expr callee arguments) none =
      ends_then (name_value g scope callee) (λ f. ends_then (flat_expressions g scope arguments) (λ xs. ends_then (fault_if (has_other_count g scope callee.text (length xs)) _ callee.place) (λ _. ends_command callee.place _)))
  expression_ends scope (New_expr name fields) none = ends_then (con_by_name g name) (λ con. ends_then (flat_values g scope con fields) (λ written. ends_then (are_fields con written name.place) (λ _. ends_command name.place _)))
  expression_ends scope (Read_expr block select) none =
      ends_then (flat_expression g scope block) (λ x. ends_then (select_con g select.con select.field) (λ con. ends_then (field_in con select.field) (λ i. ends_command select.field.place _)))
  expression_ends scope (Write_expr block select place value) none =
      ends_then (flat_expression g scope block) (λ x. ends_then (select_con g select.con select.field) (λ con. ends_then (field_in con select.field) (λ i. ends_then (flat_expression g scope value) (λ y. ends_command place _))))
  expression_ends scope (New_lock_expr place guarded) none = ends_then (flat_atoms g scope guarded) (λ atoms. ends_command place _)
  expression_ends scope (Print_expr place value) none = ends_then (flat_expression g scope value) (λ x. ends_command place _)
  expression_ends scope (If_expr place test one two giving) none =
      ends_then (flat_expression g scope test) (λ x. ends_then (flat_block g scope one) (λ a. ends_then (flat_block g scope two) (λ b. ends_then (given_atoms g scope giving) (λ atoms. ends_command place _))))
  expression_ends scope (Match_expr place name arms giving) none =
      ends_then (name_value g scope name)
      (λ x. ends_then (fault_if (lacks_a_case g arms) _ place)
      (λ _. ends_then (flat_cases g scope (match_data g arms) [] arms)
      (λ cases. ends_then (given_atoms g scope giving)
      (λ atoms. ends_command place _))))
  expression_ends scope (Retag_expr place name old new) none =
      ends_then (name_value g scope name) (λ x. ends_then (con_by_name g old) (λ a. ends_then (con_by_name g new) (λ b. ends_then (fault_if (differ_in_fields a b) _ place) (λ _. ends_command place _))))
  expression_ends scope (Give_expr place name adopter) none = ends_then (name_value g scope name) (λ x. ends_then (name_value g scope adopter) (λ y. ends_command place _))
  expression_ends scope (Take_expr place name adopter) none = ends_then (name_value g scope name) (λ x. ends_then (name_value g scope adopter) (λ y. ends_command place _))
  expression_ends scope (Acquire_expr place name) none = ends_then (name_value g scope name) (λ x. ends_command place _)
  expression_ends scope (Release_expr place name) none = ends_then (name_value g scope name) (λ x. ends_command place _)
  expression_ends scope (Spawn_expr place callee argument) none =
      ends_then (name_value g scope callee) (λ f. ends_then (flat_expression g scope argument) (λ x. ends_then (fault_if (has_other_count g scope callee.text 1) _ callee.place) (λ _. ends_command place _)))

module _ (p : Program) (g : Globals) (grounds : Grounds p g) (spelling : List (List ℕ)) where
  -- ---- items

  -- the local names after an item
  abbrev pub ItemGoes : Names ℕ → BlockItem → Type 0
  ItemGoes scope item = (b : Begun) → Goes (Sofar p spelling b scope []) (flat_item g scope item) (λ inner. Sofar p spelling b inner [])

  -- after items
  abbrev pub ItemsGo : Names ℕ → BlockItems → Type 0
  ItemsGo scope items = (b : Begun) → Goes (Sofar p spelling b scope []) (flat_items g scope items) (λ inner. Sofar p spelling b inner [])

  -- and the value at the end
  abbrev pub ValueGoes : Names ℕ → Place → Value → Type 0
  ValueGoes scope brace value = (b : Begun) → Goes (Sofar p spelling b scope []) (flat_value g scope brace value) (λ x. Sofar p spelling b scope (Value_held x ∷ []))

  -- an item without a name
  pub plain_item_goes : (scope : Names ℕ) (value : Expr) → ExprGoes p g grounds spelling scope value → ItemGoes scope (Plain_item value)
  unfolding flat_item
  plain_item_goes scope value one b = first_then _ _ (one b []) (λ x. given scope (λ m q. sofar_as p spelling (λ now n k. tt) q))

  -- the value of a `let`, before it has a name of its own
  Valued : Begun → Names ℕ → Option Word → ℕ → Made → Type 0
  Valued b scope o x m = (o ≡ None → IsLast x m.names) × Sofar p spelling b scope (Value_held x ∷ []) m

  -- it is the last core name, or a local name's
  valued_goes : (b : Begun) (scope : Names ℕ) (value : Expr) → ExprGoes p g grounds spelling scope value → Goes (Sofar p spelling b scope []) (flat_expression g scope value) (λ x m. Valued b scope (local_name scope value) x m)
  unfolding Valued
  valued_goes b scope value one = record {
    clean = (one b []).clean;
    leads = λ m none before. (λ is. (expression_ends g scope value is).last m, (one b []).leads m none before);
  }

  -- now it has a name of its own, the last
  own_goes : (b : Begun) (scope : Names ℕ) (o : Option Word) (x : ℕ) → Goes (λ m. Valued b scope o x m) (own_name o x) (λ n m. IsLast n m.names × Sofar p spelling b scope (Value_held n ∷ []) m)
  unfolding Valued
  own_goes b scope None x = given x (λ m q. (q.0 refl, q.1))
  own_goes b scope (Some name) x = with_end (ends_command name.place (Copy_op x)) (plain_goes p spelling [] (λ n. refl) refl (λ m q. (q.1, λ now n k. k.0)) (λ now n k. tt))

  -- the source's name stands for it
  spelled : (b : Begun) (scope : Names ℕ) (text : List ℕ) (n : ℕ) (m : Made) → text ≢ [] → IsLast n m.names → Sofar p spelling b scope (Value_held n ∷ []) m → Sofar p spelling b (scope ++ (text, n) ∷ []) [] (made_in (spell text m))
  spelled b scope text n m some last sofar = record {
    at = λ spells.
        let ends = last_spells n m.names text spelling last some spells in
        let before = sofar.at ends.0 in (
          before.0,
          λ begun. let k = before.1 begun in
              let now : Scope = scope_after p spelling b.here m.commands in
              let last_is : length m.names ≡ n + 1 = ap length last.names_are ∙ one_longer last.before (record { spelling = []; place = last.place }) ∙ ap (λ i. i + 1) (sym last.number) in
              let local : IsLocal p spelling now (length m.names) n = spelled_local p spelling now (length m.names) n text k.sound k.all.0 (omega (arith, last_is)) ends.1 some in
              subst (λ count. Known p spelling b.here b.old (scope ++ (text, n) ∷ []) [] m.commands count (pairs_of m.clauses)) (sym (spelled_length text m.names))
              (record {
                chained = k.chained;
                numbered = k.numbered;
                grown = k.grown;
                adopted = k.adopted;
                sound = k.sound;
                local = local_named p spelling now (length m.names) scope text n k.local local;
                all = tt;
              }),
        );
  }

  -- so it is where the name gets its spelling
  spell_goes : (b : Begun) (scope : Names ℕ) (text : List ℕ) (n : ℕ) → text ≢ [] → Goes (λ m. IsLast n m.names × Sofar p spelling b scope (Value_held n ∷ []) m) (spell text) (λ _. Sofar p spelling b (scope ++ (text, n) ∷ []) [])
  spell_goes b scope text n some = added (spell text) (λ m. refl) (λ m q. spelled b scope text n m some q.0 q.1)

  -- a `let`
  pub let_goes : (scope : Names ℕ) (name : Word) (value : Expr) → name.text ≢ [] → ExprGoes p g grounds spelling scope value → ItemGoes scope (Let_item name value)
  unfolding flat_item
  let_goes scope name value some one b =
      first_then _ _ (weakened (λ m q. q) (λ _ m q. q.1) (not_so (is_some (find scope name.text)) _ name.place))
      (λ _. first_then _ _ (valued_goes b scope value one)
      (λ x. first_then _ _ (own_goes b scope (local_name scope value) x)
      (λ n. first_then _ _ (spell_goes b scope name.text n some)
      (λ _. given (scope ++ (name.text, n) ∷ []) (λ m q. q)))))

  -- no items
  pub no_items_go : (scope : Names ℕ) → ItemsGo scope No_items
  unfolding flat_items
  no_items_go scope b = given scope (λ m q. q)

  -- one more item
  pub more_items_go : (scope : Names ℕ) (one : BlockItem) (rest : BlockItems) → ItemGoes scope one → ((inner : Names ℕ) → ItemsGo inner rest) → ItemsGo scope (More_items one rest)
  unfolding flat_items
  more_items_go scope one rest first others b = first_then _ _ (first b) (λ inner. others inner b)

  -- the value of a block that gives none
  pub no_value_goes : (scope : Names ℕ) (brace : Place) → ValueGoes scope brace No_value
  unfolding flat_value
  no_value_goes scope brace b = unit_goes p g grounds spelling scope brace b []

  -- and of one that does
  pub the_value_goes : (scope : Names ℕ) (brace : Place) (value : Expr) → ExprGoes p g grounds spelling scope value → ValueGoes scope brace (The_value value)
  unfolding flat_value
  the_value_goes scope brace value one b = one b []

  -- ---- bodies

  -- a body in this scope, and what was made with it
  pub record InScope (here : Scope) (old : Made) (body : Body) (m : Made) : Type 0 where
    pub is : IsBody p spelling here (length old.names) body
    pub count : length m.names ≡ names_after (length old.names) body
    pub grown : length old.names ≤ length m.names
    pub commands : m.commands ≡ old.commands
    pub pairs : pairs_of m.clauses ≡ pairs_of old.clauses ++ adopting_body body

  -- it is a body in each scope that has the source's names
  abbrev pub BodyMade : Names ℕ → Made → Body → Made → Type 0
  BodyMade scope old body m = Spells m.names spelling → Spells old.names spelling × ((here : Scope) → IsBegun p spelling (record { here = here; old = old; scope = scope }) → InScope here old body m)

  -- a block comes to one
  abbrev pub BlockGoes : Names ℕ → Block → Type 0
  BlockGoes scope block = (old : Made) → Goes (λ m. m ≡ old) (flat_block g scope block) (BodyMade scope old)

  -- at its beginning nothing is made but what was made before
  begins : (here : Scope) (m : Made) (scope : Names ℕ) → Sofar p spelling (record { here = here; old = m; scope = scope }) scope [] (record m { commands = [] })
  begins here m scope = record {
    at = λ spells. (
      spells,
      λ begun. record {
        chained = tt;
        numbered = refl;
        grown = le_refl (length m.names);
        adopted = sym (append-nil (pairs_of m.clauses));
        sound = begun.0;
        local = begun.1;
        all = tt;
      },
    );
  }

  -- no fault is taken back at its end
  same : (brace : Place) (before : List Command) (c : Came ℕ) → (made_in (body_came brace before c)).faults ≡ [] → (made_in c).faults ≡ []
  same brace before (Came_to v made) none = none

  -- at its end its commands and its value are a body
  ended : (brace : Place) (scope : Names ℕ) (m : Made) (c : Came ℕ) → ((here : Scope) → (inner : Names ℕ) × Sofar p spelling (record { here = here; old = m; scope = scope }) inner (Value_held (value_in c) ∷ []) (made_in c))
      → BodyMade scope m (value_in (body_came brace m.commands c)) (made_in (body_came brace m.commands c))
  ended brace scope m (Came_to v made) all spells = (
    ((all []).1.at spells).0,
    λ here begun. let k = ((all here).1.at spells).1 begun in record {
      is = chained_whole p spelling here (length m.names) v made.commands k.chained k.all.0;
      count = sym k.numbered;
      grown = k.grown;
      commands = refl;
      pairs = k.adopted;
    },
  )

  -- a block, if its items and its value go so
  pub block_goes : (scope : Names ℕ) (items : BlockItems) (value : Value) (brace : Place) → ItemsGo scope items → ((inner : Names ℕ) → ValueGoes inner brace value) → BlockGoes scope (The_block items value brace)
  unfolding flat_block
  block_goes scope items value brace all last old = record {
    clean = λ m none. (inside (record { here = []; old = m; scope = scope })).clean (start m) (same brace m.commands (part (start m)) none);
    leads = λ m none is. subst (λ made. BodyMade scope made (value_in (body_came brace m.commands (part (start m)))) (made_in (body_came brace m.commands (part (start m))))) is
        (ended brace scope m (part (start m)) (λ here. (inside (record { here = here; old = m; scope = scope })).leads (start m) (same brace m.commands (part (start m)) none) (begins here m scope)));
  }
    where
      part : Part ℕ
      part = flat_items g scope items >>= λ inner. flat_value g inner brace value

      start : Made → Made
      start m = record m { commands = [] }

      inside : (b : Begun) → Goes (Sofar p spelling b scope []) part (λ x m. (inner : Names ℕ) × Sofar p spelling b inner (Value_held x ∷ []) m)
      inside b = first_then _ _ (all b) (λ inner. weakened (λ m q. q) (λ x m q. (inner, q)) (last inner b))
