-- Expressions without bodies: each command fits where it stands, if the commands of its parts do.
use Rattle.std.proofs.Common.{◌≡◌, ◌≢◌, ℕ, ◌^◌, ◌<◌, ◌≤◌, Bool, false, List, [], ◌∷◌, length, Option, Some, None, refl, sym, ap, subst, le_refl}
use Rattle.mz_tree.specs.declared.types.Place.{Place}
use Rattle.mz_tree.specs.declared.code.Arith.{Arith}
use Rattle.mz_tree.specs.Plain.{Atom}
use Rattle.mz_tree.specs.Code.{Unit_op, New_lock_op}
use Rattle.mz_tree.specs.Programs.{Program}
use Rattle.mz_scope.specs.Syntax.{Word, AtomTrees, No_atom_trees, Select, Expr, Number_expr, Unit_expr, Name_expr, Arith_expr, Call_expr, New_expr, Read_expr, Write_expr, New_lock_expr, Print_expr, Retag_expr, Give_expr, Take_expr, Acquire_expr, Release_expr, Spawn_expr, Exprs, No_exprs, More_exprs, FieldValues, No_values, More_values}
use Rattle.mz_scope.specs.Names.{Names, find, Globals, ConEntry}
use Rattle.mz_scope.specs.Making.{Made, add_command}
use Rattle.mz_scope.specs.Types.{number_of, in_order, con_by_name, flat_atoms}
use Rattle.mz_scope.specs.Bodies.{field_in, has_other_count, differ_in_fields, flat_expression, flat_expressions, flat_values}
use Rattle.mz_tree.specs.Scoped.{Scope, Bound, IsBound, AreBound, HasFields, HasField, AreAlike, FitsBound, FitsCall, AreAtomsWithin, adopting_atoms}
use Rattle.mz_scoped.proofs.Proper.{AllOf, AreProperAtoms}
use Rattle.mz_scoped.proofs.Grounds.{Grounds, IsEntry, AreIn, Adds}
use Rattle.mz_scoped.proofs.Goes.{Goes, first_then, weakened, framed, given, not_so, is_declared}
use Rattle.mz_scoped.proofs.Entries.{con_goes}
use Rattle.mz_scoped.proofs.ScopedTypes.{atoms_goes}
use Rattle.mz_scoped.proofs.ScopedFields.{AreGiven, field_given, fields_given, in_order_bound, in_order_count}
use Rattle.mz_scoped.proofs.ScopedShapes.{select_goes, alike}
use Rattle.mz_scoped.proofs.KeptNames.{Spells}
use Rattle.mz_scoped.proofs.FineCommands.{each_of, all_map, Held, Value_held, Values_held, Fields_held, Callee_held, IsHeld}
use Rattle.mz_scoped.proofs.LocalNames.{local_in, bounds_of, all_in}
use Rattle.mz_scoped.proofs.ScopedParts.{Begun, IsBegun, Sofar, sofar_as, Next, value_goes, plain_goes}
use Rattle.mz_scoped.proofs.ScopedNames.{name_goes}

module _ (p : Program) (g : Globals) (grounds : Grounds p g) (spelling : List (List ℕ)) where
  -- ---- what is said of expressions

  -- the value of an expression is bound
  abbrev pub ExprGoes : Names ℕ → Expr → Type 0
  ExprGoes scope e = (b : Begun) (held : List Held) → Goes (Sofar p spelling b scope held) (flat_expression g scope e) (λ x. Sofar p spelling b scope (Value_held x ∷ held))

  -- so are the values of several
  abbrev pub ExprsGo : Names ℕ → Exprs → Type 0
  ExprsGo scope all = (b : Begun) (held : List Held) → Goes (Sofar p spelling b scope held) (flat_expressions g scope all) (λ xs. Sofar p spelling b scope (Values_held xs ∷ held))

  -- and those of fields
  abbrev pub ValuesGo : Names ℕ → FieldValues → Type 0
  ValuesGo scope all = (con : Option ConEntry) (b : Begun) (held : List Held) → Goes (Sofar p spelling b scope held) (flat_values g scope con all) (λ fields. Sofar p spelling b scope (Fields_held fields ∷ held))

  -- ---- values, names and arithmetic

  -- a number that is in range
  pub number_goes : (scope : Names ℕ) (n : ℕ) (place : Place) → n < 2 ^ 64 → ExprGoes scope (Number_expr n place)
  unfolding flat_expression
  number_goes scope n place small b held = plain_goes p spelling held (λ n. refl) refl (λ m q. (q, λ now n k. small)) (λ now n k. k)

  -- the value `()`, also at the end of a block
  pub unit_goes : (scope : Names ℕ) (place : Place) (b : Begun) (held : List Held) → Goes (Sofar p spelling b scope held) (add_command place Unit_op) (λ x. Sofar p spelling b scope (Value_held x ∷ held))
  unit_goes scope place b held = plain_goes p spelling held (λ n. refl) refl (λ m q. (q, λ now n k. tt)) (λ now n k. k)

  -- and as an expression
  pub unit_expr_goes : (scope : Names ℕ) (place : Place) → ExprGoes scope (Unit_expr place)
  unfolding flat_expression
  unit_expr_goes scope place = unit_goes scope place

  -- a name
  pub name_expr_goes : (scope : Names ℕ) (name : Word) → ExprGoes scope (Name_expr name)
  unfolding flat_expression
  name_expr_goes scope name b held = weakened (λ m q. q) (λ x m q. sofar_as p spelling (λ now n k. (k.0.0, k.1)) q) (name_goes p g grounds spelling b scope held name)

  -- arithmetic
  pub arith_goes : (scope : Names ℕ) (left : Expr) (operator : Arith) (place : Place) (right : Expr) → ExprGoes scope left → ExprGoes scope right → ExprGoes scope (Arith_expr left operator place right)
  unfolding flat_expression
  arith_goes scope left operator place right one two b held =
      first_then _ _ (one b held)
      (λ x. first_then _ _ (two b (Value_held x ∷ held))
      (λ y. plain_goes p spelling held (λ n. refl) refl (λ m q. (q, λ now n k. (k.1.0, k.0))) (λ now n k. k.1.1)))

  -- a number is printed
  pub print_goes : (scope : Names ℕ) (place : Place) (value : Expr) → ExprGoes scope value → ExprGoes scope (Print_expr place value)
  unfolding flat_expression
  print_goes scope place value one b held =
      first_then _ _ (one b held)
      (λ x. plain_goes p spelling held (λ n. refl) refl (λ m q. (q, λ now n k. k.0)) (λ now n k. k.1))

  -- ---- calls

  -- a callee fits as many arguments as it takes
  fits_call : (now : Scope) (n f count : ℕ) (other : ℕ → Bool) → IsHeld p spelling now n (Callee_held f other) → other count ≡ false → FitsCall p now f count
  fits_call now n f count other held fits = each_of (λ (c : Bound). c.name ≡ f → FitsBound p c count) now (all_map now (λ c all same. all same count fits) held.2)

  -- a call
  pub call_goes : (scope : Names ℕ) (callee : Word) (arguments : Exprs) → ExprsGo scope arguments → ExprGoes scope (Call_expr callee arguments)
  unfolding flat_expression
  call_goes scope callee arguments all b held =
      first_then _ _ (name_goes p g grounds spelling b scope held callee)
      (λ f. first_then _ _ (all b (Callee_held f (has_other_count g scope callee.text) ∷ held))
      (λ xs. first_then _ _ (not_so (has_other_count g scope callee.text (length xs)) _ callee.place)
      (λ _. plain_goes p spelling held (λ n. refl) refl (λ m q. (q.1, λ now n k. (k.1.0.0, each_of (IsBound now) xs k.0, fits_call now n f (length xs) (has_other_count g scope callee.text) k.1.0 q.0))) (λ now n k. k.1.1))))

  -- a call in a new thread, with one argument
  pub spawn_goes : (scope : Names ℕ) (place : Place) (callee : Word) (argument : Expr) → ExprGoes scope argument → ExprGoes scope (Spawn_expr place callee argument)
  unfolding flat_expression
  spawn_goes scope place callee argument one b held =
      first_then _ _ (name_goes p g grounds spelling b scope held callee)
      (λ f. first_then _ _ (one b (Callee_held f (has_other_count g scope callee.text) ∷ held))
      (λ x. first_then _ _ (not_so (has_other_count g scope callee.text 1) _ callee.place)
      (λ _. plain_goes p spelling held (λ n. refl) refl (λ m q. (q.1, λ now n k. (k.1.0.0, k.0, fits_call now n f 1 (has_other_count g scope callee.text) k.1.0 q.0))) (λ now n k. k.1.1))))

  -- no arguments
  pub no_exprs_go : (scope : Names ℕ) → ExprsGo scope No_exprs
  unfolding flat_expression
  no_exprs_go scope b held = given [] (λ m q. sofar_as p spelling (λ now n k. (tt, k)) q)

  -- one more argument
  pub more_exprs_go : (scope : Names ℕ) (one : Expr) (rest : Exprs) → ExprGoes scope one → ExprsGo scope rest → ExprsGo scope (More_exprs one rest)
  unfolding flat_expression
  more_exprs_go scope one rest first others b held =
      first_then _ _ (first b held)
      (λ x. first_then _ _ (others b (Value_held x ∷ held))
      (λ xs. given (x ∷ xs) (λ m q. sofar_as p spelling (λ now n k. ((k.1.0, k.0), k.1.1)) q)))

  -- ---- blocks of fields

  -- a constructor that is declared
  abbrev pub Entered : Option ConEntry → Type 0
  Entered o = (c : ConEntry) × (o ≡ Some c) × IsEntry p c

  -- by its name
  pub entry_goes : {P : Made → Type 0} (name : Word) → Goes P (con_by_name g name) (λ o m. Entered o × P m)
  entry_goes name = weakened (λ m q. q) (λ o m q. ((q.0.0, q.0.1, q.0.3), q.1)) (con_goes p g grounds name)

  -- the fields in declared order are bound, and as many as are declared
  new_is : (now : Scope) (con : Option ConEntry) (written : Names ℕ) → Entered con → AreGiven con written → AllOf (λ (one : List ℕ × ℕ). IsBound now one.1) written
      → HasFields p (number_of con) (length (in_order con written)) × AreBound now (in_order con written)
  new_is now con written (c, is, entry) are all =
      let fields : HasFields p c.number (length (in_order (Some c) written)) = subst (HasFields p c.number) (sym (in_order_count c written)) entry.fields in
      let bound : AreBound now (in_order (Some c) written) = in_order_bound now c written (subst (λ o. AreGiven o written) is are) (each_of (λ (one : List ℕ × ℕ). IsBound now one.1) written all) in
      subst (λ o. HasFields p (number_of o) (length (in_order o written)) × AreBound now (in_order o written)) (sym is) (fields, bound)

  -- a new block
  pub new_goes : (scope : Names ℕ) (name : Word) (fields : FieldValues) → ValuesGo scope fields → ExprGoes scope (New_expr name fields)
  unfolding flat_expression
  new_goes scope name fields all b held =
      first_then _ _ (entry_goes name)
      (λ con. first_then _ _ (framed (Entered con) (all con b held))
      (λ written. first_then _ _ (fields_given con written name.place)
      (λ _. plain_goes p spelling held (λ n. refl) refl (λ m q. (q.1.1, λ now n k. new_is now con written q.1.0 q.0 k.0)) (λ now n k. k.1))))

  -- no fields
  pub no_values_go : (scope : Names ℕ) → ValuesGo scope No_values
  unfolding flat_expression
  no_values_go scope con b held = given [] (λ m q. sofar_as p spelling (λ now n k. (tt, k)) q)

  -- one more field
  pub more_values_go : (scope : Names ℕ) (field : Word) (value : Expr) (rest : FieldValues) → ExprGoes scope value → ValuesGo scope rest → ValuesGo scope (More_values field value rest)
  unfolding flat_expression
  more_values_go scope field value rest first others con b held =
      first_then _ _ (field_given con field)
      (λ _. first_then _ _ (first b held)
      (λ x. first_then _ _ (others con b (Value_held x ∷ held))
      (λ more. given ((field.text, x) ∷ more) (λ m q. sofar_as p spelling (λ now n k. ((k.1.0, k.0), k.1.1)) q))))

  -- ---- fields

  -- what a field's number is, where the constructor is known
  abbrev IsFieldNumber : Option ConEntry → Word → ℕ → Type 0
  IsFieldNumber None field i = Unit {0}
  IsFieldNumber (Some c) field i = find c.fields field.text ≡ Some i

  -- a field that is declared
  number_field : {P : Made → Type 0} (con : Option ConEntry) (field : Word) → Goes P (field_in con field) (λ i m. IsFieldNumber con field i × P m)
  number_field None field = given 0 (λ m q. (tt, q))
  number_field (Some c) field = is_declared 0 (find c.fields field.text) field.place

  -- its number is one of the constructor's
  has_field : (con : Option ConEntry) (field : Word) (i : ℕ) → Entered con → IsFieldNumber con field i → HasField p (number_of con) i
  has_field con field i (c, is, entry) number =
      let within : i < length c.fields = entry.places field.text i (subst (λ o. IsFieldNumber o field i) is number) in
      subst (λ o. HasField p (number_of o) i) (sym is)
      (record { found = entry.fields.found; declared = entry.fields.declared; within = subst (λ n. i < n) (sym entry.fields.fields) within })

  -- a field is read
  pub read_goes : (scope : Names ℕ) (block : Expr) (select : Select) → ExprGoes scope block → ExprGoes scope (Read_expr block select)
  unfolding flat_expression
  read_goes scope block select one b held =
      first_then _ _ (one b held)
      (λ x. first_then _ _ (select_goes p g grounds select.con select.field)
      (λ con. first_then _ _ (number_field con select.field)
      (λ i. plain_goes p spelling held (λ n. refl) refl (λ m q. (q.1.1, λ now n k. (k.0, has_field con select.field i q.1.0 q.0))) (λ now n k. k.1))))

  -- a field is written
  pub write_goes : (scope : Names ℕ) (block : Expr) (select : Select) (place : Place) (value : Expr) → ExprGoes scope block → ExprGoes scope value → ExprGoes scope (Write_expr block select place value)
  unfolding flat_expression
  write_goes scope block select place value one two b held =
      first_then _ _ (one b held)
      (λ x. first_then _ _ (select_goes p g grounds select.con select.field)
      (λ con. first_then _ _ (number_field con select.field)
      (λ i. first_then _ _ (framed (IsFieldNumber con select.field i) (framed (Entered con) (two b (Value_held x ∷ held))))
      (λ y. plain_goes p spelling held (λ n. refl) refl (λ m q. (q.1.1, λ now n k. (k.1.0, has_field con select.field i q.1.0 q.0, k.0))) (λ now n k. k.1.1)))))

  -- ---- what is done with one name, or two

  -- constructors with equally many fields
  retag_is : (a c : Option ConEntry) → Entered a → Entered c → differ_in_fields a c ≡ false → AreAlike p (number_of a) (number_of c)
  retag_is a c (one, is, entry) (two, same, other) alike_fields =
      subst (λ o. AreAlike p (number_of o) (number_of c)) (sym is)
      (subst (λ o. AreAlike p one.number (number_of o)) (sym same)
      (alike p g grounds one two entry other (subst (λ o. differ_in_fields (Some one) o ≡ false) same (subst (λ o. differ_in_fields o c ≡ false) is alike_fields))))

  -- a change of tags
  pub retag_goes : (scope : Names ℕ) (place : Place) (name old new : Word) → ExprGoes scope (Retag_expr place name old new)
  unfolding flat_expression
  retag_goes scope place name old new b held =
      first_then _ _ (name_goes p g grounds spelling b scope held name)
      (λ x. first_then _ _ (entry_goes old)
      (λ a. first_then _ _ (entry_goes new)
      (λ c. first_then _ _ (not_so (differ_in_fields a c) _ place)
      (λ _. plain_goes p spelling held (λ n. refl) refl (λ m q. (q.1.1.1, λ now n k. (k.0.0, retag_is a c q.1.1.0 q.1.0 q.0))) (λ now n k. k.1)))))

  -- a block is given to its adopter
  pub give_goes : (scope : Names ℕ) (place : Place) (name adopter : Word) → ExprGoes scope (Give_expr place name adopter)
  unfolding flat_expression
  give_goes scope place name adopter b held =
      first_then _ _ (name_goes p g grounds spelling b scope held name)
      (λ x. first_then _ _ (name_goes p g grounds spelling b scope _ adopter)
      (λ y. plain_goes p spelling held (λ n. refl) refl (λ m q. (q, λ now n k. (k.1.0.0, k.0.0))) (λ now n k. k.1.1)))

  -- or taken back from it
  pub take_goes : (scope : Names ℕ) (place : Place) (name adopter : Word) → ExprGoes scope (Take_expr place name adopter)
  unfolding flat_expression
  take_goes scope place name adopter b held =
      first_then _ _ (name_goes p g grounds spelling b scope held name)
      (λ x. first_then _ _ (name_goes p g grounds spelling b scope _ adopter)
      (λ y. plain_goes p spelling held (λ n. refl) refl (λ m q. (q, λ now n k. (k.1.0.0, k.0.0))) (λ now n k. k.1.1)))

  -- a lock is taken
  pub acquire_goes : (scope : Names ℕ) (place : Place) (name : Word) → ExprGoes scope (Acquire_expr place name)
  unfolding flat_expression
  acquire_goes scope place name b held =
      first_then _ _ (name_goes p g grounds spelling b scope held name)
      (λ x. plain_goes p spelling held (λ n. refl) refl (λ m q. (q, λ now n k. k.0.0)) (λ now n k. k.1))

  -- or freed
  pub release_goes : (scope : Names ℕ) (place : Place) (name : Word) → ExprGoes scope (Release_expr place name)
  unfolding flat_expression
  release_goes scope place name b held =
      first_then _ _ (name_goes p g grounds spelling b scope held name)
      (λ x. plain_goes p spelling held (λ n. refl) refl (λ m q. (q, λ now n k. k.0.0)) (λ now n k. k.1))

  -- ---- locks

  -- atoms add nothing but clauses, and they are of each scope that has the source's names
  pub record AtomsMade (scope : Names ℕ) (most : ℕ) (all : AtomTrees) (old : Made) (atoms : List (Atom ℕ)) (m : Made) : Type 0 where
    pub adds : Adds (adopting_atoms atoms) old m
    pub some : all ≢ No_atom_trees → atoms ≢ []
    pub are : (here : Scope) → AreIn here scope → AreAtomsWithin p most here atoms

  -- wherever they begin
  pub atoms_made : {P : Made → Type 0} (scope : Names ℕ) (most : ℕ) (all : AtomTrees) → AreProperAtoms most all → Goes P (flat_atoms g scope all) (λ atoms m. (old : Made) × P old × AtomsMade scope most all old atoms m)
  atoms_made scope most all proper = record {
    clean = λ m none. (goes (bounds_of scope) (all_in scope) m).clean m none;
    leads = λ m none before. (
      m,
      before,
      record {
        adds = ((goes (bounds_of scope) (all_in scope) m).leads m none refl).2;
        some = ((goes (bounds_of scope) (all_in scope) m).leads m none refl).1;
        are = λ here names. ((goes here names m).leads m none refl).0;
      },
    );
  }
    where
      goes : (here : Scope) → AreIn here scope → (old : Made) → Goes (λ m. m ≡ old) (flat_atoms g scope all) (λ atoms m. AreAtomsWithin p most here atoms × (all ≢ No_atom_trees → atoms ≢ []) × Adds (adopting_atoms atoms) old m)
      goes here names old = atoms_goes p g grounds scope here names most all proper old

  -- a new lock
  pub lock_goes : (scope : Names ℕ) (place : Place) (guarded : AtomTrees) → guarded ≢ No_atom_trees → AreProperAtoms 199 guarded → ExprGoes scope (New_lock_expr place guarded)
  unfolding flat_expression
  lock_goes scope place guarded some proper b held =
      first_then _ _ (atoms_made scope 199 guarded proper)
      (λ atoms. value_goes p spelling held (λ m q spells. next atoms m q.0 q.1 q.2 spells) (λ now n k. k))
    where
      next : (atoms : List (Atom ℕ)) (m old : Made) → Sofar p spelling b scope held old → AtomsMade scope 199 guarded old atoms m → Spells m.names spelling → Spells b.old.names spelling × (IsBegun p spelling b → Next p spelling b scope held (New_lock_op atoms) m)
      next atoms m old before made spells =
          let sofar = before.at (subst (λ names. Spells names spelling) made.adds.names spells) in (
            sofar.0,
            λ begun. let k = sofar.1 begun in record {
              mid = old;
              known = k;
              commands = made.adds.commands;
              numbered = ap length made.adds.names;
              grown = subst (λ n. length old.names ≤ n) (sym (ap length made.adds.names)) (le_refl (length old.names));
              pairs = made.adds.clauses;
              is = (made.some some, made.are _ (local_in p spelling _ _ scope k.local));
            },
          )
