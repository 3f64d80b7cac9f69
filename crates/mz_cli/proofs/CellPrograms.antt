-- The flat program of a tree of the first form is one of cells, where nothing is wrong with it and no name stands for a
-- function.
use Rattle.std.proofs.Common.{◌≡◌, ℕ, zero, suc, ◌==◌, Bool, true, false, ◌&&◌, ◌||◌, List, [], ◌∷◌, ◌++◌, map, Option, Some, None, refl, sym, ap, ap₂, ◌∙◌, subst, slice_get, codes, if◌then◌else◌}
use Rattle.std.specs.Prelude.{option_map, option_and_then, unwrap_or}
use Rattle.std.specs.List.{range_with_len}
use Rattle.std.specs.Str.{bytes_eq}
use Rattle.std.specs.Cmp.Lexicographic.{bytes_decides}
use Rattle.mz_tree.specs.declared.types.Place.{Place}
use Rattle.mz_tree.specs.Plain.{Atom, Has_atom, Int_type, Unknown_type}
use Rattle.mz_tree.specs.Code.{Body, commands_in}
use Rattle.mz_tree.specs.Programs.{Need, Sig, Fun, Program}
use Rattle.mz_scope.specs.Syntax.{Word, FieldTree, ConTree, Int_tree, Unknown_tree, No_atom_trees, BlockItems, Value, The_block, Declaration}
use Rattle.mz_scope.specs.Names.{Names, find, numbered, Globals, globals_of, TypeEntry, ConEntry, FunEntry, sig_of, sig_number}
use Rattle.mz_scope.specs.Making.{CoreName, Made, Came, Came_to, Part, ◌>>=◌, ◌>>◌, give, fault_if, nothing_made}
use Rattle.mz_scope.specs.Bodies.{flat_block}
use Rattle.mz_scope.specs.Types.{flat_typed, flat_atoms}
use Rattle.mz_scope.specs.Declarations.{is_other, declares, all_of, no_program, FunctionBody, body_made, with_params, too_many, fields_from, cons_from, data_type, signature, params_by_name, function, declarations}
use Rattle.mz_scope.specs.Flattening.{flattened, program_in, flat_program, faults_in, faults_of}
use Rattle.mz_tree.specs.Main.{has_main}
use Rattle.mz_cli.specs.FirstForm.{names_function}
use Rattle.mz_cli.proofs.NameKinds.{IsKinded}
use Rattle.mz_cli.proofs.Cells.{CellNames, cell_variety, cell_con, cell_sig, IsOfCells}
use Rattle.mz_cli.proofs.CellTrees.{AreItems, IsEnd, CellWords, data_tree_of, sig_tree_of, fun_tree_of, cell_tree, IsCellTree, The_cells}
use Rattle.mz_scoped.proofs.Goes.{value_in, made_in, Goes, first_then, first_and, weakened, framed, given, not_so, is_declared}
use Rattle.mz_cli.proofs.Made.{NoFunction}
use Rattle.mz_cli.proofs.CellBodies.{Fresh, Bodied, block_goes}

-- ---- names of a sort

declares_goes : {P : Made → Type 0} (first : Option ℕ) (number most : ℕ) (name : Word) → Goes P (declares first number most name) (λ _ m. P m)
declares_goes first number most name =
    first_and _ _ (weakened (λ m p. p) (λ _ m q. q.1) (not_so (is_other first number) _ name.place))
    (weakened (λ m p. p) (λ _ m q. q.1) (not_so (number == most) _ name.place))

-- no structural type adopts
abbrev Plain : Made → Type 0
Plain m = m.clauses ≡ []

-- ---- functions

-- the only signature has the number 0
only_sig : {T : Type 0} (f : T → Option ℕ) (one two : T) → f one ≡ None → f two ≡ Some 0 → (b c : Bool) (s : ℕ) → option_and_then f (if b then Some one else (if c then Some two else None)) ≡ Some s → s ≡ 0
only_sig f one two nothing zeroth true c s is = cc
only_sig f one two nothing zeroth false true s is = cc
only_sig f one two nothing zeroth false false s is = cc

-- no signature has a parameter
abbrev no_words : List Word
no_words = []

no_params : (number : Option ℕ) → unwrap_or (option_and_then (slice_get (no_words ∷ [])) number) [] ≡ no_words
no_params None = refl
no_params (Some zero) = refl
no_params (Some (suc n)) = refl

-- the body of a function without parameters
abbrev Functioned : FunctionBody → Made → Type 0
Functioned f m = (m.clauses ≡ []) × (NoFunction (commands_in f.body) → IsKinded f.body)

body_goes : (part : Part Body) → Goes Fresh part Bodied → Goes Plain (with_params [] part) Functioned
body_goes part goes = record {
  clean = λ m none. goes.clean (start m) (same (part (start m)) none);
  leads = λ m none p. out (part (start m)) (goes.leads (start m) (same (part (start m)) none) (p, refl));
}
  where
    start : Made → Made
    start m = record m { names = [] }

    same : (c : Came Body) → (made_in (body_made c)).faults ≡ [] → (made_in c).faults ≡ []
    same (Came_to b made) none = none

    out : (c : Came Body) → Bodied (value_in c) (made_in c) → Functioned (value_in (body_made c)) (made_in (body_made c))
    out (Came_to b made) done = (done.0, done.1)

too_many_goes : {P : Made → Type 0} (past : Option CoreName) → Goes P (too_many past) (λ _ m. P m)
too_many_goes None = given tt (λ m p. p)
too_many_goes (Some past) = weakened (λ m p. p) (λ _ m q. q.1) (not_so true _ past.place)

-- nothing more
nothing_more : {P : Made → Type 0} {A : Type 0} → Goes P (give {A = List A} []) (λ others m. (others ≡ []) × P m)
nothing_more = given [] (λ m p. (refl, p))

module _ (w : CellWords) (items : BlockItems) (value : Value) (brace : Place) (are : AreItems items) (end : IsEnd value) where
  abbrev g : Globals
  g = globals_of (cell_tree w items value brace)

  abbrev names : CellNames
  names = record { variety = w.variety.text; place = w.variety.place; con = w.con.text; field = w.field.text; sig = w.sig.text }

  -- ---- the data type

  abbrev fields_tree : List FieldTree
  fields_tree = record { name = w.field; ty = Int_tree } ∷ []

  fields_go : (scope : Names ℕ) → Goes Plain (fields_from g scope 0 fields_tree) (λ fields m. (fields ≡ (cell_con names).fields) × Plain m)
  unfolding flat_typed
  fields_go scope =
      first_and _ _ (declares_goes (find scope w.field.text) 0 32 w.field)
      (first_then (give (Has_atom 0 Int_type)) _ (given {Q = λ content m. (content ≡ Has_atom 0 Int_type) × Plain m} (Has_atom 0 Int_type) (λ m p. (refl, p)))
      (λ content. first_then (give []) _ nothing_more
      (λ others. given (record { name = w.field.text; content = content } ∷ others) (λ m p. (ap₂ (λ c rest. record { name = w.field.text; content = c } ∷ rest) p.1.0 p.0, p.1.1)))))

  abbrev con_tree : ConTree
  con_tree = record { name = w.con; fields = fields_tree }

  cons_go : Goes Plain (cons_from g 0 0 (con_tree ∷ [])) (λ cons m. (cons ≡ cell_con names ∷ []) × Plain m)
  cons_go =
      first_and _ _ (declares_goes (option_map (λ (c : ConEntry). c.number) (find g.cons w.con.text)) 0 1000 w.con)
      (first_then _ _ (fields_go (numbered 0 (w.field ∷ [])))
      (λ fields. first_then (give []) _ nothing_more
      (λ others. given (record { name = w.con.text; variety = 0; fields = fields } ∷ others) (λ m p. (ap₂ (λ f rest. record { name = w.con.text; variety = 0; fields = f } ∷ rest) p.1.0 p.0, p.1.1)))))

  data_goes : Goes Plain (data_type g 0 0 (data_tree_of w)) (λ v m. (v ≡ cell_variety names) × Plain m)
  data_goes =
      first_and _ _ (declares_goes (option_map (λ (t : TypeEntry). t.position) (find g.types w.variety.text)) 0 1000 w.variety)
      (first_then (give None) _ (given {Q = λ u m. (u ≡ None) × Plain m} None (λ m p. (refl, p)))
      (λ u. given (record { name = w.variety.text; place = w.variety.place; mutable = true; adopts = u; cons = range_with_len 0 1 }) (λ m p. (ap (λ a. record { name = w.variety.text; place = w.variety.place; mutable = true; adopts = a; cons = 0 ∷ [] }) p.0, p.1))))

  -- ---- the signature

  Before : List Need → List Need → Made → Type 0
  Before of_params others m = (others ≡ []) × ((of_params ≡ []) × Plain m)

  abbrev sig_end : List Need → List Need → Part Sig
  sig_end of_params others = flat_typed g (all_of (sig_tree_of w)) 0 Unknown_tree >>= λ a. flat_atoms g (all_of (sig_tree_of w)) No_atom_trees >>= λ gives. give (record { name = w.sig.text; count = 0; needs = of_params ++ others; gives = a ∷ gives })

  sig_end_goes : (of_params others : List Need) → Goes (Before of_params others) (sig_end of_params others) (λ s m. (s ≡ cell_sig names) × Plain m)
  unfolding flat_typed flat_atoms Before
  sig_end_goes of_params others =
      first_then (give (Has_atom 0 Unknown_type)) _ typed
      (λ a. first_then (give []) _ nothing_more
      (λ gives. all a gives))
    where
      typed : Goes (Before of_params others) (give {A = Atom ℕ} (Has_atom 0 Unknown_type)) (λ a m. (a ≡ Has_atom 0 Unknown_type) × Before of_params others m)
      typed = given (Has_atom 0 Unknown_type) (λ m p. (refl, p))

      all : (a : Atom ℕ) (gives : List (Atom ℕ)) → Goes (λ m. (gives ≡ []) × ((a ≡ Has_atom 0 Unknown_type) × Before of_params others m)) (give {A = Sig} (record { name = w.sig.text; count = 0; needs = of_params ++ others; gives = a ∷ gives })) (λ s m. (s ≡ cell_sig names) × Plain m)
      all a gives = given _ (λ m p. (
        ap₂ (λ needs gives. record { name = w.sig.text; count = 0; needs = needs; gives = gives }) (ap₂ (λ one more. one ++ more) p.1.1.1.0 p.1.1.0) (ap₂ (λ one more. one ∷ more) p.1.0 p.0),
        p.1.1.1.1,
      ))

  -- whatever the fault is called that the result would be
  sig_goes_by : (cause : _) → Goes Plain (declares (option_map (λ (t : TypeEntry). t.position) (find g.types w.sig.text)) 1 1000 w.sig >> (give [] >>= λ of_params. give [] >>= λ others. fault_if (is_other (find (all_of (sig_tree_of w)) w.result.text) 0) cause w.result.place >> sig_end of_params others)) (λ s m. (s ≡ cell_sig names) × Plain m)
  unfolding Before
  sig_goes_by cause =
      first_and _ _ (declares_goes (option_map (λ (t : TypeEntry). t.position) (find g.types w.sig.text)) 1 1000 w.sig)
      (first_then (give []) _ nothing_more
      (λ of_params. first_then (give []) _ nothing_more
      (λ others. first_and _ _ (weakened (λ m p. p) (λ _ m q. q.1) (not_so (is_other (find (all_of (sig_tree_of w)) w.result.text) 0) cause w.result.place))
      (sig_end_goes of_params others))))

  sig_goes : Goes Plain (signature g 1 (sig_tree_of w)) (λ s m. (s ≡ cell_sig names) × Plain m)
  sig_goes = sig_goes_by _

  -- ---- the function

  record IsStart (f : Fun) : Type 0 where
    named : f.name ≡ w.name.text
    sig_is : f.sig ≡ 0
    kinded : NoFunction (commands_in f.body) → IsKinded f.body

  params_go : (params : List Word) → params ≡ [] → Goes Plain (with_params params (flat_block g (numbered 0 params) (The_block items value brace))) Functioned
  params_go params none = subst (λ ps. Goes Plain (with_params ps (flat_block g (numbered 0 ps) (The_block items value brace))) Functioned) (sym none) (body_goes (flat_block g [] (The_block items value brace)) (block_goes g w.con.text w.field.text refl items value brace are end))

  sig_zero : (s : ℕ) → sig_number g.types w.of_sig.text ≡ Some s → s ≡ 0
  sig_zero s is = only_sig (λ (t : TypeEntry). sig_of t.stands_for) _ _ refl refl (bytes_eq w.variety.text w.of_sig.text) (bytes_eq w.sig.text w.of_sig.text) s is

  fun_goes : Goes Plain (function g 0 (fun_tree_of w items value brace)) (λ f m. IsStart f × Plain m)
  fun_goes =
      first_and _ _ (declares_goes (option_map (λ (f : FunEntry). f.number) (find g.funs w.name.text)) 0 1000 w.name)
      (first_then _ _ (is_declared 0 (sig_number g.types w.of_sig.text) w.of_sig.place)
      (λ s. first_then _ _ (framed (sig_number g.types w.of_sig.text ≡ Some s) (params_go (params_by_name g w.of_sig.text) (no_params (sig_number g.types w.of_sig.text))))
      (λ made. first_and _ _ (too_many_goes (slice_get made.names 256))
      (all s made))))
    where
      all : (s : ℕ) (made : FunctionBody) → Goes (λ m. (sig_number g.types w.of_sig.text ≡ Some s) × Functioned made m) (give {A = Fun} (record { name = w.name.text; sig = s; body = made.body; spelling = map (λ (n : CoreName). n.spelling) made.names })) (λ f m. IsStart f × Plain m)
      all s made = given _ (λ m p. (record { named = refl; sig_is = sig_zero s p.0; kinded = p.1.1 }, p.1.0))

  -- ---- the whole

  abbrev start_program : Fun → Program
  start_program f = record { varieties = cell_variety names ∷ []; cons = cell_con names ∷ []; sigs = cell_sig names ∷ []; funs = f ∷ []; clauses = [] }

  IsWhole : Program → Type 0
  IsWhole p = (f : Fun) × IsStart f × (p ≡ start_program f)

  whole_goes : Goes Plain (declarations g 0 0 0 0 (cell_tree w items value brace)) (λ p m. IsWhole p × Plain m)
  unfolding IsWhole
  whole_goes =
      first_then _ _ data_goes
      (λ v. first_then _ _ (framed (v ≡ cell_variety names) cons_go)
      (λ cons. first_then _ _ (framed (v ≡ cell_variety names) (framed (cons ≡ cell_con names ∷ []) after_data))
      (λ others. given _ (λ m p. ((p.1.1.0.0, p.1.1.0.1, ap (λ (q : Program). record q { varieties = v ∷ q.varieties; cons = cons ++ q.cons }) p.1.1.0.2 ∙ ap₂ (λ a b. record (start_program p.1.1.0.0) { varieties = a ∷ []; cons = b ++ [] }) p.0 p.1.0), p.1.1.1)))))
    where
      AfterSig : Program → Type 0
      AfterSig p = (f : Fun) × IsStart f × (p ≡ record no_program { funs = f ∷ [] })

      AfterData : Program → Type 0
      AfterData p = (f : Fun) × IsStart f × (p ≡ record no_program { sigs = cell_sig names ∷ []; funs = f ∷ [] })

      after_sig : Goes Plain (function g 0 (fun_tree_of w items value brace) >>= λ one. give no_program >>= λ others. give (record others { funs = one ∷ others.funs })) (λ p m. AfterSig p × Plain m)
      after_sig =
          first_then _ _ fun_goes
          (λ f. first_then (give no_program) _ (given {Q = λ others m. (others ≡ no_program) × (IsStart f × Plain m)} no_program (λ m p. (refl, p)))
          (λ others. given (record others { funs = f ∷ others.funs }) (λ m p. ((f, p.1.0, ap (λ (q : Program). record q { funs = f ∷ q.funs }) p.0), p.1.1))))

      after_data : Goes Plain (signature g 1 (sig_tree_of w) >>= λ one. (function g 0 (fun_tree_of w items value brace) >>= λ one. give no_program >>= λ others. give (record others { funs = one ∷ others.funs })) >>= λ others. give (record others { sigs = one ∷ others.sigs })) (λ p m. AfterData p × Plain m)
      after_data =
          first_then _ _ sig_goes
          (λ s. first_then _ _ (framed (s ≡ cell_sig names) after_sig)
          (λ others. given (record others { sigs = s ∷ others.sigs }) (λ m p. ((p.1.0.0, p.1.0.1, ap (λ (q : Program). record q { sigs = s ∷ q.sigs }) p.1.0.2 ∙ ap (λ t. record no_program { sigs = t ∷ []; funs = p.1.0.0 ∷ [] }) p.0), p.1.1))))

  same_faults : (c : Came Program) → faults_in c ≡ [] → (made_in c).faults ≡ []
  same_faults (Came_to p made) none = none

  either_left : (b : Bool) → (b || false) ≡ true → b ≡ true
  either_left true is = refl
  either_left false is = cc

  either_none : (b : Bool) → (b || false) ≡ false → b ≡ false
  either_none true is = cc
  either_none false is = refl

  both_left : (b c : Bool) → (b && c) ≡ true → b ≡ true
  both_left true c is = refl
  both_left false c is = cc

  finish : (c : Came Program) → IsWhole (value_in c) → Plain (made_in c) → has_main (program_in c) ≡ true → names_function (program_in c) ≡ false → IsOfCells (program_in c)
  unfolding IsWhole
  finish (Came_to p made) (f, start, is) plain main none =
      let whole : record p { clauses = made.clauses } ≡ start_program f = ap₂ (λ (q : Program) clauses. record q { clauses = clauses }) is plain in
      let has : has_main (start_program f) ≡ true = subst (λ q. has_main q ≡ true) whole main in
      let named : f.name ≡ codes "main" = (bytes_decides f.name (codes "main")).0 (both_left _ _ (either_left _ has)) in
      let plain_body : NoFunction (commands_in f.body) = either_none _ (subst (λ q. names_function q ≡ false) whole none) in
      record {
        names = names;
        body = f.body;
        spelling = f.spelling;
        is = whole ∙ ap₂ (λ n s. start_program (record { name = n; sig = s; body = f.body; spelling = f.spelling })) named start.sig_is;
        kinded = start.kinded plain_body;
      }

  pub cells_of : faults_of (cell_tree w items value brace) ≡ [] → has_main (flat_program (cell_tree w items value brace)) ≡ true → names_function (flat_program (cell_tree w items value brace)) ≡ false → IsOfCells (flat_program (cell_tree w items value brace))
  cells_of none main plain =
      let end = whole_goes.leads nothing_made (same_faults (flattened (cell_tree w items value brace)) none) refl in
      finish (flattened (cell_tree w items value brace)) end.0 end.1 main plain

-- so it is for each such tree
pub of_cells : (tree : List Declaration) → IsCellTree tree → faults_of tree ≡ [] → has_main (flat_program tree) ≡ true → names_function (flat_program tree) ≡ false → IsOfCells (flat_program tree)
of_cells tree (The_cells w items value brace are end) none main plain = cells_of w items value brace are end none main plain
