-- The declarations of a source are proper, where 200 brackets may be opened before them.
use Rattle.std.proofs.Common.{◌≢◌, ℕ, ◌≤◌, false, List, [], ◌∷◌, map, refl, arith}
use Rattle.mz_parse.specs.declared.tree.Constructor.{Constructor}
use Rattle.mz_parse.specs.declared.tree.DataDeclaration.{DataDeclaration}
use Rattle.mz_parse.specs.declared.tree.Declaration.{Declaration}
use Rattle.mz_parse.specs.declared.tree.FieldDeclaration.{FieldDeclaration}
use Rattle.mz_parse.specs.declared.tree.FunctionDeclaration.{FunctionDeclaration}
use Rattle.mz_parse.specs.declared.tree.NeedDeclaration.{NeedDeclaration}
use Rattle.mz_parse.specs.declared.tree.Parameter.{Parameter}
use Rattle.mz_parse.specs.declared.tree.SignatureDeclaration.{SignatureDeclaration}
use Rattle.mz_parse.specs.Trees.{Taken, Given}
use Rattle.mz_parse.specs.Grammar.{IsField, IsCon, IsData, IsParam, IsNeed, IsTaken, IsGiven, IsSig, IsFun, IsDeclaration, IsProgram}
use Rattle.mz_scope.specs.Trees.{type_tree, atom_tree, field_tree, con_tree, data_tree, param_tree, need_tree, sig_tree, fun_tree, declaration_tree}
use Rattle.mz_scoped.proofs.Proper.{AllOf, IsProperField, IsProperCon, IsProperData, IsProperSig, IsProperFun, IsProper}
use Rattle.mz_scoped.proofs.Spells.{Spells, then_so, weaker, behind, either_spells, image_spells, maybe_spells, many_spells, low_spells, up_spells, key_spells, mark_spells, closing_brace, closing_paren, in_braces, in_parens, separated_spells, maybe_separated_spells, maybe_behind_spells}
use Rattle.mz_scoped.proofs.ProperTypes.{wider_type, wider_atom, wider_atoms, TypeAt, AtomAt, AtomsAt, clause_spells, type_spells, atom_spells, atoms_spell}
use Rattle.mz_scoped.proofs.ProperParts.{all_within}
use Rattle.mz_scoped.proofs.ProperBodies.{block_spells}

-- what holds of the tree of each member holds of each member of the list of trees
map_all : {A B : Type 0} (P : B → Type 0) (f : A → B) (members : List A) → AllOf (λ a. P (f a)) members → AllOf P (map f members)
map_all P f [] h = tt
map_all P f (a ∷ members) h = (h.0, map_all P f members h.1)

-- a list of trees has a member where the list has one
map_some : {A B : Type 0} (f : A → B) (members : List A) → members ≢ [] → map f members ≢ []
map_some f [] some = absurd (some refl)
map_some f (a ∷ members) some = λ e. cc

module _ (bytes : List ℕ) where
  -- where no more than 200 brackets may be opened, these are proper

  -- a field
  abbrev FieldAt : ℕ → FieldDeclaration → Type 0
  FieldAt n f = n ≤ 200 → IsProperField (field_tree bytes f)

  -- a constructor
  abbrev ConAt : ℕ → Constructor → Type 0
  ConAt n c = n ≤ 200 → IsProperCon (con_tree bytes c)

  -- a data type
  abbrev DataAt : ℕ → DataDeclaration → Type 0
  DataAt n x = n ≤ 200 → IsProperData (data_tree bytes x)

  -- the type of a parameter
  abbrev ParamAt : ℕ → Parameter → Type 0
  ParamAt n p = TypeAt bytes n p.ty

  -- the atom of a need
  abbrev NeedAt : ℕ → NeedDeclaration → Type 0
  NeedAt n x = AtomAt bytes n x.atom

  -- what a function takes
  abbrev TakenAt : ℕ → Taken → Type 0
  TakenAt n taken = n ≤ 200 → AllOf (ParamAt 200) taken.0 × AllOf (NeedAt 200) taken.1

  -- what a function gives
  abbrev GivenAt : ℕ → Given → Type 0
  GivenAt n given = n ≤ 200 → TypeAt bytes 200 given.1 × AtomsAt bytes 200 given.2

  -- a signature
  abbrev SigAt : ℕ → SignatureDeclaration → Type 0
  SigAt n x = n ≤ 200 → IsProperSig (sig_tree bytes x)

  -- a function
  abbrev FunAt : ℕ → FunctionDeclaration → Type 0
  FunAt n x = n ≤ 200 → IsProperFun (fun_tree bytes x)

  -- a declaration
  abbrev pub DeclarationAt : ℕ → Declaration → Type 0
  DeclarationAt n d = n ≤ 200 → IsProper (declaration_tree bytes d)

  -- ---- data types

  -- low ":" type
  field_spells : Spells bytes false IsField FieldAt
  field_spells = then_so low_spells (λ name. behind (mark_spells 5 refl) (λ colon. image_spells (type_spells bytes false) (λ n ty h low le. (low, wider_type n 200 le (type_tree bytes ty) h))))

  -- up "{" [ field { ";" field } ] "}"
  con_spells : Spells bytes false IsCon ConAt
  con_spells = then_so up_spells (λ name. in_braces (λ opening. then_so (maybe_separated_spells (mark_spells 4 refl) field_spells) (λ fields. image_spells closing_brace (λ k closing u all up le.
      let within : k ≤ 200 = omega (arith, le) in
      (up, map_all _ (field_tree bytes) fields (all_within _ within fields all))))))

  -- "data" ["mutable"] low ["adopts" low] "=" con { "|" con }
  data_spells : Spells bytes false IsData DataAt
  data_spells =
      behind (key_spells 0) (λ word. behind (maybe_spells (key_spells 1)) (λ mutable. then_so low_spells (λ name. behind (maybe_spells (clause_spells bytes)) (λ adopts. behind (mark_spells 8 refl) (λ is.
      image_spells (separated_spells (mark_spells 23 refl) con_spells) (λ n cons all low le.
      (low, map_some (con_tree bytes) cons all.0, map_all _ (con_tree bytes) cons (all_within _ le cons all.1))))))))

  -- ---- signatures

  -- ["consumes"] low ":" type
  param_spells : Spells bytes false IsParam ParamAt
  param_spells = behind (maybe_spells (key_spells 5)) (λ consumes. behind low_spells (λ name. behind (mark_spells 5 refl) (λ colon. image_spells (type_spells bytes false) (λ n ty h. h))))

  -- ["consumes"] atom
  need_spells : Spells bytes false IsNeed NeedAt
  need_spells = behind (maybe_spells (key_spells 5)) (λ consumes. image_spells (atom_spells bytes false) (λ n a h. h))

  -- lists, where more brackets may be opened
  wider_params : (n : ℕ) → n ≤ 200 → (params : List Parameter) → AllOf (ParamAt n) params → AllOf (ParamAt 200) params
  wider_params n le [] h = tt
  wider_params n le (p ∷ rest) h = (wider_type n 200 le (type_tree bytes p.ty) h.0, wider_params n le rest h.1)

  -- likewise
  wider_needs : (n : ℕ) → n ≤ 200 → (needs : List NeedDeclaration) → AllOf (NeedAt n) needs → AllOf (NeedAt 200) needs
  wider_needs n le [] h = tt
  wider_needs n le (x ∷ rest) h = (wider_atom n 200 le (atom_tree bytes x.atom) h.0, wider_needs n le rest h.1)

  -- "(" [ param { "," param } ] ["|" need { "*" need }] ")"
  taken_spells : Spells bytes false IsTaken TakenAt
  taken_spells =
      in_parens (λ opening. then_so (maybe_separated_spells (mark_spells 6 refl) param_spells) (λ params.
      then_so (maybe_behind_spells {P = λ n needs. AllOf (NeedAt n) needs} (mark_spells 23 refl) (weaker (separated_spells (mark_spells 9 refl) need_spells) (λ n needs h. h.1)) (λ n. tt)) (λ needs.
      image_spells closing_paren (λ k closing u need param le.
      let within : k ≤ 200 = omega (arith, le) in
      (wider_params k within params param, wider_needs k within needs need)))))

  -- "(" low ":" type ["|" atoms] ")"
  given_spells : Spells bytes false IsGiven GivenAt
  given_spells =
      in_parens (λ opening. behind low_spells (λ result. behind (mark_spells 5 refl) (λ colon. then_so (type_spells bytes false) (λ ty.
      then_so (maybe_behind_spells {P = AtomsAt bytes} (mark_spells 23 refl) (weaker (atoms_spell bytes false) (λ n atoms h. h.1)) (λ n. tt)) (λ gives.
      image_spells closing_paren (λ k closing u give type le.
      let within : k ≤ 200 = omega (arith, le) in
      (wider_type k 200 within (type_tree bytes ty) type, wider_atoms k 200 within _ give)))))))

  -- "sig" low "=" taken "->" given
  sig_spells : Spells bytes false IsSig SigAt
  sig_spells =
      behind (key_spells 3) (λ word. then_so low_spells (λ name. behind (mark_spells 8 refl) (λ is. then_so taken_spells (λ taken. behind (mark_spells 15 refl) (λ arrow. image_spells given_spells (λ n given g t low le.
      (low, map_all _ (param_tree bytes) taken.0 (t le).0, map_all _ (need_tree bytes) taken.1 (t le).1, (g le).0, (g le).1)))))))

  -- ---- functions

  -- "fun" low ":" low "=" block
  fun_spells : Spells bytes false IsFun FunAt
  fun_spells =
      behind (key_spells 4) (λ word. then_so low_spells (λ name. behind (mark_spells 5 refl) (λ colon. behind low_spells (λ sig. behind (mark_spells 8 refl) (λ is.
      image_spells (block_spells bytes) (λ n block h low le. (low, h le)))))))

  -- ---- sources

  -- data | sig | fun
  declaration_spells : Spells bytes false IsDeclaration DeclarationAt
  declaration_spells =
      either_spells (image_spells data_spells (λ n x h. h))
      (either_spells (image_spells sig_spells (λ n x h. h))
      (image_spells fun_spells (λ n x h. h)))

  -- { data | sig | fun }
  pub program_spells : Spells bytes false IsProgram (λ n all. n ≤ 200 → AllOf IsProper (map (declaration_tree bytes) all))
  program_spells = weaker (many_spells declaration_spells) (λ n all h le. map_all _ (declaration_tree bytes) all (all_within _ le all h))
