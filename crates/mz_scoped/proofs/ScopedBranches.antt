-- Expressions with bodies: one of two, or a case for each constructor.
use Rattle.std.proofs.Common.{◌≡◌, ◌≢◌, ℕ, ◌<◌, ◌≤◌, Bool, false, List, [], ◌∷◌, ◌++◌, length, Option, Some, None, codes, refl, sym, ap, ◌∙◌, subst, arith, append_assoc, append-nil, le_refl, unwrap_or}
use Rattle.mz_tree.specs.declared.types.Place.{Place}
use Rattle.mz_tree.specs.Plain.{Atom}
use Rattle.mz_tree.specs.Code.{If_op, Match_op, Body, Case, The_case, cases_of}
use Rattle.mz_tree.specs.Programs.{Program}
use Rattle.mz_scope.specs.Syntax.{Word, AtomTrees, Expr, If_expr, Match_expr, Block, Arms, No_arms, More_arms}
use Rattle.mz_scope.specs.Names.{Names, find, Globals, ConEntry}
use Rattle.mz_scope.specs.Making.{Made, next_name}
use Rattle.mz_scope.specs.Types.{number_of}
use Rattle.mz_scope.specs.Bodies.{match_data, arm_cons, is_misplaced, with_number, lacks_a_case, given, flat_expression, flat_cases}
use Rattle.mz_tree.specs.Scoped.{Scope, IsBody, AreCases, AreAll, AreAtomsWithin, names_after, after_cases, case_cons, adopting_atoms, adopting_body, adopting_cases}
use Rattle.mz_scoped.proofs.Proper.{AreProperAtoms}
use Rattle.mz_scoped.proofs.Grounds.{Grounds, IsEntry, AreIn, pairs_of}
use Rattle.mz_scoped.proofs.Goes.{Goes, first_then, weakened, added, not_so}
use Rattle.mz_scoped.proofs.Goes.{given as goes_given}
use Rattle.mz_scoped.proofs.Adding.{from_each}
use Rattle.mz_scoped.proofs.Entries.{con_goes}
use Rattle.mz_scoped.proofs.ScopedArms.{AreWellPlaced, arms_all}
use Rattle.mz_scoped.proofs.KeptNames.{Spells}
use Rattle.mz_scoped.proofs.CommandChains.{scope_after}
use Rattle.mz_scoped.proofs.FineCommands.{all_map, Held, Value_held, Callee_held}
use Rattle.mz_scoped.proofs.LocalNames.{local_in, local_later, result_in}
use Rattle.mz_scoped.proofs.ScopedParts.{Begun, IsBegun, Sofar, Next, value_goes}
use Rattle.mz_scoped.proofs.ScopedNames.{name_goes}
use Rattle.mz_scoped.proofs.ScopedExpressions.{ExprGoes, AtomsMade, atoms_made}
use Rattle.mz_scoped.proofs.ScopedBlocks.{InScope, BodyMade, BlockGoes}

module _ (p : Program) (g : Globals) (grounds : Grounds p g) (spelling : List (List ℕ)) where
  -- ---- what is given at the end

  -- the atoms after `giving`, where the next core name is the result
  record GivenMade (scope : Names ℕ) (old : Made) (atoms : List (Atom ℕ)) (m : Made) : Type 0 where
    commands : m.commands ≡ old.commands
    names : m.names ≡ old.names
    pairs : pairs_of m.clauses ≡ pairs_of old.clauses ++ adopting_atoms atoms
    are : (here : Scope) → AreIn here scope → AreAtomsWithin p 200 (record { name = length m.names; function = None } ∷ here) atoms

  -- they are so wherever they begin
  given_from : (scope : Names ℕ) (giving : AtomTrees) → AreProperAtoms 200 giving → (old : Made) → Goes (λ m. m ≡ old) (given g scope giving) (λ atoms m. GivenMade scope old atoms m)
  given_from scope giving proper old =
      first_then next_name _ (added {Q = λ n m. (n ≡ length m.names) × (m ≡ old)} next_name (λ m. refl) (λ m q. (refl, q)))
      (λ n. weakened (λ m q. q) (λ atoms m q. made n q.0 atoms m q.1.0 q.1.1 q.2) (atoms_made p g grounds spelling (scope ++ (codes "result", n) ∷ []) 200 giving proper))
    where
      made : (n : ℕ) (mid : Made) (atoms : List (Atom ℕ)) (m : Made) → n ≡ length mid.names → mid ≡ old → AtomsMade p g grounds spelling (scope ++ (codes "result", n) ∷ []) 200 giving mid atoms m → GivenMade scope old atoms m
      made n mid atoms m number same all =
          let names : m.names ≡ mid.names = all.adds.names in
          record {
            commands = all.adds.commands ∙ ap (λ (x : Made). x.commands) same;
            names = names ∙ ap (λ (x : Made). x.names) same;
            pairs = all.adds.clauses ∙ ap (λ (x : Made). pairs_of x.clauses ++ adopting_atoms atoms) same;
            are = λ here is. all.are (record { name = length m.names; function = None } ∷ here) (subst (λ k. AreIn (record { name = length m.names; function = None } ∷ here) (scope ++ (codes "result", k) ∷ [])) (ap length names ∙ sym number) (result_in here scope (codes "result") (length m.names) is));
          }

  -- ---- more names were made since, which are not in scope

  -- what is known of a scope stays so
  begun_later : (here : Scope) (old mid : Made) (scope : Names ℕ) → length old.names ≤ length mid.names → IsBegun p spelling (record { here = here; old = old; scope = scope }) → IsBegun p spelling (record { here = here; old = mid; scope = scope })
  begun_later here old mid scope grown begun = (all_map here (λ a sound. (omega (arith, sound.0), sound.1)) begun.0, local_later p spelling here (length old.names) (length mid.names) scope grown begun.1)

  -- ---- one of two

  -- two bodies
  record BothMade (here : Scope) (old : Made) (one two : Body) (m : Made) : Type 0 where
    first : IsBody p spelling here (length old.names) one
    second : IsBody p spelling here (names_after (length old.names) one) two
    count : length m.names ≡ names_after (names_after (length old.names) one) two
    grown : length old.names ≤ length m.names
    commands : m.commands ≡ old.commands
    pairs : pairs_of m.clauses ≡ pairs_of old.clauses ++ (adopting_body one ++ adopting_body two)

  -- one after the other
  both_made : (here : Scope) (old mid m : Made) (one two : Body) → InScope p g grounds spelling here old one mid → InScope p g grounds spelling here mid two m → BothMade here old one two m
  both_made here old mid m one two first second = record {
    first = first.is;
    second = subst (λ n. IsBody p spelling here n two) first.count second.is;
    count = second.count ∙ ap (λ n. names_after n two) first.count;
    grown = omega (arith, first.grown, second.grown);
    commands = second.commands ∙ first.commands;
    pairs = second.pairs ∙ ap (λ l. l ++ adopting_body two) first.pairs ∙ append_assoc (pairs_of old.clauses) (adopting_body one) (adopting_body two);
  }

  -- they fit, with what is tested and what is given
  if_next : (b : Begun) (scope : Names ℕ) (held : List Held) (x : ℕ) (one two : Body) (atoms : List (Atom ℕ)) (m0 m1 m2 m3 : Made)
      → Sofar p spelling b scope (Value_held x ∷ held) m0 → BodyMade p g grounds spelling scope m0 one m1 → BodyMade p g grounds spelling scope m1 two m2 → GivenMade scope m2 atoms m3
      → Spells m3.names spelling → Spells b.old.names spelling × (IsBegun p spelling b → Next p spelling b scope (Value_held x ∷ held) (If_op x one two atoms) m3)
  if_next b scope held x one two atoms m0 m1 m2 m3 sofar first second end spells3 =
      let spells2 : Spells m2.names spelling = subst (λ names. Spells names spelling) end.names spells3 in
      let two_made = second spells2 in
      let one_made = first two_made.0 in
      let before = sofar.at one_made.0 in (
        before.0,
        λ begun.
            let k = before.1 begun in
            let now : Scope = scope_after p spelling b.here m0.commands in
            let start : IsBegun p spelling (record { here = now; old = m0; scope = scope }) = (k.sound, k.local) in
            let one_in = one_made.1 now start in
            let two_in = two_made.1 now (begun_later now m0 m1 scope one_in.grown start) in
            let both : BothMade now m0 one two m2 = both_made now m0 m1 m2 one two one_in two_in in
            record {
              mid = m0;
              known = k;
              commands = end.commands ∙ both.commands;
              numbered = ap length end.names ∙ both.count;
              grown = subst (λ names. length m0.names ≤ length names) (sym end.names) both.grown;
              pairs = end.pairs ∙ ap (λ l. l ++ adopting_atoms atoms) both.pairs ∙ append_assoc (pairs_of m0.clauses) (adopting_body one ++ adopting_body two) (adopting_atoms atoms);
              is = (k.all.0, both.first, both.second, end.are now (local_in p spelling now (length m0.names) scope k.local));
            },
      )

  -- an `if`
  pub if_goes : (scope : Names ℕ) (place : Place) (test : Expr) (one two : Block) (giving : AtomTrees) → ExprGoes p g grounds spelling scope test → BlockGoes p g grounds spelling scope one → BlockGoes p g grounds spelling scope two → AreProperAtoms 200 giving
      → ExprGoes p g grounds spelling scope (If_expr place test one two giving)
  unfolding flat_expression
  if_goes scope place test one two giving value first second proper b held =
      first_then _ _ (value b held)
      (λ x. first_then _ _ (from_each _ first)
      (λ body. first_then _ _ (from_each _ second)
      (λ other. first_then _ _ (from_each _ (given_from scope giving proper))
      (λ atoms. value_goes p spelling held (λ m q. if_next b scope held x body other atoms q.1.1.0 q.1.0 q.0 m q.1.1.1 q.1.1.2 q.1.2 q.2) (λ now n k. k.1)))))

  -- ---- a case for each constructor

  -- cases in this scope, and what was made with them
  record CasesInScope (here : Scope) (old : Made) (cases : List Case) (m : Made) : Type 0 where
    are : AreCases p spelling here (length old.names) (cases_of cases)
    count : length m.names ≡ after_cases (length old.names) (cases_of cases)
    grown : length old.names ≤ length m.names
    commands : m.commands ≡ old.commands
    pairs : pairs_of m.clauses ≡ pairs_of old.clauses ++ adopting_cases (cases_of cases)

  -- cases in each scope that has the source's names; their constructors are those of the tree
  pub record CasesMade (scope : Names ℕ) (d : Option ℕ) (earlier : List ℕ) (arms : Arms) (old : Made) (cases : List Case) (m : Made) : Type 0 where
    placed : AreWellPlaced p g d earlier arms
    cons : case_cons (cases_of cases) ≡ arm_cons g arms
    made : Spells m.names spelling → Spells old.names spelling × ((here : Scope) → IsBegun p spelling (record { here = here; old = old; scope = scope }) → CasesInScope here old cases m)

  -- the cases of a match come to them
  abbrev pub CasesGo : Names ℕ → Arms → Type 0
  CasesGo scope arms = (d : Option ℕ) (earlier : List ℕ) (old : Made) → Goes (λ m. m ≡ old) (flat_cases g scope d earlier arms) (CasesMade scope d earlier arms old)

  -- no cases
  pub no_cases_go : (scope : Names ℕ) → CasesGo scope No_arms
  unfolding flat_expression
  no_cases_go scope d earlier old = goes_given [] (λ m is. subst (λ made. CasesMade scope d earlier No_arms made [] m) is (record {
    placed = tt;
    cons = refl;
    made = λ spells. (spells, λ here begun. record { are = tt; count = refl; grown = le_refl (length m.names); commands = refl; pairs = sym (append-nil (pairs_of m.clauses)) });
  }))

  -- the constructor of a case
  abbrev CaseEntry : Word → Option ConEntry → Type 0
  CaseEntry name con = (c : ConEntry) × (con ≡ Some c) × (find g.cons name.text ≡ Some c) × IsEntry p c

  -- one case more fits before others
  case_made : (scope : Names ℕ) (d : Option ℕ) (earlier : List ℕ) (name : Word) (one : Block) (rest : Arms) (con : Option ConEntry) (body : Body) (more : List Case) (m0 m1 m : Made)
      → CaseEntry name con → is_misplaced d earlier con ≡ false → BodyMade p g grounds spelling scope m0 body m1 → CasesMade scope d (with_number earlier con) rest m1 more m
      → CasesMade scope d earlier (More_arms name one rest) m0 (The_case (number_of con) body ∷ more) m
  case_made scope d earlier name one rest con body more m0 m1 m (c, is, found, entry) well first others = record {
    placed = (c, found, entry, subst (λ o. is_misplaced d earlier o ≡ false) is well, subst (λ o. AreWellPlaced p g d (with_number earlier o) rest) is others.placed);
    cons = ap (λ o. number_of o ∷ case_cons (cases_of more)) is ∙ ap (λ l. c.number ∷ l) others.cons ∙ ap (λ o. with_number (arm_cons g rest) o) (sym found);
    made = λ spells.
        let rest_made = others.made spells in
        let body_made = first rest_made.0 in (
          body_made.0,
          λ here begun.
              let this = body_made.1 here begun in
              let later = rest_made.1 here (begun_later here m0 m1 scope this.grown begun) in
              record {
                are = (this.is, subst (λ n. AreCases p spelling here n (cases_of more)) this.count later.are);
                count = later.count ∙ ap (λ n. after_cases n (cases_of more)) this.count;
                grown = omega (arith, this.grown, later.grown);
                commands = later.commands ∙ this.commands;
                pairs = later.pairs ∙ ap (λ l. l ++ adopting_cases (cases_of more)) this.pairs ∙ append_assoc (pairs_of m0.clauses) (adopting_body body) (adopting_cases (cases_of more));
              },
        );
  }

  -- so it is with one more
  pub more_cases_go : (scope : Names ℕ) (name : Word) (one : Block) (rest : Arms) → BlockGoes p g grounds spelling scope one → CasesGo scope rest → CasesGo scope (More_arms name one rest)
  unfolding flat_expression
  more_cases_go scope name one rest block others d earlier old =
      first_then _ _ (con_goes p g grounds name)
      (λ con. first_then _ _ (not_so (is_misplaced d earlier con) _ name.place)
      (λ _. first_then _ _ (from_each _ block)
      (λ body. first_then _ _ (from_each _ (others d (with_number earlier con)))
      (λ more. goes_given (The_case (number_of con) body ∷ more) (λ m q. subst (λ made. CasesMade scope d earlier (More_arms name one rest) made (The_case (number_of con) body ∷ more) m) q.1.1.1.1 (case_made scope d earlier name one rest con body more q.1.0 q.0 m q.1.1.1.0 q.1.1.0 q.1.2 q.2))))))

  -- they fit, with the block and what is given
  match_next : (b : Begun) (scope : Names ℕ) (held : List Held) (x : ℕ) (other : ℕ → Bool) (arms : Arms) (cases : List Case) (atoms : List (Atom ℕ)) (m0 m1 m2 : Made) → arms ≢ No_arms → lacks_a_case g arms ≡ false
      → Sofar p spelling b scope (Callee_held x other ∷ held) m0 → CasesMade scope (match_data g arms) [] arms m0 cases m1 → GivenMade scope m1 atoms m2
      → Spells m2.names spelling → Spells b.old.names spelling × (IsBegun p spelling b → Next p spelling b scope (Callee_held x other ∷ held) (Match_op x (unwrap_or (match_data g arms) 0) (cases_of cases) atoms) m2)
  match_next b scope held x other arms cases atoms m0 m1 m2 some none sofar made end spells2 =
      let spells1 : Spells m1.names spelling = subst (λ names. Spells names spelling) end.names spells2 in
      let cases_made = made.made spells1 in
      let before = sofar.at cases_made.0 in (
        before.0,
        λ begun.
            let k = before.1 begun in
            let now : Scope = scope_after p spelling b.here m0.commands in
            let all = cases_made.1 now (k.sound, k.local) in
            let whole = arms_all p g grounds arms some none made.placed in
            record {
              mid = m0;
              known = k;
              commands = end.commands ∙ all.commands;
              numbered = ap length end.names ∙ all.count;
              grown = subst (λ names. length m0.names ≤ length names) (sym end.names) all.grown;
              pairs = end.pairs ∙ ap (λ l. l ++ adopting_atoms atoms) all.pairs ∙ append_assoc (pairs_of m0.clauses) (adopting_cases (cases_of cases)) (adopting_atoms atoms);
              is = (
                k.all.0.0,
                subst (λ o. unwrap_or o 0 < length p.varieties) (sym whole.1) whole.2,
                subst (λ o. AreAll p (unwrap_or o 0) (case_cons (cases_of cases))) (sym whole.1) (subst (λ l. AreAll p whole.0 l) (sym made.cons) whole.3),
                all.are,
                end.are now (local_in p spelling now (length m0.names) scope k.local),
              );
            },
      )

  -- a `match`
  pub match_goes : (scope : Names ℕ) (place : Place) (name : Word) (arms : Arms) (giving : AtomTrees) → arms ≢ No_arms → CasesGo scope arms → AreProperAtoms 200 giving → ExprGoes p g grounds spelling scope (Match_expr place name arms giving)
  unfolding flat_expression
  match_goes scope place name arms giving some all proper b held =
      first_then _ _ (name_goes p g grounds spelling b scope held name)
      (λ x. first_then _ _ (not_so (lacks_a_case g arms) _ place)
      (λ _. first_then _ _ (from_each _ (all (match_data g arms) []))
      (λ cases. first_then _ _ (from_each _ (given_from scope giving proper))
      (λ atoms. value_goes p spelling held (λ m q. match_next b scope held x _ arms cases atoms q.1.0 q.0 m some q.1.1.0 q.1.1.1 q.1.2 q.2) (λ now n k. k.1)))))
