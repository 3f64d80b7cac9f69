-- All declarations, each without a fault.
use Rattle.std.proofs.Common.{◌≡◌, ◌≢◌, ℕ, ◌+◌, ◌<◌, ◌≤◌, Bool, true, false, ◌||◌, List, [], ◌∷◌, ◌++◌, map, length, Option, Some, None, refl, sym, ap, ap₂, subst, ◌∙◌, arith}
use Rattle.std.specs.Prelude.{IfSome, flat_map, slice_get}
use Rattle.std.specs.List.{list_any, range_with_len}
use Rattle.std.proofs.lemmas.List.{map-append, length-map}
use Rattle.std.proofs.lemmas.List.Folds.{list_any-append}
use Rattle.std.proofs.lemmas.Grind.{flat_map-append}
use Rattle.std.proofs.lemmas.Bool.{eqb-false}
use Rattle.mz_tree.specs.Programs.{Variety, Con, Sig, Fun, Program}
use Rattle.mz_scope.specs.Syntax.{Word, ConTree, DataTree, ParamTree, SigTree, FunTree, Declaration, Data_declaration, Sig_declaration, Fun_declaration}
use Rattle.mz_scope.specs.Names.{Names, find, Globals, TypeEntry, TypeName, Data_name, Sig_name, type_names, ConEntry, con_names_in, con_names, param_lists, FunEntry, fun_names}
use Rattle.mz_scope.specs.Making.{Made}
use Rattle.mz_scope.specs.Declarations.{adopted_by, data_type, declarations, no_program}
use Rattle.mz_tree.specs.Scoped.{Each, IsLowerName, IsCon, IsSig, IsFun, adopting_body}
use Rattle.mz_scoped.proofs.Proper.{AllOf, IsProper, IsProperData}
use Rattle.mz_scoped.proofs.Grounds.{Grounds, pairs_of}
use Rattle.mz_scoped.proofs.Goes.{Goes, first_then, first_and, framed, given}
use Rattle.mz_scoped.proofs.Entries.{data_goes}
use Rattle.mz_scoped.proofs.InOrder.{EachFrom, each_then, each_append}
use Rattle.mz_scoped.proofs.FirstNames.{IsNew, declares_goes, first_found}
use Rattle.mz_scoped.proofs.AddedPairs.{HasPairs}
use Rattle.mz_scoped.proofs.ScopedCons.{con_pairs, con_first, ConsDone, cons_go}
use Rattle.mz_scoped.proofs.ScopedSigs.{pairs_of_sig, type_first, SigDone, sig_goes}
use Rattle.mz_scoped.proofs.ScopedFuns.{fun_first, Counts, FunDone, fun_goes}

-- ---- what adopts, by its sort

-- whether such a pair is among those of the program
abbrev pub any_in : (ℕ × ℕ → Bool) → Program → Bool
any_in test p = list_any test (con_pairs p.cons) || (list_any test (flat_map pairs_of_sig p.sigs) || list_any test (flat_map (λ (f : Fun). adopting_body f.body) p.funs))

-- the pairs that are there are some, and those of the program
abbrev pub HasAll : List (ℕ × ℕ) → Program → Made → Type 0
HasAll some p m = (test : ℕ × ℕ → Bool) → list_any test (pairs_of m.clauses) ≡ (list_any test some || any_in test p)

-- none of the program
none_more : (b : Bool) → b ≡ (b || false)
none_more true = refl
none_more false = refl

-- what was there, what is added here and what comes later, in another order
or_cons : (some here cons rest : Bool) → ((some || here) || (cons || rest)) ≡ (some || ((here || cons) || rest))
or_cons true here cons rest = refl
or_cons false true cons rest = refl
or_cons false false cons rest = refl

or_sigs : (some here cons sigs funs : Bool) → ((some || here) || (cons || (sigs || funs))) ≡ (some || (cons || ((here || sigs) || funs)))
or_sigs true here cons sigs funs = refl
or_sigs false true true sigs funs = refl
or_sigs false true false sigs funs = refl
or_sigs false false cons sigs funs = refl

or_funs : (some here cons sigs funs : Bool) → ((some || here) || (cons || (sigs || funs))) ≡ (some || (cons || (sigs || (here || funs))))
or_funs true here cons sigs funs = refl
or_funs false true true sigs funs = refl
or_funs false true false true funs = refl
or_funs false true false false funs = refl
or_funs false false cons sigs funs = refl

-- no declaration adds any
all_none : (some : List (ℕ × ℕ)) (m : Made) → HasPairs some m → HasAll some no_program m
all_none some m has test = ap (list_any test) has ∙ none_more (list_any test some)

-- constructors come before others
all_cons : (some : List (ℕ × ℕ)) (cons : List Con) (p : Program) (varieties : List Variety) (m : Made) → HasAll (some ++ con_pairs cons) p m → HasAll some (record p { varieties = varieties; cons = cons ++ p.cons }) m
all_cons some cons p varieties m has test =
    let rest : Bool = list_any test (flat_map pairs_of_sig p.sigs) || list_any test (flat_map (λ (f : Fun). adopting_body f.body) p.funs) in
    let both : list_any test (con_pairs (cons ++ p.cons)) ≡ (list_any test (con_pairs cons) || list_any test (con_pairs p.cons)) = ap (list_any test) (flat_map-append _ cons p.cons) ∙ list_any-append test (con_pairs cons) (con_pairs p.cons) in
    has test
    ∙ ap (λ b. b || any_in test p) (list_any-append test some (con_pairs cons))
    ∙ or_cons (list_any test some) (list_any test (con_pairs cons)) (list_any test (con_pairs p.cons)) rest
    ∙ ap (λ b. list_any test some || (b || rest)) (sym both)

-- a signature comes before others
all_sigs : (some : List (ℕ × ℕ)) (one : Sig) (p : Program) (m : Made) → HasAll (some ++ pairs_of_sig one) p m → HasAll some (record p { sigs = one ∷ p.sigs }) m
all_sigs some one p m has test =
    let cons : Bool = list_any test (con_pairs p.cons) in
    let sigs : Bool = list_any test (flat_map pairs_of_sig p.sigs) in
    let funs : Bool = list_any test (flat_map (λ (f : Fun). adopting_body f.body) p.funs) in
    has test
    ∙ ap (λ b. b || any_in test p) (list_any-append test some (pairs_of_sig one))
    ∙ or_sigs (list_any test some) (list_any test (pairs_of_sig one)) cons sigs funs
    ∙ ap (λ b. list_any test some || (cons || (b || funs))) (sym (list_any-append test (pairs_of_sig one) (flat_map pairs_of_sig p.sigs)))

-- a function comes before others
all_funs : (some : List (ℕ × ℕ)) (one : Fun) (p : Program) (m : Made) → HasAll (some ++ adopting_body one.body) p m → HasAll some (record p { funs = one ∷ p.funs }) m
all_funs some one p m has test =
    let cons : Bool = list_any test (con_pairs p.cons) in
    let sigs : Bool = list_any test (flat_map pairs_of_sig p.sigs) in
    let funs : Bool = list_any test (flat_map (λ (f : Fun). adopting_body f.body) p.funs) in
    has test
    ∙ ap (λ b. b || any_in test p) (list_any-append test some (adopting_body one.body))
    ∙ or_funs (list_any test some) (list_any test (adopting_body one.body)) cons sigs funs
    ∙ ap (λ b. list_any test some || (cons || (sigs || b))) (sym (list_any-append test (adopting_body one.body) (flat_map (λ (f : Fun). adopting_body f.body) p.funs)))

-- ---- a data type

-- it has a constructor
some_cons : (k : ℕ) (cons : List ConTree) → cons ≢ [] → 0 < length (range_with_len k (length cons))
some_cons k [] some = absurd (some refl)
some_cons k (c ∷ rest) some = omega arith

module _ (p : Program) where
  -- all of a data type but its list of constructors
  pub record IsData (v : Variety) : Type 0 where
    pub name : IsLowerName v.name
    pub adopts : IfSome v.adopts (λ u. u < length p.varieties)
    pub some : 0 < length v.cons

module _ (p : Program) (g : Globals) (grounds : Grounds p g) where
  -- what it adopts is a data type
  adopted_goes : (adopts : Option Word) (some : List (ℕ × ℕ)) → Goes (HasPairs some) (adopted_by g adopts) (λ u m. IfSome u (λ d. d < length p.varieties) × HasPairs some m)
  adopted_goes None some = given None (λ m before. (tt, before))
  adopted_goes (Some name) some = first_then _ _ (data_goes p g grounds name) (λ d. given (Some d) (λ m q. q))

  -- a data type that is the n-th of data types and signatures
  pub record DataDone (n : ℕ) (x : DataTree) (v : Variety) : Type 0 where
    pub is : IsData p v
    pub new : IsNew (type_first g x.name.text) n 1000
    pub name : v.name ≡ x.name.text

  -- a data type without a fault
  data_type_goes : (n k : ℕ) (x : DataTree) → IsProperData x → (some : List (ℕ × ℕ)) → Goes (HasPairs some) (data_type g n k x) (λ v m. DataDone n x v × HasPairs some m)
  data_type_goes n k x proper some =
      first_and _ _ (declares_goes (type_first g x.name.text) n 1000 x.name)
      (first_then _ _ (framed (IsNew (type_first g x.name.text) n 1000) (adopted_goes x.adopts some))
      (λ u. given (record { name = x.name.text; place = x.name.place; mutable = x.mutable; adopts = u; cons = range_with_len k (length x.cons) }) (λ m q. (
        record { is = record { name = proper.0; adopts = q.1.0; some = some_cons k x.cons proper.1 }; new = q.0; name = refl },
        q.1.1,
      ))))

  -- ---- all declarations

  -- what a name of a type stands for
  pub record StandsFor (name : List ℕ) (t : TypeName) : Type 0 where
    pub position : ℕ
    pub found : find g.types name ≡ Some (record { position = position; stands_for = t })

  -- a data type, a constructor, a signature or a function with its number
  abbrev pub VarietyIn : ℕ → Variety → Type 0
  VarietyIn d v = IsData p v × StandsFor v.name (Data_name d)

  abbrev pub ConIn : ℕ → Con → Type 0
  ConIn k c = IsCon p c × IsNew (con_first g c.name) k 1000

  abbrev pub SigIn : ℕ → Sig → Type 0
  SigIn s one = IsSig p one × StandsFor one.name (Sig_name s)

  abbrev pub FunIn : ℕ → Fun → Type 0
  FunIn f one = (Counts p g → IsFun p one) × IsNew (fun_first g one.name) f 1000

  -- what declarations come to, before which d data types, s signatures, k constructors and f functions stand
  pub record Declared (d s k f : ℕ) (rest : List Declaration) (others : Program) : Type 0 where
    pub varieties : EachFrom VarietyIn d others.varieties
    pub cons : EachFrom ConIn k others.cons
    pub con_words : map (λ (c : Con). c.name) others.cons ≡ map (λ (one : List ℕ × ConEntry). one.0) (con_names d k rest)
    pub sigs : EachFrom SigIn s others.sigs
    pub counts : map (λ (one : Sig). one.count) others.sigs ≡ map length (param_lists rest)
    pub funs : EachFrom FunIn f others.funs
    pub fun_words : map (λ (one : Fun). one.name) others.funs ≡ map (λ (one : List ℕ × FunEntry). one.0) (fun_names g.types g.params f rest)
    pub few : d + s ≤ 1000 → d + s + (length others.varieties + length others.sigs) ≤ 1000

  module _ (positions : Each (λ n (one : List ℕ × TypeEntry). one.1.position ≡ n) g.types) where
    -- these are the names of types from here on
    abbrev AreTypes : ℕ → Names TypeEntry → Type 0
    AreTypes n names = EachFrom (λ k (one : List ℕ × TypeEntry). slice_get g.types k ≡ Some one) n names

    -- the name that is the n-th stands for its type
    stands : (n : ℕ) (name : List ℕ) (t : TypeName) → slice_get g.types n ≡ Some (name, record { position = n; stands_for = t }) → IsNew (type_first g name) n 1000 → StandsFor name t
    stands n name t at new = record { position = n; found = first_found g.types (λ (t : TypeEntry). t.position) positions n (name, record { position = n; stands_for = t }) at new.0 }

    -- no declaration
    none_after : (d s k f : ℕ) → Declared d s k f [] no_program
    none_after d s k f = record { varieties = tt; cons = tt; con_words = refl; sigs = tt; counts = refl; funs = tt; fun_words = refl; few = λ less. omega (arith, less) }

    -- a data type, and then others
    data_after : (d s k f : ℕ) (x : DataTree) (rest : List Declaration) (v : Variety) (cons : List Con) (others : Program) → slice_get g.types (d + s) ≡ Some (x.name.text, record { position = d + s; stands_for = Data_name d })
        → DataDone (d + s) x v → ConsDone p g grounds d k x.cons cons → Declared (d + 1) s (k + length x.cons) f rest others
        → Declared d s k f (Data_declaration x ∷ rest) (record others { varieties = v ∷ others.varieties; cons = cons ++ others.cons })
    data_after d s k f x rest v cons others at data_done cons_done later =
        let here : StandsFor x.name.text (Data_name d) = stands (d + s) x.name.text (Data_name d) at data_done.new in
        let declared : d < length p.varieties = grounds.data_types x.name.text (record { position = here.position; stands_for = Data_name d }) d here.found refl in
        let long : k + length x.cons ≡ k + length cons = ap (λ n. k + n) (sym cons_done.long) in
        let not_last : d + s ≡ 1000 → ⊥ = eqb-false (d + s) 1000 data_done.new.1 in
        record {
          varieties = ((data_done.is, subst (λ name. StandsFor name (Data_name d)) (sym data_done.name) here), later.varieties);
          cons = each_append ConIn k cons others.cons (each_then (λ k (c : Con). (d < length p.varieties → IsCon p c) × IsNew (con_first g c.name) k 1000) ConIn (λ k c is. (is.0 declared, is.1)) k cons cons_done.each) (subst (λ n. EachFrom ConIn n others.cons) long later.cons);
          con_words = map-append (λ (c : Con). c.name) cons others.cons
              ∙ ap₂ (λ some more. some ++ more) cons_done.names later.con_words
              ∙ sym (map-append (λ (one : List ℕ × ConEntry). one.0) (con_names_in d k x.cons) (con_names (d + 1) (k + length x.cons) rest));
          sigs = later.sigs;
          counts = later.counts;
          funs = later.funs;
          fun_words = later.fun_words;
          few = λ less.
              let next : d + 1 + s ≤ 1000 = omega (arith, less, not_last) in
              let whole : d + 1 + s + (length others.varieties + length others.sigs) ≤ 1000 = later.few next in
              omega (arith, whole);
        }

    -- a signature, and then others
    sig_after : (d s k f : ℕ) (x : SigTree) (rest : List Declaration) (one : Sig) (others : Program) → slice_get g.types (d + s) ≡ Some (x.name.text, record { position = d + s; stands_for = Sig_name s })
        → SigDone p g grounds (d + s) x one → Declared d (s + 1) k f rest others → Declared d s k f (Sig_declaration x ∷ rest) (record others { sigs = one ∷ others.sigs })
    sig_after d s k f x rest one others at done later =
        let here : StandsFor x.name.text (Sig_name s) = stands (d + s) x.name.text (Sig_name s) at done.new in
        let not_last : d + s ≡ 1000 → ⊥ = eqb-false (d + s) 1000 done.new.1 in
        record {
          varieties = later.varieties;
          cons = later.cons;
          con_words = later.con_words;
          sigs = ((done.is, subst (λ name. StandsFor name (Sig_name s)) (sym done.name) here), later.sigs);
          counts = ap₂ (λ (n : ℕ) (l : List ℕ). n ∷ l) (done.count ∙ sym (length-map x.params (λ (q : ParamTree). q.name))) later.counts;
          funs = later.funs;
          fun_words = later.fun_words;
          few = λ less.
              let next : d + (s + 1) ≤ 1000 = omega (arith, less, not_last) in
              let whole : d + (s + 1) + (length others.varieties + length others.sigs) ≤ 1000 = later.few next in
              omega (arith, whole);
        }

    -- a function, and then others
    fun_after : (d s k f : ℕ) (x : FunTree) (rest : List Declaration) (one : Fun) (others : Program) → FunDone p g grounds f x one → Declared d s k (f + 1) rest others
        → Declared d s k f (Fun_declaration x ∷ rest) (record others { funs = one ∷ others.funs })
    fun_after d s k f x rest one others done later = record {
      varieties = later.varieties;
      cons = later.cons;
      con_words = later.con_words;
      sigs = later.sigs;
      counts = later.counts;
      funs = ((done.is, subst (λ name. IsNew (fun_first g name) f 1000) (sym done.name) done.new), later.funs);
      fun_words = ap₂ (λ (w : List ℕ) (l : List (List ℕ)). w ∷ l) done.name later.fun_words;
      few = later.few;
    }

    -- all of them without a fault
    pub declarations_go : (d s k f : ℕ) (rest : List Declaration) → AllOf IsProper rest → AreTypes (d + s) (type_names d s rest) → (some : List (ℕ × ℕ))
        → Goes (HasPairs some) (declarations g d s k f rest) (λ others m. Declared d s k f rest others × HasAll some others m)
    declarations_go d s k f [] proper types some = given no_program (λ m before. (none_after d s k f, all_none some m before))
    declarations_go d s k f (Data_declaration x ∷ rest) proper types some =
        let next : d + s + 1 ≡ d + 1 + s = omega arith in
        let later : AreTypes (d + 1 + s) (type_names (d + 1) s rest) = subst (λ n. AreTypes n (type_names (d + 1) s rest)) next types.1 in
        first_then _ _ (data_type_goes (d + s) k x proper.0 some)
        (λ v. first_then _ _ (framed (DataDone (d + s) x v) (cons_go p g grounds d k x.cons proper.0.2 some))
        (λ cons. first_then _ _ (framed (DataDone (d + s) x v) (framed (ConsDone p g grounds d k x.cons cons) (declarations_go (d + 1) s (k + length x.cons) f rest proper.1 later (some ++ con_pairs cons))))
        (λ others. given (record others { varieties = v ∷ others.varieties; cons = cons ++ others.cons }) (λ m q. (
          data_after d s k f x rest v cons others types.0 q.0 q.1.0 q.1.1.0,
          all_cons some cons others (v ∷ others.varieties) m q.1.1.1,
        )))))
    declarations_go d s k f (Sig_declaration x ∷ rest) proper types some =
        let next : d + s + 1 ≡ d + (s + 1) = omega arith in
        let later : AreTypes (d + (s + 1)) (type_names d (s + 1) rest) = subst (λ n. AreTypes n (type_names d (s + 1) rest)) next types.1 in
        first_then _ _ (sig_goes p g grounds (d + s) x proper.0 some)
        (λ one. first_then _ _ (framed (SigDone p g grounds (d + s) x one) (declarations_go d (s + 1) k f rest proper.1 later (some ++ pairs_of_sig one)))
        (λ others. given (record others { sigs = one ∷ others.sigs }) (λ m q. (
          sig_after d s k f x rest one others types.0 q.0 q.1.0,
          all_sigs some one others m q.1.1,
        ))))
    declarations_go d s k f (Fun_declaration x ∷ rest) proper types some =
        first_then _ _ (fun_goes p g grounds f x proper.0 some)
        (λ one. first_then _ _ (framed (FunDone p g grounds f x one) (declarations_go d s k (f + 1) rest proper.1 types (some ++ adopting_body one.body)))
        (λ others. given (record others { funs = one ∷ others.funs }) (λ m q. (
          fun_after d s k f x rest one others q.0 q.1.0,
          all_funs some one others m q.1.1,
        ))))
