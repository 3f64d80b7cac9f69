-- One more declaration came: what is declared so far grows at its end.
use Rattle.std.proofs.Common.{◌≡◌, ℕ, ◌+◌, List, [], ◌∷◌, ◌++◌, map, length, refl, sym, ap, ap₂, ◌∙◌, append_assoc}
use Rattle.std.proofs.lemmas.List.{append-nil, map-append}
use Rattle.mz_tree.specs.declared.program.Program.{Program as CodeProgram}
use Rattle.mz_tree.specs.declared.program.Variety.{Variety as CodeVariety}
use Rattle.mz_tree.specs.declared.program.Con.{Con as CodeCon}
use Rattle.mz_tree.specs.declared.program.Sig.{Sig as CodeSig}
use Rattle.mz_tree.specs.declared.program.Fun.{Fun as CodeFun}
use Rattle.mz_tree.specs.Programs.{Variety, Con, Sig, Fun, Program}
use Rattle.mz_tree.specs.View.{plain_variety, plain_con, plain_sig, plain_fun, plain_program}
use Rattle.mz_scope.specs.declared.counts.Counts.{Counts}
use Rattle.mz_scope.specs.Syntax.{DataTree, SigTree, FunTree, Declaration, Data_declaration, Sig_declaration, Fun_declaration}
use Rattle.mz_scope.specs.Names.{Globals}
use Rattle.mz_scope.specs.Making.{Made, Came, Came_to, goes_on, give}
use Rattle.mz_scope.specs.Declarations.{cons_from, data_type, signature, function, no_program, declarations}
use Rattle.mz_scope.specs.Growing.{joined, with_program, declarations_behind}
use Rattle.mz_scope.proofs.Lists.{next_came, seen_more}

-- ---- one more of a sort

data_joined : (front : Program) (v : Variety) (cons : List Con) (came : Came Program)
    → with_program front (goes_on (λ (others : Program). give (record others { varieties = v ∷ others.varieties; cons = cons ++ others.cons })) came) ≡ with_program (record front { varieties = front.varieties ++ v ∷ []; cons = front.cons ++ cons }) came
data_joined front v cons (Came_to others made) =
    ap₂ (λ vs cs. Came_to (record { varieties = vs; cons = cs; sigs = front.sigs ++ others.sigs; funs = front.funs ++ others.funs; clauses = front.clauses ++ others.clauses }) made)
    (sym (append_assoc front.varieties (v ∷ []) others.varieties)) (sym (append_assoc front.cons cons others.cons))

sig_joined : (front : Program) (one : Sig) (came : Came Program) → with_program front (goes_on (λ (others : Program). give (record others { sigs = one ∷ others.sigs })) came) ≡ with_program (record front { sigs = front.sigs ++ one ∷ [] }) came
sig_joined front one (Came_to others made) =
    ap (λ l. Came_to (record { varieties = front.varieties ++ others.varieties; cons = front.cons ++ others.cons; sigs = l; funs = front.funs ++ others.funs; clauses = front.clauses ++ others.clauses }) made)
    (sym (append_assoc front.sigs (one ∷ []) others.sigs))

fun_joined : (front : Program) (one : Fun) (came : Came Program) → with_program front (goes_on (λ (others : Program). give (record others { funs = one ∷ others.funs })) came) ≡ with_program (record front { funs = front.funs ++ one ∷ [] }) came
fun_joined front one (Came_to others made) =
    ap (λ l. Came_to (record { varieties = front.varieties ++ others.varieties; cons = front.cons ++ others.cons; sigs = front.sigs ++ others.sigs; funs = l; clauses = front.clauses ++ others.clauses }) made)
    (sym (append_assoc front.funs (one ∷ []) others.funs))

-- ---- one more declaration, and those behind it

module _ (g : Globals) (d s k f : ℕ) (rest : List Declaration) where
  data_added : (x : DataTree) (front : Program) (v : Variety) (cons : List Con) (m m1 m2 : Made) → data_type g (d + s) k x m ≡ Came_to v m1 → cons_from g d k x.cons m1 ≡ Came_to cons m2
      → with_program front (declarations g d s k f (Data_declaration x ∷ rest) m) ≡ with_program (record front { varieties = front.varieties ++ v ∷ []; cons = front.cons ++ cons }) (declarations g (d + 1) s (k + length x.cons) f rest m2)
  data_added x front v cons m m1 m2 h1 h2 =
      let behind : Came Program = goes_on (λ (others : Program). give (record others { varieties = v ∷ others.varieties; cons = cons ++ others.cons })) (declarations g (d + 1) s (k + length x.cons) f rest m2) in
      ap (with_program front) (next_came _ (data_type g (d + s) k x m) v m1 behind h1 (next_came _ (cons_from g d k x.cons m1) cons m2 behind h2 refl))
      ∙ data_joined front v cons (declarations g (d + 1) s (k + length x.cons) f rest m2)

  sig_added : (x : SigTree) (front : Program) (one : Sig) (m m1 : Made) → signature g (d + s) x m ≡ Came_to one m1
      → with_program front (declarations g d s k f (Sig_declaration x ∷ rest) m) ≡ with_program (record front { sigs = front.sigs ++ one ∷ [] }) (declarations g d (s + 1) k f rest m1)
  sig_added x front one m m1 h =
      let behind : Came Program = goes_on (λ (others : Program). give (record others { sigs = one ∷ others.sigs })) (declarations g d (s + 1) k f rest m1) in
      ap (with_program front) (next_came _ (signature g (d + s) x m) one m1 behind h refl) ∙ sig_joined front one (declarations g d (s + 1) k f rest m1)

  fun_added : (x : FunTree) (front : Program) (one : Fun) (m m1 : Made) → function g f x m ≡ Came_to one m1
      → with_program front (declarations g d s k f (Fun_declaration x ∷ rest) m) ≡ with_program (record front { funs = front.funs ++ one ∷ [] }) (declarations g d s k (f + 1) rest m1)
  fun_added x front one m m1 h =
      let behind : Came Program = goes_on (λ (others : Program). give (record others { funs = one ∷ others.funs })) (declarations g d s k (f + 1) rest m1) in
      ap (with_program front) (next_came _ (function g f x m) one m1 behind h refl) ∙ fun_joined front one (declarations g d s k (f + 1) rest m1)

-- ---- the same of the program that the code holds

module _ (g : Globals) (n : Counts) (p : CodeProgram) (rest : List Declaration) where
  pub data_grows : (x : DataTree) (v : CodeVariety) (cons : List CodeCon) (before new_varieties new_cons : ℕ) (varieties : List CodeVariety) (all : List CodeCon) (m m1 m2 : Made)
      → before ≡ n.varieties + n.sigs → data_type g before n.cons x m ≡ Came_to (plain_variety v) m1 → cons_from g n.varieties n.cons x.cons m1 ≡ Came_to (map plain_con cons) m2
      → new_varieties ≡ n.varieties + 1 → new_cons ≡ n.cons + length x.cons → varieties ≡ p.varieties ++ v ∷ [] → all ≡ p.cons ++ cons
      → with_program (plain_program p) (declarations_behind g n (Data_declaration x ∷ rest) m)
      ≡ with_program (plain_program (record p { varieties = varieties; cons = all })) (declarations_behind g (record n { varieties = new_varieties; cons = new_cons }) rest m2)
  data_grows x v cons before new_varieties new_cons varieties all m m1 m2 e0 h1 h2 e1 e2 e3 e4 =
      data_added g n.varieties n.sigs n.cons n.funs rest x (plain_program p) (plain_variety v) (map plain_con cons) m m1 m2 (ap (λ b. data_type g b n.cons x m) (sym e0) ∙ h1) h2
      ∙ ap₂ (λ vs cs. with_program (record (plain_program p) { varieties = vs; cons = cs }) (declarations g (n.varieties + 1) n.sigs (n.cons + length x.cons) n.funs rest m2))
      (sym (seen_more plain_variety p.varieties varieties v e3)) (sym (ap (map plain_con) e4 ∙ map-append plain_con p.cons cons))
      ∙ ap₂ (λ a b. with_program (plain_program (record p { varieties = varieties; cons = all })) (declarations g a n.sigs b n.funs rest m2)) (sym e1) (sym e2)

  pub sig_grows : (x : SigTree) (one : CodeSig) (before new_sigs : ℕ) (sigs : List CodeSig) (m m1 : Made)
      → before ≡ n.varieties + n.sigs → signature g before x m ≡ Came_to (plain_sig one) m1 → new_sigs ≡ n.sigs + 1 → sigs ≡ p.sigs ++ one ∷ []
      → with_program (plain_program p) (declarations_behind g n (Sig_declaration x ∷ rest) m) ≡ with_program (plain_program (record p { sigs = sigs })) (declarations_behind g (record n { sigs = new_sigs }) rest m1)
  sig_grows x one before new_sigs sigs m m1 e0 h e1 e2 =
      sig_added g n.varieties n.sigs n.cons n.funs rest x (plain_program p) (plain_sig one) m m1 (ap (λ b. signature g b x m) (sym e0) ∙ h)
      ∙ ap (λ l. with_program (record (plain_program p) { sigs = l }) (declarations g n.varieties (n.sigs + 1) n.cons n.funs rest m1)) (sym (seen_more plain_sig p.sigs sigs one e2))
      ∙ ap (λ a. with_program (plain_program (record p { sigs = sigs })) (declarations g n.varieties a n.cons n.funs rest m1)) (sym e1)

  pub fun_grows : (x : FunTree) (one : CodeFun) (new_funs : ℕ) (funs : List CodeFun) (m m1 : Made) → function g n.funs x m ≡ Came_to (plain_fun one) m1 → new_funs ≡ n.funs + 1 → funs ≡ p.funs ++ one ∷ []
      → with_program (plain_program p) (declarations_behind g n (Fun_declaration x ∷ rest) m) ≡ with_program (plain_program (record p { funs = funs })) (declarations_behind g (record n { funs = new_funs }) rest m1)
  fun_grows x one new_funs funs m m1 h e1 e2 =
      fun_added g n.varieties n.sigs n.cons n.funs rest x (plain_program p) (plain_fun one) m m1 h
      ∙ ap (λ l. with_program (record (plain_program p) { funs = l }) (declarations g n.varieties n.sigs n.cons (n.funs + 1) rest m1)) (sym (seen_more plain_fun p.funs funs one e2))
      ∙ ap (λ a. with_program (plain_program (record p { funs = funs })) (declarations g n.varieties n.sigs n.cons a rest m1)) (sym e1)

-- ---- the first and the last

-- where nothing is declared yet, all is behind
pub program_begins : (front : Program) (came : Came Program) → front ≡ no_program → came ≡ with_program front came
program_begins front (Came_to rest made) e = ap (λ p. Came_to (joined p rest) made) (sym e)

joined_none : (p : Program) → joined p no_program ≡ p
joined_none p =
    ap₂ (λ vs cs. record { varieties = vs; cons = cs; sigs = p.sigs ++ []; funs = p.funs ++ []; clauses = p.clauses ++ [] }) (append-nil p.varieties) (append-nil p.cons)
    ∙ ap₂ (λ ss fs. record { varieties = p.varieties; cons = p.cons; sigs = ss; funs = fs; clauses = p.clauses ++ [] }) (append-nil p.sigs) (append-nil p.funs)
    ∙ ap (λ l. record { varieties = p.varieties; cons = p.cons; sigs = p.sigs; funs = p.funs; clauses = l }) (append-nil p.clauses)

-- where nothing is behind, all is declared
pub program_ends : (g : Globals) (n : Counts) (front : Program) (made : Made) → with_program front (declarations_behind g n [] made) ≡ Came_to front made
program_ends g n front made = ap (λ p. Came_to p made) (joined_none front)
