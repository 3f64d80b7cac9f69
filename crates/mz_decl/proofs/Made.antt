-- The declarations that are made from a program are those of the program.
use Rattle.std.proofs.Common.{◌≡◌, ℕ, List, [], ◌∷◌, map, refl, ap, ◌∙◌}
use Rattle.mz_tree.specs.Programs.{Variety, Con, Sig, Fun, Clause}
use Rattle.mz_tree.specs.View.{plain_program, plain_variety, plain_con, plain_sig, plain_fun, plain_clause}
use Rattle.mz_tree.specs.declared.program.Variety.{Variety as CodeVariety}
use Rattle.mz_tree.specs.declared.program.Con.{Con as CodeCon}
use Rattle.mz_tree.specs.declared.program.Sig.{Sig as CodeSig}
use Rattle.mz_tree.specs.declared.program.Fun.{Fun as CodeFun}
use Rattle.mz_tree.specs.declared.program.Clause.{Clause as CodeClause}
use Rattle.mz_tree.specs.declared.program.Program.{Program as CodeProgram}
use Rattle.mz_decl.specs.Declarations.{Decls, decls_of}

-- a view keeps the number of a function's signature
sigs_kept : (funs : List CodeFun) → map (λ (f : CodeFun). f.sig) funs ≡ map (λ (f : Fun). f.sig) (map plain_fun funs)
sigs_kept [] = refl
sigs_kept (f ∷ funs) = ap (λ l. f.sig ∷ l) (sigs_kept funs)

abbrev from : List Variety → List Con → List Sig → List ℕ → List Clause → Decls
from varieties cons sigs fun_sigs written = record { varieties = varieties; cons = cons; sigs = sigs; fun_sigs = fun_sigs; written = written }

-- five equal lists make equal declarations
pub made : (p : CodeProgram) (vs : List CodeVariety) (cs : List CodeCon) (ss : List CodeSig) (fs : List ℕ) (ws : List CodeClause) → vs ≡ p.varieties → cs ≡ p.cons → ss ≡ p.sigs → fs ≡ map (λ (f : CodeFun). f.sig) p.funs → ws ≡ p.clauses → from (map plain_variety vs) (map plain_con cs) (map plain_sig ss) fs (map plain_clause ws) ≡ decls_of (plain_program p)
made p vs cs ss fs ws v c s f w =
    ap (λ l. from (map plain_variety l) (map plain_con cs) (map plain_sig ss) fs (map plain_clause ws)) v
    ∙ ap (λ l. from (map plain_variety p.varieties) (map plain_con l) (map plain_sig ss) fs (map plain_clause ws)) c
    ∙ ap (λ l. from (map plain_variety p.varieties) (map plain_con p.cons) (map plain_sig l) fs (map plain_clause ws)) s
    ∙ ap (λ l. from (map plain_variety p.varieties) (map plain_con p.cons) (map plain_sig p.sigs) l (map plain_clause ws)) (f ∙ sigs_kept p.funs)
    ∙ ap (λ l. from (map plain_variety p.varieties) (map plain_con p.cons) (map plain_sig p.sigs) (map (λ (g : Fun). g.sig) (map plain_fun p.funs)) (map plain_clause l)) w
