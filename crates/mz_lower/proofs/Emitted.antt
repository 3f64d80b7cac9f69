-- Code that is written to the end of what stands there.
use Rattle.std.proofs.Common.{◌≡◌, ◌<◌, ℕ, suc, ◌+◌, List, [], ◌∷◌, ◌++◌, length, map, drop, get_or, Result, Ok, Err, OnOk, sym, ap, ◌∙◌, arith, length-append, append_assoc}
use Rattle.std.proofs.Math.Seq.{drop-cons}
use Rattle.mz_tree.specs.declared.types.Place.{Place}
use Rattle.mz_tree.specs.Plain.{Atom}
use Rattle.mz_tree.specs.Code.{If_op, Command, Commands, More_commands, Case, Cases, More_cases, Body, result_of, brace_of}
use Rattle.mz_tree.specs.Programs.{Fun}
use Rattle.mz_words.specs.declared.code.Act.TheVariants.{Branch, Return}
use Rattle.mz_words.specs.declared.code.Instr.{Instr}
use Rattle.mz_lower.specs.Layout.{instr, size_body, size_command, size_case, size_op, lay_body, lay_commands, lay_command, lay_op, lay_branch, lay_cases, lay_case, lay_fun, lay_funs, size_fun}
use Rattle.mz_lower.proofs.Addresses.{long_command, long_case, long_branch, long_fun}

-- from a place on, the images are that of the element there and those from the next place on
pub next_of : {A B : Type 0} (f : A → B) (xs : List A) (i : ℕ) (x : A) → i < length xs → x ≡ get_or xs i x → map f (drop i xs) ≡ f x ∷ map f (drop (i + 1) xs)
next_of f xs i x h e =
    let n : suc i ≡ i + 1 = omega arith in
    ap (map f) (drop-cons xs i x h ∙ ap (λ y. y ∷ drop (suc i) xs) (sym e) ∙ ap (λ k. x ∷ drop k xs) n)

-- what follows where nothing was refused
pub on_ok : {A B : Type 0} (r : Result A B) (P Q : Type 0) → (P → Q) → OnOk r P → OnOk r Q
on_ok (Ok a) P Q f h = f h
on_ok (Err b) P Q f h = tt

-- a body, and two instructions
pub branch_laid : (code body a b c : List Instr) (x y : Instr) → a ≡ code ++ body → b ≡ a ++ x ∷ [] → c ≡ b ++ y ∷ [] → c ≡ code ++ (body ++ x ∷ y ∷ [])
branch_laid code body a b c x y e f g =
    g ∙ ap (λ (l : List Instr). l ++ y ∷ []) (f ∙ ap (λ (l : List Instr). l ++ x ∷ []) e)
    ∙ append_assoc (code ++ body) (x ∷ []) (y ∷ [])
    ∙ append_assoc code body (x ∷ y ∷ [])

-- one more piece, where what follows is laid behind it
one_more : (old new piece : List Instr) (n : ℕ) (rest : ℕ → List Instr) → length piece ≡ n → new ≡ old ++ piece → new ++ rest (length new) ≡ old ++ (piece ++ rest (length old + n))
one_more old new piece n rest long e =
    let q : length new ≡ length old + n = ap length e ∙ length-append old piece ∙ ap (λ m. length old + m) long in
    ap (λ m. new ++ rest m) q ∙ ap (λ (l : List Instr). l ++ rest (length old + n)) e ∙ append_assoc old piece (rest (length old + n))

-- a command behind those that are laid
pub command_laid : (old new : List Instr) (c : Command) (rest : Commands) → new ≡ old ++ lay_command (length old) c → new ++ lay_commands (length new) rest ≡ old ++ lay_commands (length old) (More_commands c rest)
command_laid old new c rest e = one_more old new (lay_command (length old) c) (size_command c) (λ m. lay_commands m rest) (long_command (length old) c) e

-- a case behind those that are laid
pub case_laid : (old new : List Instr) (to : ℕ) (place : Place) (end : ℕ) (c : Case) (rest : Cases) → new ≡ old ++ lay_case (length old) to place end c
    → new ++ lay_cases (length new) to place end rest ≡ old ++ lay_cases (length old) to place end (More_cases c rest)
case_laid old new to place end c rest e = one_more old new (lay_case (length old) to place end c) (size_case c) (λ m. lay_cases m to place end rest) (long_case (length old) to place end c) e

-- a function behind those that are laid
pub fun_laid : (old new : List Instr) (f : Fun) (rest : List Fun) → new ≡ old ++ lay_fun (length old) f → new ++ lay_funs (length new) rest ≡ old ++ lay_funs (length old) (f ∷ rest)
fun_laid old new f rest e = one_more old new (lay_fun (length old) f) (size_fun f) (λ m. lay_funs m rest) (long_fun (length old) f) e

-- a function is its body, and its return
pub body_laid : (old mid new : List Instr) (f : Fun) (place : Place) (source : ℕ) → place ≡ brace_of f.body → source ≡ result_of f.body → mid ≡ old ++ lay_body (length old) f.body
    → new ≡ mid ++ instr place (Return source) ∷ [] → new ≡ old ++ lay_fun (length old) f
body_laid old mid new f place source p r e g =
    g ∙ ap (λ (l : List Instr). l ++ instr place (Return source) ∷ []) e
    ∙ append_assoc old (lay_body (length old) f.body) (instr place (Return source) ∷ [])
    ∙ ap (λ x. old ++ (lay_body (length old) f.body ++ instr x (Return source) ∷ [])) p
    ∙ ap (λ x. old ++ (lay_body (length old) f.body ++ instr (brace_of f.body) (Return x) ∷ [])) r

-- an If: its instruction, and two branches
pub if_laid : (old put first second : List Instr) (to test target end : ℕ) (place : Place) (one two : Body) (giving : List (Atom ℕ))
    → target ≡ length old + (size_body one + 3) → end ≡ target + (size_body two + 2)
    → put ≡ old ++ instr place (Branch test target) ∷ [] → first ≡ put ++ lay_branch (length put) to place end one → second ≡ first ++ lay_branch (length first) to place end two
    → second ≡ old ++ lay_op (length old) to place (If_op test one two giving)
if_laid old put first second to test target end place one two giving z e p f s =
    let z' : target ≡ length old + 1 + (size_body one + 2) = omega (arith, z) in
    let e' : end ≡ length old + size_op (If_op test one two giving) = omega (arith, z, e) in
    let n : length put ≡ length old + 1 = ap length p ∙ length-append old (instr place (Branch test target) ∷ []) in
    let m : length first ≡ length old + 1 + (size_body one + 2) = ap length f ∙ length-append put (lay_branch (length put) to place end one) ∙ omega (arith, n, long_branch (length put) to place end one) in
    s ∙ ap (λ k. first ++ lay_branch k to place end two) m
    ∙ ap (λ (l : List Instr). l ++ lay_branch (length old + 1 + (size_body one + 2)) to place end two) (f ∙ ap (λ k. put ++ lay_branch k to place end one) n ∙ ap (λ (l : List Instr). l ++ lay_branch (length old + 1) to place end one) p)
    ∙ append_assoc (old ++ instr place (Branch test target) ∷ []) (lay_branch (length old + 1) to place end one) (lay_branch (length old + 1 + (size_body one + 2)) to place end two)
    ∙ append_assoc old (instr place (Branch test target) ∷ []) (lay_branch (length old + 1) to place end one ++ lay_branch (length old + 1 + (size_body one + 2)) to place end two)
    ∙ ap (λ k. old ++ instr place (Branch test k) ∷ (lay_branch (length old + 1) to place end one ++ lay_branch (length old + 1 + (size_body one + 2)) to place end two)) z'
    ∙ ap (λ k. old ++ instr place (Branch test (length old + 1 + (size_body one + 2))) ∷ (lay_branch (length old + 1) to place k one ++ lay_branch (length old + 1 + (size_body one + 2)) to place k two)) e'
