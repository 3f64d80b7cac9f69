-- The names that a program uses, where it was read, are among its registers: so its code is in range.
use Rattle.std.proofs.Common.{◌≡◌, ◌<◌, ◌≤◌, inl, inr, ℕ, zero, suc, ◌+◌, List, [], ◌∷◌, length, Some, slice_get, codes, refl, sym, ap, ◌∙◌, subst, arith}
use Rattle.std.specs.Str.{bytes_eq}
use Rattle.std.proofs.lemmas.Bool.{cases_eq, cases_lt}
use Rattle.std.proofs.lemmas.List.{length-append}
use Rattle.std.proofs.lemmas.Option.{slice_get_within}
use Rattle.mz_tree.specs.Code.{Op, Commands, Cases, Body, Int_op, Unit_op, Fun_op, Copy_op, Arith_op, New_op, Read_op, Write_op, Retag_op, If_op, Match_op, Call_op, Give_op, Take_op, New_lock_op, Acquire_op, Release_op, Spawn_op, Print_op, The_command, No_commands, More_commands, The_case, No_cases, More_cases, The_body, result_of, brace_of}
use Rattle.mz_tree.specs.Programs.{Sig, Fun, Program}
use Rattle.mz_words.specs.declared.code.Act.TheVariants.{Return}
use Rattle.mz_words.specs.declared.code.Instr.{Instr}
use Rattle.mz_words.specs.declared.code.Start.{Start}
use Rattle.mz_lower.specs.Layout.{instr, size_body, lay_body, size_fun, lay_fun, lay_funs, params_in, start_of, starts_of, code_of}
use Rattle.mz_lower.specs.Addresses.{HasAt}
use Rattle.mz_words.specs.InRange.{RegistersBelow, ActInRange, AllInRange, FunctionInRange, IsInFunction, CodeInRange}
use Rattle.mz_lower.proofs.Addresses.{some_inj, none_some, has_front, has_back, long_body, FunPlace, fun_place}
use Rattle.mz_lowered.proofs.Lowerable.{lowerable, some_of}
use Rattle.mz_lower.proofs.BodiesInRange.{BodyFits, CommandsFit, OpFits, CasesFit, value_fits, body_range}
use Rattle.mz_tree.specs.Scoped.{Scope, IsBound, AreBound, names_below, names_after, after_commands, after_op, after_cases, with_bound, bound_by, IsBody, AreCommands, IsOp, AreCases, Scoped}
use Rattle.mz_resource.proofs.Programs.FromScoped.{AllBelow, first_below, more_below, with_below, body_up, commands_up, op_up, cases_up}

module _ (p : Program) (s : Scoped p) (spelling : List (List ℕ)) (most : ℕ) where
  arg : (scope : Scope) (n x : ℕ) → AllBelow scope n → n ≤ most → IsBound scope x → x < most
  arg scope n x all few o = let l = all x o in omega arith

  args : (scope : Scope) (n : ℕ) (xs : List ℕ) → AllBelow scope n → n ≤ most → AreBound scope xs → RegistersBelow most xs
  args scope n [] all few o = tt
  args scope n (x ∷ xs) all few o = (arg scope n x all few (o 0 x refl), args scope n xs all few (λ k a e. o (suc k) a e))

  mutual
    body_fits : (scope : Scope) (n : ℕ) (b : Body) → AllBelow scope n → names_after n b ≤ most → IsBody p spelling scope n b → BodyFits most b
    body_fits scope n (The_body commands value place) all few k = commands_fit scope n value commands all few k

    commands_fit : (scope : Scope) (n value : ℕ) (cs : Commands) → AllBelow scope n → after_commands n cs ≤ most → AreCommands p spelling scope n value cs → CommandsFit most cs × (value < most)
    commands_fit scope n value No_commands all few k = (tt, arg scope n value all few k)
    commands_fit scope n value (More_commands (The_command to op place) rest) all few k =
        let up = op_up p n op in
        let more = commands_up p (after_op n op + 1) rest in
        let to_is = k.0.0 in
        let r = commands_fit (with_bound p spelling scope (The_command to op place)) (after_op n op + 1) value rest
        (subst (λ m. AllBelow (with_bound p spelling scope (The_command to op place)) (m + 1)) to_is (with_below scope n to (bound_by p spelling to op).function (omega arith) all)) few k.1 in
        (((omega arith, op_fits scope n to op all (omega arith) k.0.1), r.0), r.1)

    op_fits : (scope : Scope) (n to : ℕ) (op : Op) → AllBelow scope n → after_op n op ≤ most → IsOp p spelling scope n to op → OpFits most op
    op_fits scope n to (Int_op a) all few k = tt
    op_fits scope n to Unit_op all few k = tt
    op_fits scope n to (Fun_op a) all few k = tt
    op_fits scope n to (Copy_op x) all few k = arg scope n x all few k
    op_fits scope n to (Arith_op o x y) all few k = (arg scope n x all few k.0, arg scope n y all few k.1)
    op_fits scope n to (New_op con ys) all few k = (args scope n ys all few k.1, subst (λ m. m ≤ 32) k.0.fields (s.cons con k.0.found k.0.declared).few)
    op_fits scope n to (Read_op y con i) all few k = arg scope n y all few k.0
    op_fits scope n to (Write_op y con i z) all few k = (arg scope n y all few k.0, arg scope n z all few k.2)
    op_fits scope n to (Retag_op y a b) all few k = arg scope n y all few k.0
    op_fits scope n to (If_op y one two giving) all few k =
        let a = body_up p n one in
        let b = body_up p (names_after n one) two in
        (arg scope n y all (omega arith) k.0, body_fits scope n one all (omega arith) k.1, body_fits scope (names_after n one) two (more_below scope n (names_after n one) a all) few k.2)
    op_fits scope n to (Match_op y d cases giving) all few k = let up = cases_up p n cases in (arg scope n y all (omega arith) k.0, cases_fit scope n cases all few k.3)
    op_fits scope n to (Call_op g ys) all few k = (arg scope n g all few k.0, args scope n ys all few k.1)
    op_fits scope n to (Give_op x y) all few k = (arg scope n x all few k.0, arg scope n y all few k.1)
    op_fits scope n to (Take_op x y) all few k = (arg scope n x all few k.0, arg scope n y all few k.1)
    op_fits scope n to (New_lock_op g) all few k = tt
    op_fits scope n to (Acquire_op l) all few k = arg scope n l all few k
    op_fits scope n to (Release_op l) all few k = arg scope n l all few k
    op_fits scope n to (Spawn_op g y) all few k = (arg scope n g all few k.0, arg scope n y all few k.1)
    op_fits scope n to (Print_op x) all few k = arg scope n x all few k

    cases_fit : (scope : Scope) (n : ℕ) (cs : Cases) → AllBelow scope n → after_cases n cs ≤ most → AreCases p spelling scope n cs → CasesFit most cs
    cases_fit scope n No_cases all few k = tt
    cases_fit scope n (More_cases (The_case con body) rest) all few k =
        let a = body_up p n body in
        let b = cases_up p (names_after n body) rest in
        (body_fits scope n body all (omega arith) k.0, cases_fit scope (names_after n body) rest (more_below scope n (names_after n body) a all) few k.1)

-- an instruction of a list that stands somewhere
in_list : (code : List Instr) (n last address : ℕ) (is : List Instr) → HasAt code address is → AllInRange n address last is → (q : ℕ) (i : Instr) → address ≤ q → q < address + length is → slice_get code q ≡ Some i → ActInRange n q last i.act
in_list code n last address [] h r q i l m e = absurd (omega (arith, l, m))
in_list code n last address (j ∷ is) h r q i l m e = elim (cases_eq q address) [
  | inl z ↦ subst (λ x. ActInRange n x last i.act) (sym z) (subst (λ (x : Instr). ActInRange n address last x.act) (some_inj (sym h.0 ∙ subst (λ x. slice_get code x ≡ Some i) z e)) r.0)
  | inr z ↦ in_list code n last (address + 1) is h.1 r.1 q i (omega (arith, l, z)) (omega (arith, m)) e
]

-- an entry is that of a function
entry_fun : (sigs : List Sig) (address : ℕ) (funs : List Fun) (f : ℕ) (s : Start) → slice_get (starts_of sigs address funs) f ≡ Some s → (fun : Fun) × (slice_get funs f ≡ Some fun)
entry_fun sigs address [] f s e = absurd (none_some refl e)
entry_fun sigs address (g ∷ funs) zero s e = (g, refl)
entry_fun sigs address (g ∷ funs) (suc f) s e = entry_fun sigs (address + size_fun g) funs f s e

-- a function begins behind the one before it
starts_next : (sigs : List Sig) (address : ℕ) (funs : List Fun) (k : ℕ) (s next : Start) (f : Fun) → slice_get (starts_of sigs address funs) k ≡ Some s
    → slice_get (starts_of sigs address funs) (suc k) ≡ Some next → slice_get funs k ≡ Some f → next.first ≡ s.first + size_fun f
starts_next sigs address [] k s next f e g h = absurd (none_some refl h)
starts_next sigs address (a ∷ []) k s next f e g h = absurd (none_some refl g)
starts_next sigs address (a ∷ b ∷ funs) zero s next f e g h =
    sym (ap (λ (x : Start). x.first) (some_inj g)) ∙ ap (λ (x : Fun). address + size_fun x) (some_inj h) ∙ ap (λ (x : Start). x.first + size_fun f) (some_inj e)
starts_next sigs address (a ∷ b ∷ funs) (suc k) s next f e g h = starts_next sigs (address + size_fun a) (b ∷ funs) k s next f e g h

-- the code begins with a function without parameters
main_entry : (p : Program) → Scoped p → (s : Start) × (slice_get (code_of p).entries (code_of p).main ≡ Some s) × (s.params ≡ 0)
main_entry p s =
    let m = some_of (λ (g : Fun). bytes_eq g.name (codes "main")) p.funs s.one_main in
    let able = (lowerable p s).main m.0 m.1 m.2 m.3 in
    let q = fun_place p m.0 m.1 m.2 in
    (start_of p.sigs q.first m.1, subst (λ k. slice_get (code_of p).entries k ≡ Some (start_of p.sigs q.first m.1)) able.0 q.found, ap params_in able.2 ∙ able.3)

-- the code of a function of a program that was read is in range
abbrev of_fun : (p : Program) (s : Scoped p) (k : ℕ) (f : Fun) → slice_get p.funs k ≡ Some f → (q : FunPlace (code_of p).instrs (code_of p).entries p.sigs k f) → FunctionInRange (code_of p) k (start_of p.sigs q.first f)
of_fun p s k f e q =
    let z = s.funs k f e in
    let long' = z.spelled in
    let up = body_up p z.sig.count f.body in
    let body = body_fits p s f.spelling (length f.spelling) (names_below z.sig.count) z.sig.count f.body (first_below z.sig.count) (omega arith) z.body in
    record {
      last = q.first + size_body f.body;
      goes = omega arith;
      source = result_of f.body;
      place = brace_of f.body;
      returns = (has_back (code_of p).instrs q.first (size_body f.body) (lay_body q.first f.body) (instr (brace_of f.body) (Return (result_of f.body)) ∷ []) (long_body q.first f.body) q.stands).0;
      apart = λ next g. (let behind : next.first ≡ q.first + (size_body f.body + 1) =
          starts_next p.sigs 0 p.funs k (start_of p.sigs q.first f) next f q.found (subst (λ m. slice_get (code_of p).entries m ≡ Some next) (omega arith) g) e in omega (arith, behind));
      each = λ address i l m h. in_list (code_of p).instrs (length f.spelling) (q.first + size_body f.body) q.first (lay_body q.first f.body)
          (has_front (code_of p).instrs q.first (lay_body q.first f.body) (instr (brace_of f.body) (Return (result_of f.body)) ∷ []) q.stands)
          (body_range (length f.spelling) q.first (q.first + size_body f.body) f.body body (omega arith)) address i l (omega (arith, m, long_body q.first f.body)) h;
      value = value_fits (length f.spelling) f.body body;
      room = subst (λ x. x ≤ length f.spelling) (sym (ap params_in z.signed)) (omega arith);
    }

-- the function to which an instruction belongs, and where it begins
record Located (sigs : List Sig) (address : ℕ) (funs : List Fun) (q : ℕ) : Type 0 where
  k : ℕ
  fun : Fun
  found : slice_get funs k ≡ Some fun
  first : ℕ
  start : slice_get (starts_of sigs address funs) k ≡ Some (start_of sigs first fun)
  behind : first ≤ q
  within : q < first + size_fun fun

long_fun : (address : ℕ) (f : Fun) → length (lay_fun address f) ≡ size_fun f
long_fun address f = length-append (lay_body address f.body) (instr (brace_of f.body) (Return (result_of f.body)) ∷ []) ∙ ap (λ n. n + 1) (long_body address f.body)

locate : (sigs : List Sig) (address : ℕ) (funs : List Fun) (q : ℕ) → address ≤ q → q < address + length (lay_funs address funs) → Located sigs address funs q
locate sigs address [] q h l = absurd (omega (arith, h, l))
locate sigs address (f ∷ funs) q h l = elim (cases_lt q (address + size_fun f)) [
  | inl here ↦ record { k = 0; fun = f; found = refl; first = address; start = refl; behind = h; within = here }
  | inr later ↦ (let long = length-append (lay_fun address f) (lay_funs (address + size_fun f) funs) in
      let size = long_fun address f in
      let r = locate sigs (address + size_fun f) funs q later (omega (arith, l, long, size)) in
      record { k = suc r.k; fun = r.fun; found = r.found; first = r.first; start = r.start; behind = r.behind; within = r.within })
]

-- each instruction is one of a function
in_function : (p : Program) → Scoped p → (address : ℕ) (i : Instr) → slice_get (code_of p).instrs address ≡ Some i → IsInFunction (code_of p) address
in_function p s address i e =
    let l = slice_get_within (code_of p).instrs address i e in
    let r = locate p.sigs 0 p.funs address (omega arith) (omega (arith, l)) in
    let q = fun_place p r.k r.fun r.found in
    let same : q.first ≡ r.first = ap (λ (x : Start). x.first) (some_inj (sym q.found ∙ r.start)) in
    let behind = r.behind in
    let within = r.within in
    record {
      f = r.k;
      start = start_of p.sigs q.first r.fun;
      found = q.found;
      range = of_fun p s r.k r.fun r.found q;
      behind = omega (arith, same, behind);
      within = omega (arith, same, within);
    }

-- the code of a program that was read is in range
pub code_range : (p : Program) → Scoped p → CodeInRange (code_of p)
code_range p s = let m = main_entry p s in record { functions = at_entry; main = m.0; begins = m.1; no_params = m.2; covered = in_function p s }
  where
    at_entry : (f : ℕ) (x : Start) → slice_get (code_of p).entries f ≡ Some x → FunctionInRange (code_of p) f x
    at_entry f x e =
        let g = entry_fun p.sigs 0 p.funs f x e in
        let q = fun_place p f g.0 g.1 in
        subst (λ (y : Start). FunctionInRange (code_of p) f y) (some_inj (sym q.found ∙ e)) (of_fun p s f g.0 g.1 q)
