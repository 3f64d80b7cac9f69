-- A program that was read has what lowering needs of it, and it has an opening.
use Rattle.std.proofs.Common.{◌≡◌, ◌≤◌, ℕ, zero, suc, ◌+◌, Bool, true, false, List, [], ◌∷◌, length, Some, None, slice_get, codes, refl, sym, ap, ◌∙◌, subst, arith}
use Rattle.std.specs.Prelude.{count_by, cond}
use Rattle.std.specs.Str.{bytes_eq}
use Rattle.mz_tree.specs.Code.{Op, Commands, Cases, Body, Int_op, Unit_op, Fun_op, Copy_op, Arith_op, New_op, Read_op, Write_op, Retag_op, If_op, Match_op, Call_op, Give_op, Take_op, New_lock_op, Acquire_op, Release_op, Spawn_op, Print_op, The_command, No_commands, More_commands, The_case, No_cases, More_cases, The_body}
use Rattle.mz_tree.specs.Programs.{Sig, Fun, Program}
use Rattle.mz_named.specs.Machine.{Config, Running, start, IsOpening}
use Rattle.mz_lower.specs.Layout.{number_of}
use Rattle.mz_lower.specs.Addresses.{BindsBelow, CommandsBelow, OpBelow, CasesBelow}
use Rattle.mz_lower.specs.Laws.{Lowerable}
use Rattle.mz_lower.proofs.Addresses.{if_true, if_false}
use Rattle.mz_tree.specs.Scoped.{Scope, names_below, names_after, after_commands, after_op, after_cases, with_bound, IsBody, AreCommands, IsOp, AreCases, Scoped}
use Rattle.mz_resource.proofs.Facts.{none_some, some_inj}
use Rattle.mz_resource.proofs.Programs.FromScoped.{body_up, commands_up, cases_up, count_next, not_among, main_is_plain}

module _ (p : Program) (s : Scoped p) (spelling : List (List ℕ)) (most : ℕ) where
  mutual
    body_binds : (scope : Scope) (n : ℕ) (b : Body) → names_after n b ≤ most → IsBody p spelling scope n b → BindsBelow most b
    body_binds scope n (The_body commands value place) few k = commands_bind scope n value commands few k

    commands_bind : (scope : Scope) (n value : ℕ) (cs : Commands) → after_commands n cs ≤ most → AreCommands p spelling scope n value cs → CommandsBelow most cs
    commands_bind scope n value No_commands few k = tt
    commands_bind scope n value (More_commands (The_command to op place) rest) few k =
        let more = commands_up p (after_op n op + 1) rest in
        let to_is = k.0.0 in
        ((omega arith, op_binds scope n to op (omega arith) k.0.1), commands_bind (with_bound p spelling scope (The_command to op place)) (after_op n op + 1) value rest few k.1)

    op_binds : (scope : Scope) (n to : ℕ) (op : Op) → after_op n op ≤ most → IsOp p spelling scope n to op → OpBelow most op
    op_binds scope n to (Int_op a) few k = tt
    op_binds scope n to Unit_op few k = tt
    op_binds scope n to (Fun_op a) few k = tt
    op_binds scope n to (Copy_op x) few k = tt
    op_binds scope n to (Arith_op o x y) few k = tt
    op_binds scope n to (New_op con ys) few k = subst (λ m. m ≤ 32) k.0.fields (s.cons con k.0.found k.0.declared).few
    op_binds scope n to (Read_op y con i) few k = tt
    op_binds scope n to (Write_op y con i z) few k = tt
    op_binds scope n to (Retag_op y a b) few k = tt
    op_binds scope n to (If_op y one two giving) few k =
        let b = body_up p (names_after n one) two in
        (body_binds scope n one (omega arith) k.1, body_binds scope (names_after n one) two few k.2)
    op_binds scope n to (Match_op y d cases giving) few k = cases_bind scope n cases few k.3
    op_binds scope n to (Call_op g ys) few k = tt
    op_binds scope n to (Give_op x y) few k = tt
    op_binds scope n to (Take_op x y) few k = tt
    op_binds scope n to (New_lock_op g) few k = tt
    op_binds scope n to (Acquire_op l) few k = tt
    op_binds scope n to (Release_op l) few k = tt
    op_binds scope n to (Spawn_op g y) few k = tt
    op_binds scope n to (Print_op x) few k = tt

    cases_bind : (scope : Scope) (n : ℕ) (cs : Cases) → after_cases n cs ≤ most → AreCases p spelling scope n cs → CasesBelow most cs
    cases_bind scope n No_cases few k = tt
    cases_bind scope n (More_cases (The_case con body) rest) few k =
        let b = cases_up p (names_after n body) rest in
        (body_binds scope n body (omega arith) k.0, cases_bind scope (names_after n body) rest few k.1)

-- where one function has the name, it is the first
one_number : (p : Program) (name : List ℕ) (xs : List Fun) (k : ℕ) (f : Fun) → count_by (λ (g : Fun). bytes_eq g.name name) xs ≡ 1 → slice_get xs k ≡ Some f → bytes_eq f.name name ≡ true → k ≡ number_of name xs
one_number p name [] k f c e y = absurd (none_some refl e)
one_number p name (x ∷ xs) zero f c e y = sym (if_true (bytes_eq x.name name) (ap (λ (g : Fun). bytes_eq g.name name) (some_inj e) ∙ y) 0 (1 + number_of name xs))
one_number p name (x ∷ xs) (suc k) f c e y = by (bytes_eq x.name name) refl (λ q. one_number p name xs k f q e y)
  where
    count : (b : Bool) → bytes_eq x.name name ≡ b → cond b 1 0 + count_by (λ (g : Fun). bytes_eq g.name name) xs ≡ 1
    count b q = ap (λ z. cond z 1 0 + count_by (λ (g : Fun). bytes_eq g.name name) xs) (sym q) ∙ sym (count_next (λ (g : Fun). bytes_eq g.name name) x xs) ∙ c

    by : (b : Bool) → bytes_eq x.name name ≡ b → (count_by (λ (g : Fun). bytes_eq g.name name) xs ≡ 1 → k ≡ number_of name xs) → suc k ≡ number_of name (x ∷ xs)
    by true q again = absurd (not_among p (λ (g : Fun). bytes_eq g.name name) xs k f (let z = count true q in omega (arith, z)) e y)
    by false q again = let next = again (let z = count false q in omega (arith, z)) in
        omega (arith, next, if_false (bytes_eq x.name name) q 0 (1 + number_of name xs))

pub lowerable : (p : Program) → Scoped p → Lowerable p
lowerable p s = record {
  binds = λ k f e. (let z = s.funs k f e in let long = z.spelled in body_binds p s f.spelling (length f.spelling) (names_below z.sig.count) z.sig.count f.body (omega arith) z.body);
  room = λ k f sig e g. (let z = s.funs k f e in let up = body_up p z.sig.count f.body in let long = z.spelled in subst (λ (x : Sig). x.count ≤ length f.spelling) (some_inj (sym z.signed ∙ g)) (omega arith));
  main = λ k f e named. (let z = s.funs k f e in (one_number p (codes "main") p.funs k f s.one_main e named, z.sig, z.signed, main_is_plain p s k f z.sig e named z.signed));
}

-- ---- the opening

-- where a property holds once in a list, some function has it
pub some_of : (P : Fun → Bool) (xs : List Fun) → count_by P xs ≡ 1 → (k : ℕ) × (f : Fun) × (slice_get xs k ≡ Some f) × (P f ≡ true)
some_of P [] c = absurd (omega (arith, c))
some_of P (x ∷ xs) c = by (P x) refl (λ q. some_of P xs q)
  where
    by : (b : Bool) → P x ≡ b → (count_by P xs ≡ 1 → (k : ℕ) × (f : Fun) × (slice_get xs k ≡ Some f) × (P f ≡ true)) → (k : ℕ) × (f : Fun) × (slice_get (x ∷ xs) k ≡ Some f) × (P f ≡ true)
    by true q again = (0, x, refl, q)
    by false q again =
        let z = ap (λ b. cond b 1 0 + count_by P xs) (sym q) ∙ sym (count_next P x xs) ∙ c in
        let r = again (omega (arith, z)) in
        (suc r.0, r.1, r.2, r.3)

pub opening : (p : Program) → Scoped p → (w : Config) × IsOpening p w
opening p s =
    let m = some_of (λ (g : Fun). bytes_eq g.name (codes "main")) p.funs s.one_main in (
      record { heap = record { at = λ b. None; limit = 0; beyond = λ b l. refl }; threads = Running (start m.1 []) [] ∷ []; prints = [] },
      record { number = m.0; main = m.1; declared = m.2; named = m.3; empty = λ b. refl; threads = refl; prints = refl },
    )
