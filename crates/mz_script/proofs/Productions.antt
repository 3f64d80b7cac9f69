-- The reader of the format reads it.
use Rattle.std.proofs.Common.{◌≡◌, ℕ, Bool, true, false, List, [], ◌∷◌, Option, Some, None, IsTrue, refl}
use Rattle.mz_grammar.specs.Reading.{passes}
use Rattle.mz_grammar.specs.Brackets.{no_brackets}
use Rattle.mz_grammar.specs.Readers.{Any, Reads}
use Rattle.mz_grammar.proofs.Readers.{mapped, reads_done, reads_case, token_starts, then_starts, image_starts}
use Rattle.mz_grammar.proofs.ManyReaders.{Ends, reads_many}
use Rattle.mz_grammar.proofs.Parts.{then_any, then_sure}
use Rattle.mz_grammar.proofs.NoBrackets.{flat_token}
use Rattle.mz_tree.specs.Plain.{Atom}
use Rattle.mz_tree.specs.Code.{Op, Commands, Cases, Body, The_command, No_commands, More_commands, The_case, No_cases, More_cases, The_body, If_op, Match_op, Int_op, Unit_op, Fun_op, Copy_op, Arith_op, New_op, Read_op, Write_op, Retag_op, Call_op, Give_op, Take_op, New_lock_op, Acquire_op, Release_op, Spawn_op, Print_op}
use Rattle.mz_tree.specs.Programs.{Fun}
use Rattle.mz_deriv.specs.Spelled.{has_number}
use Rattle.mz_deriv.specs.Scripts.{Do_item, ScriptCases, Script_case, No_script_cases, More_script_cases, items_of}
use Rattle.mz_script.specs.Pieces.{Piece, Head_line, Fun_line, Step_line, Do_line, Case_line, Join_line, End_line, No_line}
use Rattle.mz_script.specs.Places.{heads, begins_fun, steps, does, cases, joins, ends, step_in, uses_in, number_in, atoms_in, Walked, walks, walked_by, seen, body_commands, line}
use Rattle.mz_script.proofs.Format.{StepText, StepsText, JoinLineText, DoText, NumberText, JoinText, CommandsText, OpText, CaseText, CasesText, FunsText, ScriptText}
use Rattle.mz_script.specs.Reading.{step_at, steps_at, do_at, case_at, join_at, join_by, commands_by, op_by, case_by, cases_by, funs_by, script_by}

-- a line that is no step
do_no_step : (p : Piece) → does p ≡ true → steps p ≡ false
do_no_step (Do_line uses) e = refl
do_no_step Head_line e = cc
do_no_step (Fun_line name) e = cc
do_no_step (Step_line s) e = cc
do_no_step (Case_line n) e = cc
do_no_step (Join_line atoms) e = cc
do_no_step End_line e = cc
do_no_step No_line e = cc

end_no_step : (p : Piece) → ends p ≡ true → steps p ≡ false
end_no_step (Do_line uses) e = cc
end_no_step Head_line e = cc
end_no_step (Fun_line name) e = cc
end_no_step (Step_line s) e = cc
end_no_step (Case_line n) e = cc
end_no_step (Join_line atoms) e = cc
end_no_step End_line e = refl
end_no_step No_line e = cc

-- a line for each kind that a body asks for
pub record HasLines {T : Type 0} (piece : T → Piece) (Named : List ℕ → Type 0) : Type 0 where
  pub head_line : T
  pub head_is : IsTrue (heads (piece head_line))
  pub fun_line : List ℕ → T
  pub fun_is : (name : List ℕ) → Named name → IsTrue (begins_fun name (piece (fun_line name)))
  pub step_line : T
  pub step_is : IsTrue (steps (piece step_line))
  pub do_line : T
  pub do_is : IsTrue (does (piece do_line))
  pub case_line : T
  pub case_is : (numbered : Bool) → IsTrue (cases numbered (piece case_line))
  pub join_line : T
  pub join_is : IsTrue (joins (piece join_line))
  pub end_line : T
  pub end_is : IsTrue (ends (piece end_line))

-- each function has a name that a line can have
abbrev pub AllNamed : (List ℕ → Type 0) → List Fun → Type 0
AllNamed Named [] = Unit {0}
AllNamed Named (f ∷ rest) = Named f.name × AllNamed Named rest

module _ {T : Type 0} (piece : T → Piece) (Named : List ℕ → Type 0) (L : HasLines piece Named) where
  step_reads : Reads no_brackets (step_at piece) (StepText piece) Any 0 0
  step_reads = mapped (flat_token (line piece steps) L.step_line L.step_is 0) (λ t. step_in (piece t))

  steps_reads : Reads no_brackets (steps_at piece) (StepsText piece) (Ends (line piece steps) Any) 0 0
  steps_reads = reads_many (line piece steps) step_reads (image_starts (token_starts (line piece steps))) (λ o h. tt)

  join_reads : Reads no_brackets (join_at piece) (JoinLineText piece) Any 0 0
  unfolding join_at
  join_reads = mapped (flat_token (line piece joins) L.join_line L.join_is 0) (λ t. atoms_in (piece t))

  do_reads : Reads no_brackets (do_at piece) (DoText piece) Any 0 0
  unfolding do_at
  do_reads = mapped (flat_token (line piece does) L.do_line L.do_is 0) (λ t. uses_in (piece t))

  number_reads : (numbered : Bool) → Reads no_brackets (case_at piece numbered) (NumberText piece numbered) Any 0 0
  unfolding case_at
  number_reads numbered = mapped (flat_token (line piece (cases numbered)) L.case_line (L.case_is numbered) 0) (λ t. number_in (piece t))

  join_by_reads : (cs : ScriptCases) → Reads no_brackets (join_by piece cs) (JoinText piece cs) Any 0 0
  join_by_reads No_script_cases = reads_done [] Any 0
  join_by_reads (More_script_cases c rest) = join_reads

  after_do : (o : Option T) → passes (line piece does) o ≡ true → Ends (line piece steps) Any o
  after_do None e = cc
  after_do (Some t) e = (do_no_step (piece t) e, tt)

  after_end : (o : Option T) → passes (line piece ends) o ≡ true → Ends (line piece steps) Any o
  after_end None e = cc
  after_end (Some t) e = (end_no_step (piece t) e, tt)

  mutual
    unfolding commands_by CommandsText

    pub commands_read : (all : Commands) → Reads no_brackets (commands_by piece all) (CommandsText piece all) Any 0 0
    commands_read No_commands = then_sure (line piece ends) steps_reads (λ ss. mapped (flat_token (line piece ends) L.end_line L.end_is 0) (λ t. seen ss [])) (λ ss. image_starts (token_starts (line piece ends))) after_end
    commands_read (More_commands (The_command to op place) rest) =
        then_sure (line piece does) steps_reads
        (λ ss. then_any do_reads (λ uses. then_any (op_reads op uses) (λ b. mapped (commands_read rest) (λ items. seen ss (Do_item uses b.0 b.1 ∷ items)))))
        (λ ss. then_starts (DoText piece) _ (image_starts (token_starts (line piece does)))) after_do

    op_reads : (op : Op) (uses : Option (Atom ℕ)) → Reads no_brackets (op_by piece op uses) (OpText piece op uses) Any 0 0
    op_reads (If_op test on_true on_false giving) uses =
        then_any (case_reads false on_true) (λ yes. then_any (case_reads false on_false) (λ no. mapped join_reads (λ join. (More_script_cases yes (More_script_cases no No_script_cases), join))))
    op_reads (Match_op block data_type all giving) uses = then_any (cases_read (has_number (Match_op block data_type all giving) uses) (walked_by uses all) all) (λ cs. mapped (join_by_reads cs) (λ join. (cs, join)))
    op_reads (Int_op n) uses = reads_done (No_script_cases, []) Any 0
    op_reads (Unit_op) uses = reads_done (No_script_cases, []) Any 0
    op_reads (Fun_op f) uses = reads_done (No_script_cases, []) Any 0
    op_reads (Copy_op x) uses = reads_done (No_script_cases, []) Any 0
    op_reads (Arith_op o x y) uses = reads_done (No_script_cases, []) Any 0
    op_reads (New_op con fields) uses = reads_done (No_script_cases, []) Any 0
    op_reads (Read_op x con f) uses = reads_done (No_script_cases, []) Any 0
    op_reads (Write_op x con f y) uses = reads_done (No_script_cases, []) Any 0
    op_reads (Retag_op x old new) uses = reads_done (No_script_cases, []) Any 0
    op_reads (Call_op f args) uses = reads_done (No_script_cases, []) Any 0
    op_reads (Give_op x y) uses = reads_done (No_script_cases, []) Any 0
    op_reads (Take_op x y) uses = reads_done (No_script_cases, []) Any 0
    op_reads (New_lock_op p) uses = reads_done (No_script_cases, []) Any 0
    op_reads (Acquire_op l) uses = reads_done (No_script_cases, []) Any 0
    op_reads (Release_op l) uses = reads_done (No_script_cases, []) Any 0
    op_reads (Spawn_op f x) uses = reads_done (No_script_cases, []) Any 0
    op_reads (Print_op x) uses = reads_done (No_script_cases, []) Any 0

    case_reads : (numbered : Bool) (body : Body) → Reads no_brackets (case_by piece numbered body) (CaseText piece numbered body) Any 0 0
    case_reads numbered (The_body all value place) =
        then_any (number_reads numbered) (λ number. mapped (commands_read all) (λ items. Script_case number (items_of items)))

    cases_read : (numbered : Bool) (walked : Walked) (all : Cases) → Reads no_brackets (cases_by piece numbered walked all) (CasesText piece numbered walked all) Any 0 0
    cases_read numbered walked No_cases = reads_done No_script_cases Any 0
    cases_read numbered walked (More_cases (The_case con body) rest) =
        reads_case (walks walked con) (then_any (case_reads numbered body) (λ c. mapped (cases_read numbered walked rest) (λ cs. More_script_cases c cs))) (cases_read numbered walked rest)

  funs_read : (funs : List Fun) → AllNamed Named funs → Reads no_brackets (funs_by piece funs) (FunsText piece funs) Any 0 0
  unfolding funs_by FunsText
  funs_read [] named = reads_done [] Any 0
  funs_read (f ∷ rest) (here, named) =
      then_any (flat_token (line piece (begins_fun f.name)) (L.fun_line f.name) (L.fun_is f.name here) 0) (λ t. then_any (commands_read (body_commands f.body)) (λ items. mapped (funs_read rest named) (λ scripts. items ∷ scripts)))

  pub script_reads : (funs : List Fun) → AllNamed Named funs → Reads no_brackets (script_by piece funs) (ScriptText piece funs) Any 0 0
  script_reads funs named = then_any (flat_token (line piece heads) L.head_line L.head_is 0) (λ t. funs_read funs named)
