-- From what the parts of a call answered to what the call answers.
use Rattle.std.proofs.Common.{◌≡◌, ℕ, ◌+◌, ◌<◌, ◌≤◌, List, [], ◌∷◌, ◌++◌, length, Option, Some, None, Result, Ok, Err, IfOk, refl, sym, ap, ◌∙◌, subst, ◌⊎◌, inl, inr, String, string_bytes, get_or, arith, codes, length-append, append-nil}
use Rattle.std.specs.declared.alloc.Global.{Global}
use Rattle.mz_base.specs.Causes.{Rose}
use Rattle.mz_base.specs.Told.{Gains, GainsFront, GivesAll, LosesExactly}
use Rattle.mz_tree.specs.declared.types.Place.{Place}
use Rattle.mz_tree.specs.Programs.{Program}
use Rattle.mz_cli.specs.declared.status.Status.{Status}
use Rattle.mz_cli.specs.declared.status.Status.TheVariants as status
use Rattle.mz_cli.specs.declared.run.Ending.TheVariants as ending
use Rattle.mz_cli.specs.declared.refusal.Refusal.{Refusal}
use Rattle.mz_cli.specs.declared.refusal.Refusal.TheVariants as refusal
use Rattle.mz_cli.specs.declared.words.Mode.{Mode}
use Rattle.mz_cli.specs.declared.words.Mode.TheVariants.{Sched, Verify}
use Rattle.mz_cli.specs.Words.{mode_word, Asks, AreTaken, Tells, TellsMode}
use Rattle.mz_cli.specs.Refusals.{source_limit, RunFault, Causes, refusal_text}
use Rattle.mz_cli.specs.Verifying.{VerifyCauses}
use Rattle.mz_cli.specs.Outcome.{line, print_lines, stop_line, Runs, Answers, AreLeft, Comes, Traffic, Outcome}
use Rattle.mz_cli.specs.Answered.{limit_of, IsRead, RunsTo, RunAnswers}
use Rattle.mz_cli.proofs.Ready.{derivable, safe}

-- ---- words

-- two words of which the second is that of a mode
pub two_words : (words : List (String Global)) (word : String Global) (mode : Mode) → 2 ≤ length words → length words < 3 → word ≡ get_or words 1 word → string_bytes word ≡ mode_word mode → Asks words mode
two_words [] word mode most least is named = absurd (omega arith)
two_words (x ∷ []) word mode most least is named = absurd (omega arith)
two_words (x ∷ y ∷ []) word mode most least is named = (x, y, refl, ap string_bytes (sym is) ∙ named)
two_words (x ∷ y ∷ z ∷ rest) word mode most least is named = absurd (omega arith)

-- .. and the other way round
pub second_word : (words : List (String Global)) (word : String Global) (mode : Mode) → Asks words mode → word ≡ get_or words 1 word → string_bytes word ≡ mode_word mode
second_word words word mode (x, y, both, named) is = ap string_bytes (is ∙ ap (λ (l : List (String Global)). get_or l 1 word) both) ∙ named

-- the word's mode is that of the words
pub words_told : (words : List (String Global)) (word : String Global) (found : Option Mode) → 2 ≤ length words → length words < 3 → word ≡ get_or words 1 word → TellsMode (string_bytes word) found → Tells words found
words_told words word (Some mode) most least is named = two_words words word mode most least is named
words_told words word None most least is never = λ asks. never asks.0 (second_word words word asks.0 asks.1 is)

-- words that ask for something are two
pub two_asked : (words : List (String Global)) (mode : Mode) → Asks words mode → length words ≡ 2
two_asked words mode (x, y, both, named) = ap length both

-- ---- runs

pub ended : (program : Program) (prints text : List ℕ) → RunsTo program ending.Ended prints → text ≡ print_lines prints → RunAnswers program status.Done text
ended program prints text (w, leads, done, same) written = (w, leads, done, written ∙ ap print_lines same)

pub halted : (program : Program) (place : Place) (prints text : List ℕ) → RunsTo program (ending.Stopped place) prints → text ≡ print_lines prints ++ stop_line place → RunAnswers program status.Stopped text
halted program place prints text (w, leads, stops, same) written = (w, place, leads, stops, written ∙ ap (λ l. print_lines l ++ stop_line place) same)

-- what is read within the limit runs
runs : (bytes : List ℕ) (program : Program) → length bytes ≤ source_limit → IsRead bytes program → Runs bytes program
runs bytes program short read = record {
  runnable = record { short = short; reads = read.reads; declared = read.declared; first = read.first };
  derivable = derivable program (bytes, read);
  safe = safe program (bytes, read);
}

-- what the run answers is what the bytes answer
pub run_answers : (bytes : List ℕ) (program : Program) (s : Status) (text : List ℕ) → length bytes ≤ source_limit → IsRead bytes program → RunAnswers program s text → Answers Sched bytes s text
run_answers bytes program status.Done text short read (w, leads, done, written) = (program, w, runs bytes program short read, leads, done, written)
run_answers bytes program status.Stopped text short read (w, place, leads, stops, written) = (program, w, place, runs bytes program short read, leads, stops, written)
run_answers bytes program status.Refused text short read h = absurd h
run_answers bytes program status.Usage text short read h = absurd h
run_answers bytes program status.ReadFault text short read h = absurd h
run_answers bytes program status.WriteFault text short read h = absurd h
run_answers bytes program status.Memory text short read h = absurd h

-- a refusal's cause
causes : (bytes : List ℕ) (refusal : Refusal) → length bytes ≤ source_limit → RunFault bytes refusal → Causes bytes refusal
causes bytes refusal.TooLong short wrong = absurd wrong
causes bytes _ short wrong = (short, wrong)

-- a refusal with its line is what the bytes answer
pub refusal_answers : (bytes : List ℕ) (refusal : Refusal) (s : Status) (text : List ℕ) → length bytes ≤ source_limit → RunFault bytes refusal → (s ≡ status.Refused) × (text ≡ line (refusal_text refusal)) → Answers Sched bytes s text
refusal_answers bytes refusal s text short wrong (same, written) = subst (λ x. Answers Sched bytes x text) (sym same) (refusal, causes bytes refusal short wrong, written)

-- so of an input of `verify`
pub verify_answers : (bytes : List ℕ) (refusal : Refusal) (s : Status) (text : List ℕ) → VerifyCauses bytes refusal → (s ≡ status.Refused) × (text ≡ line (refusal_text refusal)) → Answers Verify bytes s text
verify_answers bytes refusal s text cause (same, written) = subst (λ x. Answers Verify bytes x text) (sym same) (refusal, cause, written)

-- .. also where they are too many
pub long_answers : (mode : Mode) (bytes : List ℕ) (s : Status) (text : List ℕ) → limit_of mode < length bytes → (s ≡ status.Refused) × (text ≡ line (refusal_text refusal.TooLong)) → Answers mode bytes s text
long_answers Sched bytes s text long (same, written) = subst (λ x. Answers Sched bytes x text) (sym same) (refusal.TooLong, long, written)
long_answers Verify bytes s text long (same, written) = subst (λ x. Answers Verify bytes x text) (sym same) (refusal.TooLong, inl long, written)

-- what holds of one answer holds of it for another reason
pub if_ok : {A E : Type 0} (P Q : A → Type 0) → ((a : A) → P a → Q a) → (r : Result A E) → IfOk r P → IfOk r Q
if_ok P Q from (Ok a) p = from a p
if_ok P Q from (Err e) p = tt

-- ---- what was read

-- all that was left was read
pub all_left : (old new : Option (List ℕ)) (bytes : List ℕ) → GivesAll old new bytes → AreLeft old bytes
all_left None new bytes all = tt
all_left (Some xs) None bytes all = absurd all.0
all_left (Some xs) (Some ys) bytes all = all.0 ∙ ap (λ l. bytes ++ l) all.1 ∙ append-nil bytes

-- more was read than may be
pub too_many : (limit : ℕ) (old new : Option (List ℕ)) → LosesExactly old new (limit + 1) → (bytes : List ℕ) × AreLeft old bytes × (limit < length bytes)
too_many limit None new (front, long, loses) = (front, tt, omega (arith, long))
too_many limit (Some xs) None (front, long, loses) = absurd loses
too_many limit (Some xs) (Some ys) (front, long, loses) = (xs, refl, omega (arith, long, ap length loses, length-append front ys))

-- ---- what was written

-- the text was written whole, or a front of it after a fault
abbrev pub Wrote : Traffic → Status → Status → List ℕ → Type 0
Wrote t s result text =
    ((result ≡ s) × Gains t.written t.written_after text)
    ⊎ ((result ≡ status.WriteFault) × (Rose t.sink_faults t.sink_faults_after ⊎ Rose t.stalls t.stalls_after) × GainsFront t.written t.written_after text)

abbrev IsFault : Status → Type 0
IsFault status.ReadFault = Unit {0}
IsFault status.WriteFault = Unit {0}
IsFault status.Memory = Unit {0}
IsFault _ = ⊥

-- a fault isn't answered
no_fault_comes : (words : List (String Global)) (left : Option (List ℕ)) (s : Status) (text : List ℕ) → IsFault s → Comes words left s text → ⊥
no_fault_comes words left status.ReadFault text fault (Sched, asks, (bytes, are, never)) = never
no_fault_comes words left status.ReadFault text fault (Verify, asks, (bytes, are, never)) = never
no_fault_comes words left status.WriteFault text fault (Sched, asks, (bytes, are, never)) = never
no_fault_comes words left status.WriteFault text fault (Verify, asks, (bytes, are, never)) = never
no_fault_comes words left status.Memory text fault (Sched, asks, (bytes, are, never)) = never
no_fault_comes words left status.Memory text fault (Verify, asks, (bytes, are, never)) = never
no_fault_comes words left status.Done text fault comes = fault
no_fault_comes words left status.Stopped text fault comes = fault
no_fault_comes words left status.Refused text fault comes = fault
no_fault_comes words left status.Usage text fault comes = fault

whole : (words : List (String Global)) (t : Traffic) (s : Status) (text : List ℕ) → Comes words t.left s text → Gains t.written t.written_after text → Outcome words t s
whole words t status.Done text comes gains = (text, comes, gains)
whole words t status.Stopped text comes gains = (text, comes, gains)
whole words t status.Refused text comes gains = (text, comes, gains)
whole words t status.Usage text comes gains = (text, comes, gains)
whole words t status.ReadFault text comes gains = absurd (no_fault_comes words t.left status.ReadFault text tt comes)
whole words t status.WriteFault text comes gains = absurd (no_fault_comes words t.left status.WriteFault text tt comes)
whole words t status.Memory text comes gains = absurd (no_fault_comes words t.left status.Memory text tt comes)

-- where the text comes with the status and the write went so, the call's outcome is this
pub written_out : (words : List (String Global)) (t : Traffic) (s result : Status) (text : List ℕ) → Comes words t.left s text → Wrote t s result text → Outcome words t result
written_out words t s result text comes (inl (same, gains)) = subst (Outcome words t) (sym same) (whole words t s text comes gains)
written_out words t s result text comes (inr (same, rose, gains)) = subst (Outcome words t) (sym same) (rose, (s, text, comes, gains))

-- a status that the bytes answer isn't that of a fault
pub no_fault : (mode : Mode) (bytes text : List ℕ) (s : Status) → Answers mode bytes s text → s ≡ status.WriteFault → ⊥
no_fault Sched bytes text s answers same = subst (λ (x : Status). Answers Sched bytes x text) same answers
no_fault Verify bytes text s answers same = subst (λ (x : Status). Answers Verify bytes x text) same answers

-- words that are taken, and bytes with their answer
pub comes_of : (words : List (String Global)) (left : Option (List ℕ)) (mode : Mode) (bytes : List ℕ) (s : Status) (text : List ℕ) → Asks words mode → AreLeft left bytes → Answers mode bytes s text → Comes words left s text
comes_of words left Sched bytes status.Usage text asks are answers = absurd answers
comes_of words left Verify bytes status.Usage text asks are answers = absurd answers
comes_of words left mode bytes status.Done text asks are answers = (mode, asks, (bytes, are, answers))
comes_of words left mode bytes status.Stopped text asks are answers = (mode, asks, (bytes, are, answers))
comes_of words left mode bytes status.Refused text asks are answers = (mode, asks, (bytes, are, answers))
comes_of words left mode bytes status.ReadFault text asks are answers = (mode, asks, (bytes, are, answers))
comes_of words left mode bytes status.WriteFault text asks are answers = (mode, asks, (bytes, are, answers))
comes_of words left mode bytes status.Memory text asks are answers = (mode, asks, (bytes, are, answers))
