-- A whole source: what its reader gives is right, and the tree or the fault is the only one.
use Rattle.std.proofs.Common.{◌≡◌, ◌⊎◌, inl, inr, ℕ, List, length, Ok, Err, refl, sym, ap, ◌∙◌}
use Rattle.mz_grammar.specs.Answers.{Stops}
use Rattle.mz_grammar.specs.Contract.{IsRight, Only}
use Rattle.mz_grammar.proofs.OneReason.{wrong_unspelled, deep_bursts, one_wrong, one_deep, wrong_or_deep}
use Rattle.mz_grammar.proofs.WholeTexts as whole
use Rattle.mz_token.specs.declared.token.Token.{Token}
use Rattle.mz_token.specs.declared.token.Tokens.{Tokens}
use Rattle.mz_types.specs.declared.stop.Stop.{Stop}
use Rattle.mz_types.specs.declared.stop.Stop.TheVariants as stop
use Rattle.mz_types.specs.Stops.{cause}
use Rattle.mz_types.specs.Words.{turn}
use Rattle.mz_types.proofs.Rooms.{one_value}
use Rattle.mz_parse.specs.declared.tree.Declaration.{Declaration}
use Rattle.mz_parse.specs.declared.tree.Surface.{Surface}
use Rattle.mz_parse.specs.declared.tree.SyntaxFault.{SyntaxFault}
use Rattle.mz_parse.specs.declared.tree.SyntaxFault.TheVariants.{Unexpected, TooDeep, Memory}
use Rattle.mz_parse.specs.Grammar.{IsProgram}
use Rattle.mz_parse.specs.DeclarationReading.{program_by}
use Rattle.mz_parse.specs.Parses.{Parses, limit, WithinLimit, place_left, Faults, HasCause, Gives, Refuses}
use Rattle.mz_parse.specs.Laws.{AtMostOneTree, AtMostOneFault, NoTreeAndFault, TreeOrFault}
use Rattle.mz_parse.specs.Stops.{fault_at}
use Rattle.mz_parse.proofs.DeclarationProductions.{program_reads, program_ends}

-- ---- the list of declarations, by what the reader on lists reads

-- it stopped
pub right_stop : (ts : List Token) (e : Stop) → Stops (cause e) (program_by limit ts) → IsRight turn limit IsProgram cause ts (Err e)
right_stop ts e h = whole.right_stop (program_reads limit) program_ends cause ts e h

pub only_stop : (ts : List Token) (e : Stop) → Stops (cause e) (program_by limit ts) → Only turn limit IsProgram cause ts (Err e)
only_stop ts e h = whole.only_stop (program_reads limit) program_ends cause ts e h

-- it read up to the end
pub right_end : (ts rest : List Token) (value : List Declaration) → length rest ≡ 0 → program_by limit ts ≡ Ok (value, rest) → IsRight turn limit IsProgram cause ts (Ok value)
right_end ts rest value e h = whole.right_end (program_reads limit) program_ends cause ts rest value e h

pub only_end : (ts rest : List Token) (value : List Declaration) → program_by limit ts ≡ Ok (value, rest) → Only turn limit IsProgram cause ts (Ok value)
only_end ts rest value h = whole.only_end (program_reads limit) program_ends cause ts rest value h

-- it left tokens: the first of them can't stand there
pub right_more : (ts rest : List Token) (value : List Declaration) → (length rest ≡ 0 → ⊥) → program_by limit ts ≡ Ok (value, rest) → IsRight turn limit IsProgram cause ts (Err (stop.Unexpected (length rest)))
right_more ts rest value more h = whole.right_more (program_reads limit) program_ends cause ts rest value (stop.Unexpected (length rest)) refl more h

pub only_more : (ts rest : List Token) (value : List Declaration) → (length rest ≡ 0 → ⊥) → program_by limit ts ≡ Ok (value, rest) → Only turn limit IsProgram cause ts (Err (stop.Unexpected (length rest)))
only_more ts rest value more h = whole.only_more (program_reads limit) program_ends cause ts rest value (stop.Unexpected (length rest)) more h

-- ---- the same with places

-- each stop is a fault, at its place
pub cause_at : (tokens : Tokens) (e : Stop) → IsRight turn limit IsProgram cause tokens.items (Err e) → HasCause tokens (fault_at tokens e)
cause_at tokens (stop.Unexpected left) right = (left, right, refl)
cause_at tokens (stop.TooDeep left) right = (left, right, refl)
cause_at tokens stop.Memory right = tt

-- where it stopped, nothing is to be given
pub gives_stop : (tokens : Tokens) (e : Stop) → Only turn limit IsProgram cause tokens.items (Err e) → (surface : Surface) → Parses tokens surface → WithinLimit tokens → Gives (Err (fault_at tokens e)) surface
gives_stop tokens (stop.Unexpected left) only surface parses within = only surface.declarations parses.spelled within
gives_stop tokens (stop.TooDeep left) only surface parses within = only surface.declarations parses.spelled within
gives_stop tokens stop.Memory only surface parses within = tt

abbrev surface_of : List ℕ → List Declaration → Surface
surface_of text declarations = record { text = text; declarations = declarations }

-- trees with the same text and the same declarations are the same
same_surface : (one other : Surface) → one.text ≡ other.text → one.declarations ≡ other.declarations → one ≡ other
same_surface one other text declarations = ap (λ t. surface_of t one.declarations) text ∙ ap (surface_of other.text) declarations

-- the tree that was given is the one that the tokens have
pub gives_tree : (tokens : Tokens) (found : Surface) → found.text ≡ tokens.text → Only turn limit IsProgram cause tokens.items (Ok found.declarations) → (surface : Surface) → Parses tokens surface → WithinLimit tokens → found ≡ surface
gives_tree tokens found text only surface parses within = same_surface found surface (text ∙ sym parses.text) (only surface.declarations parses.spelled within)

-- ---- the laws

-- with room enough for each bracket the reader reads it, and reads but one
pub one_tree : AtMostOneTree
one_tree tokens surface other one two = same_surface surface other (one.text ∙ sym two.text) (one_value program_reads program_ends tokens.items surface.declarations other.declarations one.spelled two.spelled)

-- a tree has no wrong token, and within the limit no bracket too many
pub tree_no_fault : NoTreeAndFault
tree_no_fault tokens surface (Unexpected place) parses within (left, wrong, at) = wrong_unspelled turn limit IsProgram tokens.items left surface.declarations wrong parses.spelled
tree_no_fault tokens surface (TooDeep place) parses within (left, deep, at) = deep_bursts turn limit IsProgram tokens.items left deep within
tree_no_fault tokens surface Memory parses within fault = fault

-- the first wrong token and the first bracket too many are one, and not both
pub refuses_fault : (tokens : Tokens) (named : SyntaxFault) → HasCause tokens named → (fault : SyntaxFault) → Faults tokens fault → Refuses (Err named) fault
refuses_fault tokens (Unexpected place) (n, one, at) (Unexpected there) (m, two, by) =
    ap Unexpected (at ∙ ap (place_left tokens) (one_wrong turn limit IsProgram tokens.items n m one two) ∙ sym by)
refuses_fault tokens (Unexpected place) (n, one, at) (TooDeep there) (m, two, by) = absurd (wrong_or_deep turn limit IsProgram tokens.items n m one two)
refuses_fault tokens (TooDeep place) (n, one, at) (Unexpected there) (m, two, by) = absurd (wrong_or_deep turn limit IsProgram tokens.items m n two one)
refuses_fault tokens (TooDeep place) (n, one, at) (TooDeep there) (m, two, by) =
    ap TooDeep (at ∙ ap (place_left tokens) (one_deep turn limit IsProgram tokens.items n m one two) ∙ sym by)
refuses_fault tokens (Unexpected place) h Memory two = absurd two
refuses_fault tokens (TooDeep place) h Memory two = absurd two
refuses_fault tokens Memory h fault two = tt

pub one_fault : AtMostOneFault
one_fault tokens (Unexpected place) other one two = refuses_fault tokens (Unexpected place) one other two
one_fault tokens (TooDeep place) other one two = refuses_fault tokens (TooDeep place) one other two
one_fault tokens Memory other one two = absurd one

-- one of them: by what the reader on lists gives
pub tree_or_fault : TreeOrFault
tree_or_fault tokens = elim (whole.value_or_fault (program_reads limit) program_ends tokens.items) [
  | inl it ↦ inl (surface_of tokens.text it.0, record { text = refl; spelled = it.1 }, it.2)
  | inr fault ↦ inr (elim fault [
    | inl wrong ↦ (Unexpected (place_left tokens wrong.0), (wrong.0, wrong.1, refl))
    | inr deep ↦ (TooDeep (place_left tokens deep.0), (deep.0, deep.1, refl))
  ])
]
