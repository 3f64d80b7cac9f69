-- What contracts see of plain words: what the actor whose turn it is sees, and what is kept of the others.
use Rattle.std.specs.Prelude.{List, [], Some, vec_len, slice_index_or, slice_set}
use Rattle.mz_tape.specs.Tapes.{TapeView}
use Rattle.mz_words.specs.declared.opening.Tries.{Tries}
use Rattle.mz_words.specs.declared.plain.PlainWords.{PlainWords}
use Rattle.mz_words.specs.FirstWords.{no_tries}
use Rattle.mz_words.specs.Views.{WordsView}

abbrev pub no_tape : TapeView
no_tape = record { list = []; spare = 0 }

-- what is kept of the actor whose turn it is
abbrev pub tape_of : PlainWords → TapeView
tape_of w = slice_index_or w.tapes.items w.turn no_tape

abbrev pub tries_of : PlainWords → Tries
tries_of w = slice_index_or w.tries.items w.turn no_tries

abbrev pub view_of : PlainWords → WordsView
view_of w = record { size = vec_len w.words; actor = w.turn; part = (tape_of w).list; note = (tries_of w).note; spare = (tape_of w).spare; lost = (tries_of w).lost; told = Some w.words.items }

-- all that is kept of the others
pub record Others : Type 0 where
  pub tapes : List TapeView
  pub tries : List Tries

abbrev pub others : List TapeView → List Tries → Others
others tapes tries = record { tapes = tapes; tries = tries }

abbrev pub others_of : PlainWords → Others
others_of w = others (slice_set w.tapes.items w.turn no_tape) (slice_set w.tries.items w.turn no_tries)
