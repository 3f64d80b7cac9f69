-- Each kind of piece, by the class of the first byte.
use Rattle.std.proofs.Common.{◌≡◌, ◌<◌, ◌^◌, true, false, Some, None, ap, sym, ◌∙◌, refl, arith}
use Rattle.std.proofs.lemmas.List.Folds.{length-prefix_len}
use Rattle.mz_tree.specs.Bytes.{is_blank, is_inside_line, is_small, is_capital, is_digit, is_name_byte}
use Rattle.mz_tree.specs.Spellings.{key_texts, number_in}
use Rattle.mz_token.specs.Shapes.{value_of, key_or_lower, IsLongName, IsLargeNumber}
use Rattle.mz_tree.specs.Shapes.{Blank_shape, Comment_shape, Lower_shape, Upper_shape, Number_shape, begins_comment}
use Rattle.mz_token.specs.declared.token.Kind.TheVariants as kind
use Rattle.mz_token.proofs.Runs.{run, run_found, run_over, first_is, front_is_run}
use Rattle.mz_token.proofs.Classes.{blank_run, lower_run, upper_run, number_run, comment_run}
use Rattle.mz_token.proofs.pieces.piece.Goals as goal

pub returns-then-blank : goal.returns-then-blank
returns-then-blank c =
    let bytes = c.args.bytes.now in
    let blank = first_is is_blank bytes c.blank.result true c.requires c.blank.ensures c.if-blank.true in
    run_found is_blank Blank_shape bytes None c.blanks.result (blank_run bytes blank) tt refl c.blanks.ensures

pub returns-then-size-gt-LONGEST_NAME : goal.returns-then-size-gt-LONGEST_NAME
returns-then-size-gt-LONGEST_NAME c =
    let bytes = c.args.bytes.now in
    let blank = first_is is_blank bytes c.blank.result false c.requires c.blank.ensures c.if-blank.false in
    let small = first_is is_small bytes c.small.result true c.requires c.small.ensures c.if-small.true in
    run_over is_name_byte Lower_shape bytes IsLongName (lower_run bytes blank small) (omega (arith, length-prefix_len is_name_byte bytes, c.name_bytes-size.ensures))

pub returns-else-size-gt-LONGEST_NAME : goal.returns-else-size-gt-LONGEST_NAME
returns-else-size-gt-LONGEST_NAME c =
    let bytes = c.args.bytes.now in
    let blank = first_is is_blank bytes c.blank.result false c.requires c.blank.ensures c.if-blank.false in
    let small = first_is is_small bytes c.small.result true c.requires c.small.ensures c.if-small.true in
    let text = front_is_run is_name_byte bytes c.name_bytes-size.result c.name_bytes-size.ensures in
    run_found is_name_byte Lower_shape bytes (Some c.lower.result) c.name_bytes-size.result (lower_run bytes blank small) (omega (arith, length-prefix_len is_name_byte bytes, c.name_bytes-size.ensures)) (ap Some (c.lower.ensures ∙ ap (λ t. key_or_lower (number_in key_texts t)) text)) c.name_bytes-size.ensures

pub returns-then-size-gt-LONGEST_NAME-2 : goal.returns-then-size-gt-LONGEST_NAME-2
returns-then-size-gt-LONGEST_NAME-2 c =
    let bytes = c.args.bytes.now in
    let blank = first_is is_blank bytes c.blank.result false c.requires c.blank.ensures c.if-blank.false in
    let small = first_is is_small bytes c.small.result false c.requires c.small.ensures c.if-small.false in
    let capital = first_is is_capital bytes c.capital.result true c.requires c.capital.ensures c.if-capital.true in
    run_over is_name_byte Upper_shape bytes IsLongName (upper_run bytes blank small capital) (omega (arith, length-prefix_len is_name_byte bytes, c.name_bytes-size-then-capital.ensures))

pub returns-else-size-gt-LONGEST_NAME-2 : goal.returns-else-size-gt-LONGEST_NAME-2
returns-else-size-gt-LONGEST_NAME-2 c =
    let bytes = c.args.bytes.now in
    let blank = first_is is_blank bytes c.blank.result false c.requires c.blank.ensures c.if-blank.false in
    let small = first_is is_small bytes c.small.result false c.requires c.small.ensures c.if-small.false in
    let capital = first_is is_capital bytes c.capital.result true c.requires c.capital.ensures c.if-capital.true in
    run_found is_name_byte Upper_shape bytes (Some kind.Upper) c.name_bytes-size-then-capital.result (upper_run bytes blank small capital) (omega (arith, length-prefix_len is_name_byte bytes, c.name_bytes-size-then-capital.ensures)) refl c.name_bytes-size-then-capital.ensures

pub returns-in-Some : goal.returns-in-Some
returns-in-Some c =
    let bytes = c.args.bytes.now in
    let blank = first_is is_blank bytes c.blank.result false c.requires c.blank.ensures c.if-blank.false in
    let small = first_is is_small bytes c.small.result false c.requires c.small.ensures c.if-small.false in
    let capital = first_is is_capital bytes c.capital.result false c.requires c.capital.ensures c.if-capital.false in
    let digit = first_is is_digit bytes c.digit.result true c.requires c.digit.ensures c.if-digit.true in
    let text = front_is_run is_digit bytes c.digits-size.result c.digits-size.ensures in
    let is : c.in-Some.value ≡ value_of (run is_digit bytes) = c.in-Some.ensures.some ∙ ap value_of text in
    let fits : c.in-Some.value < 2 ^ 64 = omega arith in
    run_found is_digit Number_shape bytes (Some (kind.Number c.in-Some.value)) c.digits-size.result (number_run bytes blank small capital digit) (omega arith) (ap (λ n. Some (kind.Number n)) is) c.digits-size.ensures

pub returns-in-None : goal.returns-in-None
returns-in-None c =
    let bytes = c.args.bytes.now in
    let blank = first_is is_blank bytes c.blank.result false c.requires c.blank.ensures c.if-blank.false in
    let small = first_is is_small bytes c.small.result false c.requires c.small.ensures c.if-small.false in
    let capital = first_is is_capital bytes c.capital.result false c.requires c.capital.ensures c.if-capital.false in
    let digit = first_is is_digit bytes c.digit.result true c.requires c.digit.ensures c.if-digit.true in
    let text = front_is_run is_digit bytes c.digits-size.result c.digits-size.ensures in
    run_over is_digit Number_shape bytes IsLargeNumber (number_run bytes blank small capital digit) (rw text at c.in-None.ensures.none)

pub returns-then-starts_with : goal.returns-then-starts_with
returns-then-starts_with c =
    let bytes = c.args.bytes.now in
    let comment : begins_comment bytes ≡ true = sym c.starts_with.ensures.value ∙ c.if-starts_with.true in
    run_found is_inside_line Comment_shape bytes None c.rest_of_line.result (comment_run bytes comment) tt refl c.rest_of_line.ensures

pub mark-requires-clause-other : goal.mark-requires-clause-other
mark-requires-clause-other c =
    let bytes = c.args.bytes.now in
    record {
      blank = first_is is_blank bytes c.blank.result false c.requires c.blank.ensures c.if-blank.false;
      small = first_is is_small bytes c.small.result false c.requires c.small.ensures c.if-small.false;
      capital = first_is is_capital bytes c.capital.result false c.requires c.capital.ensures c.if-capital.false;
      digit = first_is is_digit bytes c.digit.result false c.requires c.digit.ensures c.if-digit.false;
      comment = sym c.starts_with.ensures.value ∙ c.if-starts_with.false;
    }

pub returns-in-Some-mark : goal.returns-in-Some-mark
returns-in-Some-mark c = c.in-Some-mark.ensures

pub returns-in-None-mark : goal.returns-in-None-mark
returns-in-None-mark c = c.in-None-mark.ensures
