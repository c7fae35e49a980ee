use Rattle.std.proofs.Common.{inl, inr}
use Rattle.text_locations.proofs.ReadingLemmas.{exit}
use Rattle.text_locations.proofs.places.read_place.Goals as goal

pub returns-in_err-line : goal.returns-in_err-line
returns-in_err-line g c = exit _ _ c.from_residual.result c.in_err-line.field-0.0 c.from_residual.ensures.1 (inl c.in_err-line.ensures)

pub returns-in_err-column : goal.returns-in_err-column
returns-in_err-column g c = exit _ _ c.from_residual-in_err-column.result c.in_err-column.field-0.0 c.from_residual-in_err-column.ensures.1
    (inr (c.in_ok-line.line, c.read_labelled.new.stream, c.in_ok-line.ensures, inl c.in_err-column.ensures))

pub returns-in_err-number : goal.returns-in_err-number
returns-in_err-number g c = exit _ _ c.from_residual-in_err-number.result c.in_err-number.field-0.0 c.from_residual-in_err-number.ensures.1
    (inr (
      c.in_ok-line.line,
      c.read_labelled.new.stream,
      c.in_ok-line.ensures,
      inr (c.in_ok-column.column, c.read_labelled-2.new.stream, c.in_ok-column.ensures, inl c.in_err-number.ensures),
    ))

pub returns-in_err-number-2 : goal.returns-in_err-number-2
returns-in_err-number-2 g c = exit _ _ c.from_residual-in_err-number-2.result c.in_err-number-2.field-0.0 c.from_residual-in_err-number-2.ensures.1
    (inr (
      c.in_ok-line.line,
      c.read_labelled.new.stream,
      c.in_ok-line.ensures,
      inr (
        c.in_ok-column.column,
        c.read_labelled-2.new.stream,
        c.in_ok-column.ensures,
        inr (c.in_ok-number.field-0, c.in_ok-number.ensures, c.in_err-number-2.ensures),
      ),
    ))

pub returns : goal.returns
returns g c = record {
  line = c.in_ok-line.line;
  between = c.read_labelled.new.stream;
  line_read = c.in_ok-line.ensures;
  column = c.in_ok-column.column;
  column_read = c.in_ok-column.ensures;
  line_says = c.in_ok-number.ensures;
  column_says = c.in_ok-number-2.ensures;
}
