use Rattle.std.proofs.Common.{refl, sym}
use Rattle.text_locations.proofs.ReadingLemmas.{exit}
use Rattle.text_outlines.proofs.sections.next_mark.Goals as goal

pub returns-then-not-is_at_mark : goal.returns-then-not-is_at_mark
returns-then-not-is_at_mark g c = (
  refl,
  record {
    here = record { position = c.skip_spaces-stream.result; state = c.args.stream.now.state };
    spaces = record { behind = c.skip_spaces-stream.ensures; state = refl };
    without = sym c.if-not-is_at_mark.ensures;
  },
)

pub returns-in_err-index : goal.returns-in_err-index
returns-in_err-index g c = exit _ _ c.from_residual.result c.in_err-index.field-0.0 c.from_residual.ensures.1 (record {
  here = record { position = c.skip_spaces-stream.result; state = c.args.stream.now.state };
  spaces = record { behind = c.skip_spaces-stream.ensures; state = refl };
  there = sym c.if-not-is_at_mark.ensures;
  behind = c.mark_parse.new.stream;
  why = c.in_err-index.ensures;
})

pub returns : goal.returns
returns g c = (
  record { position = c.skip_spaces-stream.result; state = c.args.stream.now.state },
  refl,
  record {
    spaces = record { behind = c.skip_spaces-stream.ensures; state = refl };
    there = sym c.if-not-is_at_mark.ensures;
    number = c.in_ok-index.ensures;
  },
)
