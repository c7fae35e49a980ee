use Rattle.std.proofs.Common.{chars, inl, inr, refl}
use Rattle.text_parsables.proofs.WholeLemmas.{exit, nothing_left, something_left, has_no_value, stands_up_to}
use Rattle.text_parsables.proofs.whole.parse_whole.Goals as goal

pub returns-in_err-value : goal.returns-in_err-value
returns-in_err-value g c = exit _ _ c.from_residual.result c.in_err-value.field-0.0 c.from_residual.ensures.1
    (inl (has_no_value (g.T.Parsable.stands c.args.arg) (chars c.args.text.now) c.args.state c.new-stream.result c.new-stream.ensures
    c.skip_spaces-stream.result c.skip_spaces-stream.ensures c.parse.new.stream c.in_err-value.field-0.0 c.in_err-value.ensures))

pub returns-then-is_none : goal.returns-then-is_none
returns-then-is_none g c = record {
  last = c.skip_spaces-stream-2.result;
  there = stands_up_to (g.T.Parsable.stands c.args.arg) (chars c.args.text.now) c.args.state c.new-stream.result c.new-stream.ensures
      c.skip_spaces-stream.result c.skip_spaces-stream.ensures c.parse.new.stream c.in_ok-value.value c.skip_spaces-stream-2.result
      c.in_ok-value.ensures c.skip_spaces-stream-2.ensures;
  ends = nothing_left c.skip_spaces-stream-2.result c.next.result c.next.ensures c.if-is_none.ensures;
}

pub returns : goal.returns
returns g c = inr (record {
  value = c.in_ok-value.value;
  last = c.skip_spaces-stream-2.result;
  there = stands_up_to (g.T.Parsable.stands c.args.arg) (chars c.args.text.now) c.args.state c.new-stream.result c.new-stream.ensures
      c.skip_spaces-stream.result c.skip_spaces-stream.ensures c.parse.new.stream c.in_ok-value.value c.skip_spaces-stream-2.result
      c.in_ok-value.ensures c.skip_spaces-stream-2.ensures;
  more = something_left c.skip_spaces-stream-2.result c.next.result c.next.ensures c.if-is_none.ensures;
  cause = c.fault-fault.ensures.cause;
  here = c.fault-fault.ensures.here;
  consumed = refl;
})
