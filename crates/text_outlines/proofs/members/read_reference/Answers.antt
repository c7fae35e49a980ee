use Rattle.std.proofs.Common.{sym, inl, inr}
use Rattle.text_locations.proofs.ReadingLemmas.{exit}
use Rattle.text_outlines.proofs.members.read_reference.Goals as goal

pub returns-in_err-mark : goal.returns-in_err-mark
returns-in_err-mark g c = exit _ _ c.from_residual.result c.in_err-mark.field-0.0 c.from_residual.ensures.1
    (inl (sym c.if-is_at_mark.ensures, c.mark_parse.new.stream, c.in_err-mark.ensures))

pub returns-in_err-value : goal.returns-in_err-value
returns-in_err-value g c = exit _ _ c.from_residual-in_err-value.result c.in_err-value.field-0.0 c.from_residual-in_err-value.ensures.1
    (inr (sym c.if-is_at_mark.ensures, (c.call.new.attribute, c.call.new.stream), c.in_err-value.ensures))
