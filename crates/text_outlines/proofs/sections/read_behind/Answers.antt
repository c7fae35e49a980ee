use Rattle.std.proofs.Common.{inl, inr, sym}
use Rattle.text_locations.proofs.ReadingLemmas.{exit}
use Rattle.text_outlines.proofs.sections.read_behind.Goals as goal

pub returns-in-Ok : goal.returns-in-Ok
returns-in-Ok g c = (
  c.in_ok-entry.entry,
  record {
    fresh = c.in-Ok.ensures.fresh;
    behind_sign = c.expect.new.stream;
    equals = c.in_ok-expect.ensures;
    entry_read = c.in_ok-entry.ensures;
    last = c.in-Ok.ensures.ok;
  },
)

pub returns-then-contains : goal.returns-then-contains
returns-then-contains g c = inl (sym c.if-contains.ensures, c.fault_at.ensures)

pub returns-in_err-expect : goal.returns-in_err-expect
returns-in_err-expect g c = exit _ _ c.from_residual.result c.in_err-expect.field-0.0 c.from_residual.ensures.1
    (inr (inl c.in_err-expect.ensures))

pub returns-in_err-entry : goal.returns-in_err-entry
returns-in_err-entry g c = exit _ _ c.from_residual-in_err-entry.result c.in_err-entry.field-0.0 c.from_residual-in_err-entry.ensures.1
    (inr (inr (inl (c.expect.new.stream, c.in_ok-expect.ensures, c.in_err-entry.ensures))))

pub returns-in-Err : goal.returns-in-Err
returns-in-Err g c = inr (inr (inr c.fault.ensures.cause))
