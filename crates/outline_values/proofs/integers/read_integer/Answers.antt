use Rattle.outline_values.proofs.Places.{goes_both, goes_next, goes_sign}
use Rattle.outline_values.proofs.integers.read_integer.Goals as goal

pub returns : goal.returns
returns c =
    let number = goes_sign c.args.at c.in_ok-expect.field-0 c.in_ok-number.number.end c.in_ok-expect.ensures.passes c.in_ok-number.ensures in
    let width = goes_next c.args.at c.in_ok-number.number.end c.in_ok-expect-2.field-0 c.in_ok-width.width.end number c.in_ok-expect-2.ensures.passes c.in_ok-width.ensures in
    goes_both c.args.at c.in_ok-width.width.end c.in_ok-end.end width c.in_ok-end.ensures.passes.goes
