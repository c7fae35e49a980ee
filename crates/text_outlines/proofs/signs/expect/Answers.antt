use Rattle.std.proofs.Common.{refl}
use Rattle.text_outlines.proofs.OutlineLemmas.{missed}
use Rattle.text_outlines.proofs.signs.expect.Goals as goal

pub returns-then-take_sign : goal.returns-then-take_sign
returns-then-take_sign g c = c.if-take_sign.ensures.there refl

pub returns : goal.returns
returns g c =
    let without = c.if-take_sign.ensures.without refl in
    missed c.args.sign c.args.stream.now c.take_sign.new.stream c.skip_spaces.result c.fault_at.result without.0 without.1 c.skip_spaces.ensures c.fault_at.ensures
