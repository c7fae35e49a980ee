use Rattle.std.proofs.Common.{refl}
use Rattle.text_locations.proofs.TokenLemmas.{missed}
use Rattle.text_locations.proofs.tokens.expect.Goals as goal

pub returns-then-take_next : goal.returns-then-take_next
returns-then-take_next g c = c.if-take_next.ensures.there refl

pub returns : goal.returns
returns g c =
    let without = c.if-take_next.ensures.without refl in
    missed c.args.token c.args.stream.now c.take_next.new.stream c.skip_spaces.result c.fault_at.result without.0 without.1 c.skip_spaces.ensures c.fault_at.ensures
