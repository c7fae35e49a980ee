use Rattle.std.proofs.Common.{refl}
use Rattle.outline_values.proofs.Places.{value_goes}
use Rattle.outline_values.proofs.values.outlined_value.Goals as goal

pub returns-in-Ok-clause-read : goal.returns-in-Ok-clause-read
returns-in-Ok-clause-read g c =
    let goes = value_goes c.args.stream.now.position c.in-Ok.read.end c.in-Ok.read.value c.in-Ok.ensures in
    record { taken = goes.taken; reads = record { behind = goes.behind; state = refl }; says = c.in-Ok.ensures }
