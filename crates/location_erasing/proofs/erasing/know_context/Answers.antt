use Rattle.std.proofs.Common.{subst}
use Rattle.ir_walks.specs.Turns.{IsKnown}
use Rattle.location_erasing.proofs.erasing.know_context.Goals as goal

pub returns : goal.returns
returns g c = subst (λ p. IsKnown p c.args.root) c.program.ensures c.know_inside.ensures
