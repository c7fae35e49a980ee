use Rattle.opt_inside.proofs.Told.{can_tell_taken, told_within}
use Rattle.opt_inside.proofs.laws.know_taken.Goals as goal

pub returns : goal.returns
returns g c = can_tell_taken c.args.program.now c.args.op (told_within c.args.program.now c.args.op _ c.nodes_inside-inside.ensures.inside)
