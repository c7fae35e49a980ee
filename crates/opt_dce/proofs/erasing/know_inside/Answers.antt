use Rattle.opt_dce.proofs.Erased.{decided_by}
use Rattle.opt_dce.proofs.erasing.know_inside.Goals as goal

pub returns : goal.returns
returns g c = decided_by c.args.program.now c.args.op _ c.nodes_inside-inside.ensures.inside
