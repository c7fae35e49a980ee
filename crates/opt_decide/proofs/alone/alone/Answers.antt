use Rattle.opt_decide.proofs.Folded.{definer_there}
use Rattle.opt_decide.proofs.alone.alone.Goals as goal

pub folded-requires : goal.folded-requires
folded-requires g c = definer_there c.args.program.now c.know_values.ensures.stands c.args.value c.in-Op.op c.requires c.in-Op.ensures
