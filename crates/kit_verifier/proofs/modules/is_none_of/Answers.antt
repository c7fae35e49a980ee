use Rattle.kit_verifier.proofs.Keys.{handle_tells}
use Rattle.kit_verifier.proofs.Sets.{opposite}
use Rattle.kit_verifier.proofs.modules.is_none_of.Goals as goal

pub returns : goal.returns
returns c = opposite c.contains.result (handle_tells c.args.operations.now.keys c.args.op c.contains.result c.contains.ensures)
