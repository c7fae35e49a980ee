use Rattle.kit_verifier.proofs.Keys.{handle_gained}
use Rattle.kit_verifier.proofs.repeats.add_operation.Goals as goal

pub returns : goal.returns
returns c = handle_gained c.args.operations.now.keys c.insert.new.self.keys c.args.op c.in_ok-insert.ensures.keys
