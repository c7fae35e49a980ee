use Rattle.ir_program.proofs.lists.Unlinks.{apart_still, unlinked_erased}
use Rattle.ir_program.proofs.program.Program.erase_linked_operation.Goals as goal

pub erase_unlinked_operation-requires-clause-apart : goal.erase_unlinked_operation-requires-clause-apart
erase_unlinked_operation-requires-clause-apart g c =
    apart_still c.args.self.now c.unlink_operation.new.self c.args.op c.requires.linked.0 c.requires.linked.1.index c.know_listed.ensures c.requires.linked.1.here (c.unlink_operation.ensures.edited c.requires.linked.0 c.requires.linked.1.index c.requires.linked.1.here) c.unlink_operation.ensures.inside c.requires.apart

pub returns : goal.returns
returns g c =
    unlinked_erased c.args.self.now c.unlink_operation.new.self c.args.op c.requires.linked.0 c.requires.linked.1.index c.know_listed.ensures c.requires.linked.1.here (c.unlink_operation.ensures.edited c.requires.linked.0 c.requires.linked.1.index c.requires.linked.1.here) c.unlink_operation.ensures.inside c.erase_unlinked_operation.new.self c.unlink_operation.ensures.edited c.unlink_operation.ensures.values.types c.unlink_operation.ensures.values.counter c.erase_unlinked_operation.ensures
