use Rattle.ir_program.proofs.lists.BlockUnlinks.{apart_still, unlinked_erased}
use Rattle.ir_program.proofs.program.Program.erase_linked_block.Goals as goal

pub erase_unlinked_block-requires-clause-apart : goal.erase_unlinked_block-requires-clause-apart
erase_unlinked_block-requires-clause-apart g c =
    apart_still c.args.self.now c.unlink_block.new.self c.args.block c.requires.linked.0 c.requires.linked.1.index c.know_listed.ensures c.requires.linked.1.here (c.unlink_block.ensures.edited c.requires.linked.0 c.requires.linked.1.index c.requires.linked.1.here) c.unlink_block.ensures.inside c.requires.apart

pub returns : goal.returns
returns g c =
    unlinked_erased c.args.self.now c.unlink_block.new.self c.args.block c.requires.linked.0 c.requires.linked.1.index c.know_listed.ensures c.requires.linked.1.here (c.unlink_block.ensures.edited c.requires.linked.0 c.requires.linked.1.index c.requires.linked.1.here) c.unlink_block.ensures.inside c.erase_unlinked_block.new.self c.unlink_block.ensures.edited c.unlink_block.ensures.values.types c.unlink_block.ensures.values.counter c.erase_unlinked_block.ensures
