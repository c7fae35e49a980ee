use Rattle.ir_program.proofs.lists.BlockUnlinks.{free_erased}
use Rattle.ir_program.proofs.program.Program.erase_block.Goals as goal

pub returns-in-None : goal.returns-in-None
returns-in-None g c = free_erased c.args.self.now c.erase_unlinked_block.new.self c.args.block c.know_listed.ensures c.in-None.ensures.parent c.erase_unlinked_block.ensures
