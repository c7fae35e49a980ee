use Rattle.name_tracker.proofs.GoneLemmas.{unreached_still}
use Rattle.name_tracker.proofs.resolving.erase_block.Goals as goal

pub returns-then-can_erase-clause-unused : goal.returns-then-can_erase-clause-unused
returns-then-can_erase-clause-unused g c = unreached_still c.args.ctx.now.program c.erase.new.ctx.program c.args.block c.erase.ensures.erased
