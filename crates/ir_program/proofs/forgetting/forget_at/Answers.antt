use Rattle.ir_program.proofs.erased.ForgetThreads.{block-thread-in}
use Rattle.ir_program.proofs.forgetting.forget_at.Goals as goal

pub forget-requires-clause-unused : goal.forget-requires-clause-unused
forget-requires-clause-unused g c q = c.requires.targets.unnamed c.block-record.result.now.thread q (block-thread-in c.args.forest.now c.args.place c.in-Block.slot c.block_key.result c.block-record.result.now c.in-Block.is c.block_key.ensures.slot c.block-record.ensures)
