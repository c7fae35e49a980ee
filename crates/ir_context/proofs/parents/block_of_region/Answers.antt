use Rattle.ir_program.specs.Lists.{StandsInBlock}
use Rattle.ir_context.proofs.SameHandle.{answer_same}
use Rattle.ir_context.proofs.parents.block_of_region.Goals as goal

pub returns-clause-only : goal.returns-clause-only
returns-clause-only g c = λ block h. c.parent_block.ensures.only block (answer_same (λ op. StandsInBlock c.args.program.now op block) c.parent_operation.result h.op (c.parent_operation.ensures.only h.op h.inner) h.outer)
