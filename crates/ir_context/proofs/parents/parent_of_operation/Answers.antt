use Rattle.ir_context.specs.Holders.{HasOperation}
use Rattle.ir_context.proofs.SameHandle.{found_same}
use Rattle.ir_context.proofs.parents.parent_of_operation.Goals as goal

pub returns-in_err-block-clause-only : goal.returns-in_err-block-clause-only
returns-in_err-block-clause-only g c = λ _ h. absurd (c.in_err-block.ensures.parent h.block h.inner)

pub returns-clause-only : goal.returns-clause-only
returns-clause-only g c = λ parent h. c.operation_of_block.ensures.only parent (found_same (λ block. HasOperation c.args.program.now block parent) c.in_ok-block.block h.block (c.in_ok-block.ensures.only h.block h.inner) h.outer)
