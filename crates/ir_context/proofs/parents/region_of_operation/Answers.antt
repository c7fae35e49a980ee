use Rattle.ir_program.specs.Lists.{StandsInRegion}
use Rattle.ir_context.proofs.SameHandle.{found_same}
use Rattle.ir_context.proofs.parents.region_of_operation.Goals as goal

pub returns-in_err-block-clause-only : goal.returns-in_err-block-clause-only
returns-in_err-block-clause-only g c = λ _ h. absurd (c.in_err-block.ensures.parent h.block h.inner)

pub returns-clause-only : goal.returns-clause-only
returns-clause-only g c = λ region h. c.parent_region.ensures.only region (found_same (λ block. StandsInRegion c.args.program.now block region) c.in_ok-block.block h.block (c.in_ok-block.ensures.only h.block h.inner) h.outer)
