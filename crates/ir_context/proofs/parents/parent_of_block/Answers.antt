use Rattle.ir_context.specs.Holders.{HasBlock}
use Rattle.ir_context.proofs.SameHandle.{found_same}
use Rattle.ir_context.proofs.parents.parent_of_block.Goals as goal

pub returns-in_err-region-clause-only : goal.returns-in_err-region-clause-only
returns-in_err-region-clause-only g c = λ _ h. absurd (c.in_err-region.ensures.parent h.region h.inner)

pub returns-clause-only : goal.returns-clause-only
returns-clause-only g c = λ parent h. c.block_of_region.ensures.only parent (found_same (λ region. HasBlock c.args.program.now region parent) c.in_ok-region.region h.region (c.in_ok-region.ensures.only h.region h.inner) h.outer)
