use Rattle.ir_context.specs.Holders.{HasRegion}
use Rattle.ir_context.proofs.SameHandle.{answer_same}
use Rattle.ir_context.proofs.parents.parent_of_region.Goals as goal

pub returns-clause-only : goal.returns-clause-only
returns-clause-only g c = λ parent h. c.region_of_operation.ensures.only parent (answer_same (λ op. HasRegion c.args.program.now op parent) c.parent_operation.result h.op (c.parent_operation.ensures.only h.op h.inner) h.outer)
