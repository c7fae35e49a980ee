use Rattle.std.proofs.Common.{Some, ap}
use Rattle.ir_program.specs.Lists.{StandsInOperation}
use Rattle.ir_context.proofs.SameHandle.{found_same}
use Rattle.ir_context.proofs.parents.operation_of_block.Goals as goal

pub returns-in_err-region-clause-only : goal.returns-in_err-region-clause-only
returns-in_err-region-clause-only g c = λ _ h. absurd (c.in_err-region.ensures.parent h.region h.inner)

pub returns-clause-only : goal.returns-clause-only
returns-clause-only g c = λ op h. ap Some (c.parent_operation.ensures.only op (found_same (λ region. StandsInOperation c.args.program.now region op) c.in_ok-region.region h.region (c.in_ok-region.ensures.only h.region h.inner) h.outer))
