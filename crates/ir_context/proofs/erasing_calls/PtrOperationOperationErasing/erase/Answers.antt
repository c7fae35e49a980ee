use Rattle.ir_context.proofs.ErasedTypes.{erased_operation_known}
use Rattle.ir_context.proofs.erasing_calls.PtrOperationOperationErasing.erase.Goals as goal

pub invariant_of-ctx : goal.invariant_of-ctx
invariant_of-ctx g c = erased_operation_known _ c.ctx.inside.program c.erase_operation.new.self c.ctx.invariant c.know_values.ensures.stands c.args.self (rw (← c.ctx.view_is) at c.requires.operation) c.erase_operation.ensures
