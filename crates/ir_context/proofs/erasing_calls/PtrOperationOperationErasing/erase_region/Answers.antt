use Rattle.ir_context.proofs.erasing_calls.PtrOperationOperationErasing.erase_region.Goals as goal

pub returns-clause-types : goal.returns-clause-types
returns-clause-types g c = c.erase_region.ensures.types
