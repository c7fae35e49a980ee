use Rattle.ir_context.proofs.ErasedTypes.{erased_block_known}
use Rattle.ir_context.proofs.erasing_calls.PtrBasicBlockBlockErasing.erase.Goals as goal

pub invariant_of-ctx : goal.invariant_of-ctx
invariant_of-ctx g c = erased_block_known _ c.ctx.inside.program c.erase_block.new.self c.ctx.invariant c.know_values.ensures.stands c.args.self (rw (← c.ctx.view_is) at c.requires.block) c.erase_block.ensures
