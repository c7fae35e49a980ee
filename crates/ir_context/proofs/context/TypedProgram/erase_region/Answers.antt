use Rattle.ir_context.proofs.ErasedTypes.{erased_region_known}
use Rattle.ir_context.proofs.context.TypedProgram.erase_region.Goals as goal

pub invariant_of-self : goal.invariant_of-self
invariant_of-self g c = erased_region_known _ c.self.inside.program c.erase_region.new.self c.self.invariant c.know_values.ensures.stands c.args.region (rw (← c.self.view_is) at c.requires.region) c.erase_region.ensures
