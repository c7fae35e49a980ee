use Rattle.ir_context.proofs.ErasedTypes.{added_region_known}
use Rattle.ir_context.proofs.context.TypedProgram.add_region.Goals as goal

pub invariant_of-self : goal.invariant_of-self
invariant_of-self g c = added_region_known c.self.inside.program c.add_region.new.self _ c.self.invariant c.args.op c.add_region.result c.add_region.ensures.made c.add_region.ensures.err

pub add_region-requires : goal.add_region-requires
add_region-requires g c = rw (← c.self.view_is) at c.requires

pub returns-clause-made : goal.returns-clause-made
returns-clause-made g c = rw (← c.self.view_is) (c.add_region.ensures.made)

pub returns-clause-err : goal.returns-clause-err
returns-clause-err g c = rw (← c.self.view_is) (c.add_region.ensures.err)
