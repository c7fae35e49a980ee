use Rattle.ir_context.proofs.ErasedTypes.{built_block_known}
use Rattle.ir_context.proofs.context.TypedProgram.new_block.Goals as goal

pub invariant_of-self : goal.invariant_of-self
invariant_of-self g c = built_block_known _ c.self.inside.program c.build_block-made.new.self c.self.invariant c.know_values.ensures.stands c.args.payload c.args.arguments.now (rw (← c.self.view_is) at c.requires.known) c.build_block-made.result c.build_block-made.ensures.built c.build_block-made.ensures.err_types
