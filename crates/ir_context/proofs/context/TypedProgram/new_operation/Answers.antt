use Rattle.ir_context.proofs.ErasedTypes.{built_operation_known}
use Rattle.ir_context.proofs.context.TypedProgram.new_operation.Goals as goal

pub invariant_of-self : goal.invariant_of-self
invariant_of-self g c = built_operation_known _ c.self.inside.program c.build_operation-made.new.self c.self.invariant c.know_values.ensures.stands c.args.payload c.args.results.now c.args.operands.now c.args.successors.now c.args.regions (rw (← c.self.view_is) at c.requires.known) c.build_operation-made.result c.build_operation-made.ensures.built c.build_operation-made.ensures.err_types
