use Rattle.ir_program.specs.declared.handles.IRNode.TheVariants.{Operation as OperationNode}
use Rattle.location_erasing.proofs.Locating.{operation_has, block_has}
use Rattle.location_erasing.proofs.erasing.erase_locations.Goals as goal

pub returns-clause-operations : goal.returns-clause-operations
returns-clause-operations g c = operation_has g.D.DialectTables.nowhere c.args.ctx.now.program c.erase_inside.new.ctx.program (OperationNode c.args.op) c.requires c.erase_inside.ensures.erased

pub returns-clause-blocks : goal.returns-clause-blocks
returns-clause-blocks g c = block_has g.D.DialectTables.nowhere c.args.ctx.now.program c.erase_inside.new.ctx.program (OperationNode c.args.op) c.requires c.erase_inside.ensures.erased
