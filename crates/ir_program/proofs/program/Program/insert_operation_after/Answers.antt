use Rattle.std.proofs.Common.{ap}
use Rattle.ir_program.specs.declared.handles.IRNode.TheVariants.{Operation as OperationNode}
use Rattle.ir_program.specs.Program.{Program}
use Rattle.ir_program.proofs.lists.Inside.{outside_by_slots}
use Rattle.ir_program.proofs.lists.MovingOperations.{op_linked, op_unlinked, ops_still_program, put_behind}
use Rattle.ir_program.proofs.lists.Rearranged.{types_stay}
use Rattle.ir_program.proofs.program.Program.insert_operation_after.Goals as goal

pub insert_op_after-requires-clause-linked : goal.insert_op_after-requires-clause-linked
insert_op_after-requires-clause-linked g c = op_linked _ c.args.self.now c.self.view_is c.know_listed.ensures c.args.mark c.requires.mark

pub insert_op_after-requires-clause-root : goal.insert_op_after-requires-clause-root
insert_op_after-requires-clause-root g c = op_unlinked _ c.args.self.now c.self.view_is c.know_listed.ensures c.args.op c.requires.op c.requires.unlinked

pub insert_op_after-requires-clause-apart : goal.insert_op_after-requires-clause-apart
insert_op_after-requires-clause-apart g c = outside_by_slots _ c.args.self.now c.self.view_is c.know_listed.ensures (OperationNode c.args.op) (OperationNode c.args.mark) c.requires.op c.requires.mark.1.operation c.requires.apart

pub invariant_of-self : goal.invariant_of-self
invariant_of-self g c = ops_still_program _ c.args.self.now c.self.view_is c.know_listed.ensures c.insert_op_after.new.self c.insert_op_after.ensures.rest c.self.invariant

pub returns-clause-edited : goal.returns-clause-edited
returns-clause-edited g c block k h = put_behind _ c.args.self.now c.self.view_is c.know_listed.ensures c.insert_op_after.new.self c.insert_op_after.ensures.rest c.args.op c.requires.op c.args.mark block k h c.insert_op_after.ensures.lists

pub returns-clause-values : goal.returns-clause-values
returns-clause-values g c = record {
  types = types_stay _ c.args.self.now c.self.view_is c.insert_op_after.new.self.in_blocks c.self.inside.forest.in_regions c.self.inside.forest.in_ops c.insert_op_after.new.self c.insert_op_after.ensures.rest;
  counter = ap (λ (w : Program _ _). w.counter) c.self.view_is;
}
