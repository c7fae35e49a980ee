use Rattle.std.proofs.Common.{ap}
use Rattle.ir_program.specs.Program.{Program}
use Rattle.ir_program.proofs.lists.MovingOperations.{op_linked, ops_still_program, nothing_further_inside, stands_nowhere, taken_out}
use Rattle.ir_program.proofs.lists.Rearranged.{types_stay}
use Rattle.ir_program.proofs.program.Program.unlink_operation.Goals as goal

pub unlink_op-requires-clause-linked : goal.unlink_op-requires-clause-linked
unlink_op-requires-clause-linked g c = op_linked _ c.args.self.now c.self.view_is c.know_listed.ensures c.args.op c.requires

pub invariant_of-self : goal.invariant_of-self
invariant_of-self g c = ops_still_program _ c.args.self.now c.self.view_is c.know_listed.ensures c.unlink_op.new.self c.unlink_op.ensures.rest c.self.invariant

pub returns-clause-edited : goal.returns-clause-edited
returns-clause-edited g c block k h = taken_out _ c.args.self.now c.self.view_is c.know_listed.ensures c.unlink_op.new.self c.unlink_op.ensures.rest c.args.op block k h c.unlink_op.ensures.lists

pub returns-clause-unlinked : goal.returns-clause-unlinked
returns-clause-unlinked g c = stands_nowhere _ c.args.op c.unlink_op.ensures.root

pub returns-clause-inside : goal.returns-clause-inside
returns-clause-inside g c = nothing_further_inside _ c.args.self.now c.self.view_is c.know_listed.ensures c.unlink_op.new.self c.unlink_op.ensures.rest c.args.op c.unlink_op.ensures.lists

pub returns-clause-values : goal.returns-clause-values
returns-clause-values g c = record {
  types = types_stay _ c.args.self.now c.self.view_is c.unlink_op.new.self.in_blocks c.self.inside.forest.in_regions c.self.inside.forest.in_ops c.unlink_op.new.self c.unlink_op.ensures.rest;
  counter = ap (λ (w : Program _ _). w.counter) c.self.view_is;
}
