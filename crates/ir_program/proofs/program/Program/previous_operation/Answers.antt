use Rattle.std.proofs.Common.{◌∙◌}
use Rattle.ir_program.proofs.lists.InBlocks.{prev_op_held, prev_op_is, prev_op_none, no_op_at_root, op_answer_live}
use Rattle.ir_program.proofs.program.Program.previous_operation.Goals as goal

pub operation_if-requires : goal.operation_if-requires
operation_if-requires g c = prev_op_held _ c.args.self.now c.self.view_is c.know_listed.ensures c.args.op c.requires c.prev_op.result c.prev_op.ensures.prev c.prev_op.ensures.root

pub returns-clause-previous : goal.returns-clause-previous
returns-clause-previous g c block k h = c.operation_if.ensures ∙ prev_op_is _ c.args.self.now c.self.view_is c.know_listed.ensures c.args.op c.requires c.prev_op.result c.prev_op.ensures.prev block k h

pub returns-clause-first : goal.returns-clause-first
returns-clause-first g c block h = c.operation_if.ensures ∙ prev_op_none _ c.args.self.now c.self.view_is c.know_listed.ensures c.args.op c.requires c.prev_op.result c.prev_op.ensures.prev block h

pub returns-clause-unlinked : goal.returns-clause-unlinked
returns-clause-unlinked g c free = c.operation_if.ensures ∙ no_op_at_root _ c.args.self.now c.self.view_is c.know_listed.ensures c.args.op c.requires c.prev_op.result c.prev_op.ensures.root free

pub returns-clause-live : goal.returns-clause-live
returns-clause-live g c = op_answer_live _ c.args.self.now c.self.view_is c.know_listed.ensures c.args.op c.requires c.prev_op.result (prev_op_held _ c.args.self.now c.self.view_is c.know_listed.ensures c.args.op c.requires c.prev_op.result c.prev_op.ensures.prev c.prev_op.ensures.root) c.operation_if.result c.operation_if.ensures
