use Rattle.std.proofs.Common.{◌∙◌}
use Rattle.ir_program.proofs.lists.InBlocks.{next_op_held, next_op_is, no_op_at_root, op_answer_live}
use Rattle.ir_program.proofs.program.Program.next_operation.Goals as goal

pub operation_if-requires : goal.operation_if-requires
operation_if-requires g c = next_op_held _ c.args.self.now c.self.view_is c.know_listed.ensures c.args.op c.requires c.next_op.result c.next_op.ensures.next c.next_op.ensures.root

pub returns-clause-next : goal.returns-clause-next
returns-clause-next g c block k h = c.operation_if.ensures ∙ next_op_is _ c.args.self.now c.self.view_is c.know_listed.ensures c.args.op c.requires c.next_op.result c.next_op.ensures.next block k h

pub returns-clause-unlinked : goal.returns-clause-unlinked
returns-clause-unlinked g c free = c.operation_if.ensures ∙ no_op_at_root _ c.args.self.now c.self.view_is c.know_listed.ensures c.args.op c.requires c.next_op.result c.next_op.ensures.root free

pub returns-clause-live : goal.returns-clause-live
returns-clause-live g c = op_answer_live _ c.args.self.now c.self.view_is c.know_listed.ensures c.args.op c.requires c.next_op.result (next_op_held _ c.args.self.now c.self.view_is c.know_listed.ensures c.args.op c.requires c.next_op.result c.next_op.ensures.next c.next_op.ensures.root) c.operation_if.result c.operation_if.ensures
