use Rattle.std.proofs.Common.{◌∙◌}
use Rattle.ir_program.proofs.lists.InBlocks.{last_op_held, last_op_is, ops_stand}
use Rattle.ir_program.proofs.program.Program.last_operation.Goals as goal

pub operation_if-requires : goal.operation_if-requires
operation_if-requires g c = last_op_held _ c.args.self.now c.self.view_is c.know_listed.ensures c.args.block c.requires c.last_op.result c.last_op.ensures

pub returns-clause-last : goal.returns-clause-last
returns-clause-last g c = c.operation_if.ensures ∙ last_op_is _ c.args.self.now c.self.view_is c.know_listed.ensures c.args.block c.requires c.last_op.result c.last_op.ensures

pub returns-clause-stands : goal.returns-clause-stands
returns-clause-stands g c = ops_stand _ c.args.self.now c.self.view_is c.know_listed.ensures c.args.block _ c.operation_if.result (returns-clause-last g c)
