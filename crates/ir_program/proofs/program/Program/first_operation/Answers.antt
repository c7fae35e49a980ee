use Rattle.std.proofs.Common.{◌∙◌}
use Rattle.ir_program.proofs.lists.InBlocks.{first_op_held, first_op_is, ops_stand}
use Rattle.ir_program.proofs.program.Program.first_operation.Goals as goal

pub operation_if-requires : goal.operation_if-requires
operation_if-requires g c = first_op_held _ c.args.self.now c.self.view_is c.know_listed.ensures c.args.block c.requires c.first_op.result c.first_op.ensures

pub returns-clause-first : goal.returns-clause-first
returns-clause-first g c = c.operation_if.ensures ∙ first_op_is _ c.args.self.now c.self.view_is c.know_listed.ensures c.args.block c.requires c.first_op.result c.first_op.ensures

pub returns-clause-stands : goal.returns-clause-stands
returns-clause-stands g c = ops_stand _ c.args.self.now c.self.view_is c.know_listed.ensures c.args.block _ c.operation_if.result (returns-clause-first g c)
