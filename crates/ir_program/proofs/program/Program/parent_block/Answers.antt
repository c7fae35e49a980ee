use Rattle.std.proofs.Common.{◌∙◌}
use Rattle.ir_program.proofs.lists.InBlocks.{parent_block_is, only_parent_block}
use Rattle.ir_program.proofs.program.Program.parent_block.Goals as goal

pub returns-clause-parent : goal.returns-clause-parent
returns-clause-parent g c = parent_block_is _ c.args.self.now c.self.view_is c.know_listed.ensures c.args.op c.requires c.block_of_op.result c.block_of_op.ensures.linked c.block_of_op.ensures.root c.block_if.result c.block_if.ensures

pub returns-clause-only : goal.returns-clause-only
returns-clause-only g c block s = c.block_if.ensures ∙ only_parent_block _ c.args.self.now c.self.view_is c.know_listed.ensures c.args.op c.requires c.block_of_op.result c.block_of_op.ensures.only block s
