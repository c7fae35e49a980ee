use Rattle.std.proofs.Common.{◌∙◌}
use Rattle.ir_program.proofs.lists.InRegions.{next_block_held, next_block_is, no_block_at_root, block_answer_live}
use Rattle.ir_program.proofs.program.Program.next_block.Goals as goal

pub block_if-requires : goal.block_if-requires
block_if-requires g c = next_block_held _ c.args.self.now c.self.view_is c.know_listed.ensures c.args.block c.requires c.next_block.result c.next_block.ensures.next c.next_block.ensures.root

pub returns-clause-next : goal.returns-clause-next
returns-clause-next g c region k h = c.block_if.ensures ∙ next_block_is _ c.args.self.now c.self.view_is c.know_listed.ensures c.args.block c.requires c.next_block.result c.next_block.ensures.next region k h

pub returns-clause-unlinked : goal.returns-clause-unlinked
returns-clause-unlinked g c free = c.block_if.ensures ∙ no_block_at_root _ c.args.self.now c.self.view_is c.know_listed.ensures c.args.block c.requires c.next_block.result c.next_block.ensures.root free

pub returns-clause-live : goal.returns-clause-live
returns-clause-live g c = block_answer_live _ c.args.self.now c.self.view_is c.know_listed.ensures c.args.block c.requires c.next_block.result (next_block_held _ c.args.self.now c.self.view_is c.know_listed.ensures c.args.block c.requires c.next_block.result c.next_block.ensures.next c.next_block.ensures.root) c.block_if.result c.block_if.ensures
