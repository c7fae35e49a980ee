use Rattle.std.proofs.Common.{◌∙◌}
use Rattle.ir_program.proofs.lists.InRegions.{prev_block_held, prev_block_is, prev_block_none, no_block_at_root, block_answer_live}
use Rattle.ir_program.proofs.program.Program.previous_block.Goals as goal

pub block_if-requires : goal.block_if-requires
block_if-requires g c = prev_block_held _ c.args.self.now c.self.view_is c.know_listed.ensures c.args.block c.requires c.prev_block.result c.prev_block.ensures.prev c.prev_block.ensures.root

pub returns-clause-previous : goal.returns-clause-previous
returns-clause-previous g c region k h = c.block_if.ensures ∙ prev_block_is _ c.args.self.now c.self.view_is c.know_listed.ensures c.args.block c.requires c.prev_block.result c.prev_block.ensures.prev region k h

pub returns-clause-first : goal.returns-clause-first
returns-clause-first g c region h = c.block_if.ensures ∙ prev_block_none _ c.args.self.now c.self.view_is c.know_listed.ensures c.args.block c.requires c.prev_block.result c.prev_block.ensures.prev region h

pub returns-clause-unlinked : goal.returns-clause-unlinked
returns-clause-unlinked g c free = c.block_if.ensures ∙ no_block_at_root _ c.args.self.now c.self.view_is c.know_listed.ensures c.args.block c.requires c.prev_block.result c.prev_block.ensures.root free

pub returns-clause-live : goal.returns-clause-live
returns-clause-live g c = block_answer_live _ c.args.self.now c.self.view_is c.know_listed.ensures c.args.block c.requires c.prev_block.result (prev_block_held _ c.args.self.now c.self.view_is c.know_listed.ensures c.args.block c.requires c.prev_block.result c.prev_block.ensures.prev c.prev_block.ensures.root) c.block_if.result c.block_if.ensures
