use Rattle.std.proofs.Common.{◌∙◌}
use Rattle.ir_program.proofs.lists.InRegions.{last_block_held, last_block_is, blocks_stand}
use Rattle.ir_program.proofs.program.Program.last_block.Goals as goal

pub block_if-requires : goal.block_if-requires
block_if-requires g c = last_block_held _ c.args.self.now c.self.view_is c.know_listed.ensures c.args.region c.requires c.last_block.result c.last_block.ensures

pub returns-clause-last : goal.returns-clause-last
returns-clause-last g c = c.block_if.ensures ∙ last_block_is _ c.args.self.now c.self.view_is c.know_listed.ensures c.args.region c.requires c.last_block.result c.last_block.ensures

pub returns-clause-stands : goal.returns-clause-stands
returns-clause-stands g c = blocks_stand _ c.args.self.now c.self.view_is c.know_listed.ensures c.args.region _ c.block_if.result (returns-clause-last g c)
