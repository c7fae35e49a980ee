use Rattle.std.proofs.Common.{◌∙◌}
use Rattle.ir_program.proofs.lists.InRegions.{first_block_held, first_block_is, blocks_stand}
use Rattle.ir_program.proofs.program.Program.first_block.Goals as goal

pub block_if-requires : goal.block_if-requires
block_if-requires g c = first_block_held _ c.args.self.now c.self.view_is c.know_listed.ensures c.args.region c.requires c.first_block.result c.first_block.ensures

pub returns-clause-first : goal.returns-clause-first
returns-clause-first g c = c.block_if.ensures ∙ first_block_is _ c.args.self.now c.self.view_is c.know_listed.ensures c.args.region c.requires c.first_block.result c.first_block.ensures

pub returns-clause-stands : goal.returns-clause-stands
returns-clause-stands g c = blocks_stand _ c.args.self.now c.self.view_is c.know_listed.ensures c.args.region _ c.block_if.result (returns-clause-first g c)
