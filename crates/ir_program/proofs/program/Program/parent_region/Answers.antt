use Rattle.std.proofs.Common.{◌∙◌}
use Rattle.ir_program.proofs.lists.InRegions.{parent_region_is, only_parent_region}
use Rattle.ir_program.proofs.program.Program.parent_region.Goals as goal

pub returns-clause-parent : goal.returns-clause-parent
returns-clause-parent g c = parent_region_is _ c.args.self.now c.self.view_is c.know_listed.ensures c.args.block c.requires c.region_of_block.result c.region_of_block.ensures.linked c.region_of_block.ensures.root c.region_if.result c.region_if.ensures

pub returns-clause-only : goal.returns-clause-only
returns-clause-only g c region s = c.region_if.ensures ∙ only_parent_region _ c.args.self.now c.self.view_is c.know_listed.ensures c.args.block c.requires c.region_of_block.result c.region_of_block.ensures.only region s
