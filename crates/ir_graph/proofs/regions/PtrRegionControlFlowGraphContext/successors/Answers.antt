use Rattle.ir_graph.proofs.RegionEdges.{live_block}
use Rattle.ir_graph.proofs.regions.PtrRegionControlFlowGraphContext.successors.Goals as goal

pub succs-requires : goal.succs-requires
succs-requires g c = live_block c.program.result.now c.args.ctx.now.program c.program.ensures c.know_lists.ensures.blocks c.args.self.now c.args.node.now c.requires.node
