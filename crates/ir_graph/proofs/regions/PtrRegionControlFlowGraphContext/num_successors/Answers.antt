use Rattle.ir_graph.proofs.RegionEdges.{live_block}
use Rattle.ir_graph.proofs.regions.PtrRegionControlFlowGraphContext.num_successors.Goals as goal

pub num_succ-requires : goal.num_succ-requires
num_succ-requires g c = live_block c.program.result.now c.args.ctx.now.program c.program.ensures c.know_lists.ensures.blocks c.args.self.now c.args.node.now c.requires.node
