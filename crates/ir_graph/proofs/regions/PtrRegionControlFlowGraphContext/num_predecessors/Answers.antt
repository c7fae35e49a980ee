use Rattle.std.proofs.Common.{IsSome, sym, subst}
use Rattle.ir_program.specs.Program.{block_at}
use Rattle.ir_graph.proofs.RegionEdges.{live_block}
use Rattle.ir_graph.proofs.regions.PtrRegionControlFlowGraphContext.num_predecessors.Goals as goal

pub predecessor_count-requires : goal.predecessor_count-requires
predecessor_count-requires g c = subst (λ q. IsSome (block_at q c.args.node.now)) (sym c.program-program.ensures)
    (live_block c.program-program.result.now c.args.ctx.now.program c.program-program.ensures c.know_lists.ensures.blocks c.args.self.now c.args.node.now c.requires.node)
