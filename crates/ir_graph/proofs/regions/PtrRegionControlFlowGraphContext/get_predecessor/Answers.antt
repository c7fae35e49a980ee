use Rattle.ir_graph.specs.Regions.{predecessors_in}
use Rattle.ir_graph.proofs.RegionEdges.{linked_users, lists_them}
use Rattle.ir_graph.proofs.regions.PtrRegionControlFlowGraphContext.get_predecessor.Goals as goal

pub get_pred-requires-clause-linked : goal.get_pred-requires-clause-linked
get_pred-requires-clause-linked g c = linked_users g.D.DialectTables.op_has c.program.result.now c.args.ctx.now.program c.program.ensures c.know_lists.ensures.operations c.args.self.now c.requires.graph.local c.args.node.now c.requires.node

pub returns : goal.returns
returns g c = c.get_pred.ensures.exact (predecessors_in c.args.ctx.now.program c.args.self.now c.args.node.now)
    (lists_them g.D.DialectTables.op_has c.program.result.now c.args.ctx.now.program c.program.ensures c.know_lists.ensures.operations c.args.self.now c.requires.graph c.args.node.now c.requires.node)
