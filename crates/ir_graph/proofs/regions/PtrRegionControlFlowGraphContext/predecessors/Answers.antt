use Rattle.std.proofs.Common.{◌≡◌}
use Rattle.std.proofs.lemmas.Result.{IfOk-weaker}
use Rattle.ir_program.specs.Order.{edges_listed}
use Rattle.ir_queries.specs.Predecessors.{ListsPredecessors}
use Rattle.ir_graph.specs.Regions.{predecessors_in}
use Rattle.ir_graph.proofs.RegionEdges.{live_block, linked_users, lists_them, one_row}
use Rattle.ir_graph.proofs.regions.PtrRegionControlFlowGraphContext.predecessors.Goals as goal

pub preds-requires-clause-block : goal.preds-requires-clause-block
preds-requires-clause-block g c = live_block c.program.result.now c.args.ctx.now.program c.program.ensures c.know_lists.ensures.blocks c.args.self.now c.args.node.now c.requires.node

pub preds-requires-clause-linked : goal.preds-requires-clause-linked
preds-requires-clause-linked g c = linked_users g.D.DialectTables.op_has c.program.result.now c.args.ctx.now.program c.program.ensures c.know_lists.ensures.operations c.args.self.now c.requires.graph.local c.args.node.now c.requires.node

pub returns : goal.returns
returns g c = IfOk-weaker c.preds.result (λ row. ListsPredecessors c.args.ctx.now.program c.args.node.now row.items) (λ row. row.items ≡ predecessors_in c.args.ctx.now.program c.args.self.now c.args.node.now)
    (λ row listed. one_row c.args.ctx.now.program c.requires.graph.operations_once (edges_listed c.args.ctx.now.program c.args.node.now) row.items (predecessors_in c.args.ctx.now.program c.args.self.now c.args.node.now) listed
    (lists_them g.D.DialectTables.op_has c.program.result.now c.args.ctx.now.program c.program.ensures c.know_lists.ensures.operations c.args.self.now c.requires.graph c.args.node.now c.requires.node))
    c.preds.ensures.order
