use Rattle.std.proofs.Common.{sym, ap, ◌∙◌, arith}
use Rattle.opt_rows.specs.OperationRows.{BranchEdge}
use Rattle.opt_rows.proofs.OperationLists.{edge_at}
use Rattle.opt_rows.proofs.edge_list.EdgeList.forwards.Goals as goal

pub row-requires : goal.row-requires
row-requires c = let h = (edge_at c.args.self.now c.self.inside.targets.items c.self.inside.forwards c.args.index c.self.view_is c.requires).0 in let l = c.self.invariant in omega (arith, h, l)

pub returns : goal.returns
returns c =
    let e = edge_at c.args.self.now c.self.inside.targets.items c.self.inside.forwards c.args.index c.self.view_is c.requires in
    c.row.ensures ∙ sym (ap (λ (x : BranchEdge). x.forwards) e.1)
