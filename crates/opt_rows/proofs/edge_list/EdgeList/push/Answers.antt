use Rattle.std.proofs.Common.{rules, ◌≡◌, ◌++◌, ◌∷◌, [], List, ap, ◌∙◌}
use Rattle.opt_rows.specs.OperationRows.{BranchEdge}
use Rattle.opt_rows.proofs.OperationLists.{edge_more}
use Rattle.opt_rows.proofs.edge_list.EdgeList.push.Goals as goal

pub returns-clause-ok : goal.returns-clause-ok
returns-clause-ok c =
    let i = c.self.inside in
    let t : c.push_reserved.new.self.items ≡ i.targets.items ++ c.args.target ∷ [] = search rules in
    edge_more i.targets.items c.push_reserved.new.self.items i.forwards c.push_row.new.self c.args.target c.args.forwards.now c.self.invariant t c.in_ok-push_row.ensures.ok
    ∙ ap (λ (es : List BranchEdge). es ++ (record { target = c.args.target; forwards = c.args.forwards.now }) ∷ []) c.self.view_is
