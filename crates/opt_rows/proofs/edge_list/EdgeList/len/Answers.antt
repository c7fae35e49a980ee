use Rattle.std.proofs.Common.{rules, ◌≡◌, List, length, sym, ap, ◌∙◌}
use Rattle.opt_rows.specs.OperationRows.{BranchEdge, edge_in}
use Rattle.opt_rows.proofs.OperationLists.{numbered_len}
use Rattle.opt_rows.proofs.edge_list.EdgeList.len.Goals as goal

pub returns : goal.returns
returns c =
    let i = c.self.inside in
    let l : c.len.result ≡ length i.targets.items = search rules in
    l ∙ sym (numbered_len (edge_in i.targets.items i.forwards) (length i.targets.items)) ∙ ap (λ (es : List BranchEdge). length es) c.self.view_is
