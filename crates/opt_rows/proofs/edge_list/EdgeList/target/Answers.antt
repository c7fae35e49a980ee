use Rattle.std.proofs.Common.{rules, length, refl, sym, ap, ◌∙◌}
use Rattle.std.specs.Prelude.{unwrap_or}
use Rattle.std.proofs.lemmas.Option.{slice_get_read}
use Rattle.opt_rows.specs.OperationRows.{BranchEdge}
use Rattle.opt_rows.proofs.OperationLists.{edge_at}
use Rattle.opt_rows.proofs.edge_list.EdgeList.target.Goals as goal

pub index-requires : goal.index-requires
index-requires c = let h = (edge_at c.args.self.now c.self.inside.targets.items c.self.inside.forwards c.args.index c.self.view_is c.requires).0 in search rules

pub returns : goal.returns
returns c =
    let e = edge_at c.args.self.now c.self.inside.targets.items c.self.inside.forwards c.args.index c.self.view_is c.requires in
    sym (ap (λ (x : BranchEdge). x.target) e.1 ∙ ap (λ o. unwrap_or o 0) (slice_get_read c.self.inside.targets.items (length c.self.inside.targets.items) c.args.index c.index.result.now refl e.0 c.index.ensures))
