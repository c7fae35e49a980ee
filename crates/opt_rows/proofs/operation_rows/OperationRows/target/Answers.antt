use Rattle.std.proofs.Common.{arith, ◌+◌, ◌<◌, length, sym, ap, ◌∙◌}
use Rattle.opt_rows.specs.OperationRows.{BranchEdge}
use Rattle.opt_rows.proofs.OperationLists.{ends_there, edge_stands}
use Rattle.opt_rows.proofs.operation_rows.OperationRows.target.Goals as goal

pub start_of-start-requires : goal.start_of-start-requires
start_of-start-requires c = ends_there c.args.self.now c.self.inside.columns c.args.number c.deref.result.now c.self.view_is c.self.invariant c.requires.number c.deref.ensures.value

pub overflow_add-start : goal.overflow_add-start
overflow_add-start c =
    let e = edge_stands c.args.self.now c.self.inside.columns c.args.number c.args.edge c.start_of-start.result c.deref.result.now c.self.view_is c.self.invariant c.requires.number c.requires.edge c.deref.ensures.value c.start_of-start.ensures in
    let h : c.start_of-start.result + c.args.edge < length c.self.inside.columns.edges = e.inside in
    let k = c.self.invariant.countable in omega (arith, h, k)

pub target-requires : goal.target-requires
target-requires c = (edge_stands c.args.self.now c.self.inside.columns c.args.number c.args.edge c.start_of-start.result c.deref.result.now c.self.view_is c.self.invariant c.requires.number c.requires.edge c.deref.ensures.value c.start_of-start.ensures).inside

pub returns : goal.returns
returns c =
    let e = edge_stands c.args.self.now c.self.inside.columns c.args.number c.args.edge c.start_of-start.result c.deref.result.now c.self.view_is c.self.invariant c.requires.number c.requires.edge c.deref.ensures.value c.start_of-start.ensures in
    c.target.ensures ∙ sym (ap (λ (x : BranchEdge). x.target) e.is)
