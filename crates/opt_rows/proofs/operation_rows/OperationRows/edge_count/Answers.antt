use Rattle.std.proofs.Common.{rules, ◌<◌, length}
use Rattle.opt_rows.proofs.OperationLists.{ends_there, count_is}
use Rattle.opt_rows.proofs.operation_rows.OperationRows.edge_count.Goals as goal

pub offset_bounds-ends-number : goal.offset_bounds-ends-number
offset_bounds-ends-number c =
    let h : c.args.number < length c.as_slice-ends.result.now = ends_there c.args.self.now c.self.inside.columns c.args.number c.as_slice-ends.result.now c.self.view_is c.self.invariant c.requires c.as_slice-ends.ensures.value in search rules

pub bounds-ends-number : goal.bounds-ends-number
bounds-ends-number c = ends_there c.args.self.now c.self.inside.columns c.args.number c.as_slice-ends.result.now c.self.view_is c.self.invariant c.requires c.as_slice-ends.ensures.value

pub start_of-requires : goal.start_of-requires
start_of-requires c = ends_there c.args.self.now c.self.inside.columns c.args.number c.as_slice-ends.result.now c.self.view_is c.self.invariant c.requires c.as_slice-ends.ensures.value

pub overflow_sub-result : goal.overflow_sub-result
overflow_sub-result c = (count_is c.args.self.now c.self.inside.columns c.args.number c.start_of.result c.as_slice-ends.result.now c.self.view_is c.self.invariant c.requires c.as_slice-ends.ensures.value c.start_of.ensures).0

pub returns : goal.returns
returns c = (count_is c.args.self.now c.self.inside.columns c.args.number c.start_of.result c.as_slice-ends.result.now c.self.view_is c.self.invariant c.requires c.as_slice-ends.ensures.value c.start_of.ensures).1
