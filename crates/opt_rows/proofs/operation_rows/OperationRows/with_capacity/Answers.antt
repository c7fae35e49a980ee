use Rattle.opt_rows.specs.declared.operation_rows.Columns.{Columns}
use Rattle.opt_rows.proofs.OperationLists.{in_step_none, rows_none}
use Rattle.opt_rows.proofs.operation_rows.OperationRows.with_capacity.Goals as goal

pub invariant_of-result : goal.invariant_of-result
invariant_of-result c =
    let columns : Columns = record {
      blocks = c.in_ok-with_capacity.field-0;
      roles = c.in_ok-with_capacity-2.field-0;
      operands = c.in_ok-with_capacity-3.field-0;
      results = c.in_ok-with_capacity-4.field-0;
      entries = c.in_ok-with_capacity-5.field-0;
      edge_ends = c.in_ok-with_capacity-6.field-0;
      edges = c.in_ok-new.field-0;
    } in
    in_step_none columns (record {
      blocks = c.in_ok-with_capacity.ensures.items;
      roles = c.in_ok-with_capacity-2.ensures.items;
      operands = c.in_ok-with_capacity-3.ensures;
      results = c.in_ok-with_capacity-4.ensures;
      entries = c.in_ok-with_capacity-5.ensures;
      edge_ends = c.in_ok-with_capacity-6.ensures.items;
      edges = c.in_ok-new.ensures;
    })

pub returns : goal.returns
returns c =
    let columns : Columns = record {
      blocks = c.in_ok-with_capacity.field-0;
      roles = c.in_ok-with_capacity-2.field-0;
      operands = c.in_ok-with_capacity-3.field-0;
      results = c.in_ok-with_capacity-4.field-0;
      entries = c.in_ok-with_capacity-5.field-0;
      edge_ends = c.in_ok-with_capacity-6.field-0;
      edges = c.in_ok-new.field-0;
    } in
    rows_none columns (record {
      blocks = c.in_ok-with_capacity.ensures.items;
      roles = c.in_ok-with_capacity-2.ensures.items;
      operands = c.in_ok-with_capacity-3.ensures;
      results = c.in_ok-with_capacity-4.ensures;
      entries = c.in_ok-with_capacity-5.ensures;
      edge_ends = c.in_ok-with_capacity-6.ensures.items;
      edges = c.in_ok-new.ensures;
    })
