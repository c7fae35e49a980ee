use Rattle.std.proofs.Common.{◌≡◌, ◌++◌}
use Rattle.std.specs.Prelude.{Contains}
use Rattle.ir_program.specs.Lists.{operations_in}
use Rattle.ir_program.specs.declared.handles.Ptr.{Ptr}
use Rattle.ir_program.specs.declared.handles.Operation.{Operation}
use Rattle.ir_graph.specs.Regions.{IsTerminatorIfLeads, LeadsInside}
use Rattle.ir_graph.proofs.local_edges.is_left_inside.Given as goal

abbrev pub invariant-loop-op : goal.invariant-loop-op
invariant-loop-op g l = record {
  listed : l.yielded ++ l.op-iterator ≡ operations_in l.ctx.program l.block;
  inside : (op : Ptr Operation) → Contains l.yielded op → IsTerminatorIfLeads g.D.DialectTables.op_has l.ctx.program l.block op × LeadsInside l.ctx.program l.region op;
}
