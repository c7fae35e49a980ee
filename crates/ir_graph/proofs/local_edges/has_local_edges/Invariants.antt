use Rattle.std.proofs.Common.{◌≡◌, ◌++◌}
use Rattle.std.specs.Prelude.{Contains}
use Rattle.ir_program.specs.Lists.{blocks_in}
use Rattle.ir_program.specs.Order.{edges_listed}
use Rattle.ir_program.specs.Uses.{AreBlockUses}
use Rattle.ir_program.specs.declared.handles.Ptr.{Ptr}
use Rattle.ir_program.specs.declared.handles.BasicBlock.{BasicBlock}
use Rattle.ir_graph.specs.Regions.{IsEnteredInside, IsLeftInside}
use Rattle.ir_graph.proofs.local_edges.has_local_edges.Given as goal

abbrev pub invariant-loop-block : goal.invariant-loop-block
invariant-loop-block g l = record {
  listed : l.yielded ++ l.block-iterator ≡ blocks_in l.ctx.program l.region;
  left : (block : Ptr BasicBlock) → Contains l.yielded block → IsLeftInside g.D.DialectTables.op_has l.ctx.program l.region block;
  entered : (block : Ptr BasicBlock) → Contains l.yielded block → IsEnteredInside l.ctx.program l.region block;
  uses : (block : Ptr BasicBlock) → Contains l.yielded block → AreBlockUses l.ctx.program block (edges_listed l.ctx.program block);
}
