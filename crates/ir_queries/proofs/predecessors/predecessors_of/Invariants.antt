use Rattle.std.proofs.Common.{◌≡◌, ◌++◌}
use Rattle.ir_program.specs.Order.{edges_listed}
use Rattle.ir_program.specs.Uses.{AreBlockUses}
use Rattle.ir_queries.specs.Predecessors.{AreUserBlocks}
use Rattle.ir_queries.proofs.predecessors.predecessors_of.Given as goal

abbrev pub invariant-loop-edge : goal.invariant-loop-edge
invariant-loop-edge g l = record {
  edges : AreBlockUses l.program l.fn.block (l.yielded ++ l.edge-iterator);
  listed : l.yielded ++ l.edge-iterator ≡ edges_listed l.program l.fn.block;
  stand : AreUserBlocks l.program l.yielded l.predecessors.items;
}
