use Rattle.std.proofs.Common.{◌++◌}
use Rattle.ir_program.specs.Uses.{AreBlockUses}
use Rattle.ir_program.specs.declared.handles.BasicBlock.{BasicBlock}
use Rattle.ir_program.specs.declared.handles.Ptr.{Ptr}
use Rattle.ir_program.specs.declared.handles.Use.{Use}
use Rattle.ir_trees.proofs.Members.{Has}
use Rattle.opt_inside.specs.forwarding.Local.{IsLocalEdge}
use Rattle.opt_inside.proofs.forwarding.local.is_entered_locally.Given as goal

abbrev pub invariant-loop-edge : goal.invariant-loop-edge
invariant-loop-edge g l = record {
  edges : AreBlockUses l.program l.fn.block (l.yielded ++ l.edge-iterator);
  local : (u : Use (Ptr BasicBlock)) → Has u l.yielded → IsLocalEdge g.D.Meanings.meaning.is_terminator l.program u.user_op l.fn.block;
}
