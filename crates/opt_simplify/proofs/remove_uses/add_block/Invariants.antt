use Rattle.std.proofs.Common.{◌≡◌, ◌++◌}
use Rattle.ir_program.specs.Preorder.{nodes_inside}
use Rattle.ir_program.specs.declared.handles.IRNode.TheVariants.{BasicBlock as BlockNode}
use Rattle.ir_trees.specs.Searched.{Lists}
use Rattle.opt_simplify.specs.Removed.{GainsMembers}
use Rattle.opt_simplify.proofs.remove_uses.add_block.Given as goal

-- those up to here are among them
abbrev pub invariant-loop-node : goal.invariant-loop-node
invariant-loop-node g l = record {
  listed : l.yielded ++ l.node-iterator ≡ nodes_inside l.program (BlockNode l.fn.block);
  gains : GainsMembers l.fn.nodes.keys l.nodes.keys (Lists l.yielded);
}
