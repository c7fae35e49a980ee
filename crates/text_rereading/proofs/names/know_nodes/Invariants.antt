use Rattle.ir_program.specs.Preorder.{nodes_inside}
use Rattle.ir_program.specs.declared.handles.IRNode.TheVariants.{Operation as OperationNode}
use Rattle.text_rereading.specs.Numbers.{HasSmallNode}
use Rattle.text_rereading.proofs.SmallNumbers.{HasBefore}
use Rattle.text_rereading.proofs.names.know_nodes.Given as goal

-- those that were looked at have numbers of 64 bits
abbrev pub invariant-loop-node : goal.invariant-loop-node
invariant-loop-node g l =
    HasBefore (HasSmallNode l.program) (nodes_inside l.program (OperationNode l.fn.root)) l.node-iterator
