-- What an edit does to what it names, by how much it names.
use Rattle.ir_program.specs.declared.handles.IRNode.TheVariants.{Operation as OperationNode, BasicBlock as BlockNode}
use Rattle.ir_program.specs.declared.handles.Ptr.{Ptr}
use Rattle.ir_program.specs.declared.handles.Operation.{Operation}
use Rattle.ir_program.specs.declared.handles.Region.{Region}
use Rattle.ir_program.specs.declared.handles.BasicBlock.{BasicBlock}
use Rattle.ir_program.specs.declared.handles.Value.{Value}
use Rattle.ir_core.specs.declared.edits.direct_edit.DirectEdit.{DirectEdit}
use Rattle.ir_core.specs.declared.edits.direct_edit.DirectEdit.TheVariants as direct
use Rattle.ir_core.specs.declared.edits.shapes.OperationEdit.{OperationEdit}
use Rattle.ir_core.specs.declared.edits.shapes.OperationEdit.TheVariants as operation
use Rattle.ir_core.specs.declared.edits.shapes.BlockEdit.{BlockEdit}
use Rattle.ir_core.specs.declared.edits.shapes.BlockEdit.TheVariants as block
use Rattle.ir_core.specs.declared.edits.shapes.OperandEdit.{OperandEdit}
use Rattle.ir_core.specs.declared.edits.shapes.OperandEdit.TheVariants as operand
use Rattle.ir_core.specs.declared.edits.shapes.EdgeEdit.{EdgeEdit}
use Rattle.ir_core.specs.declared.edits.shapes.EdgeEdit.TheVariants as edge
use Rattle.ir_core.specs.declared.edits.shapes.Side.{Side}
use Rattle.ir_core.specs.declared.edits.shapes.Side.TheVariants as side
use Rattle.ir_core.specs.declared.edits.shapes.BlocksEdit.{BlocksEdit}
use Rattle.ir_core.specs.declared.edits.shapes.BlocksEdit.TheVariants as blocks
use Rattle.ir_core.specs.declared.edits.shapes.End.{End}
use Rattle.ir_core.specs.declared.edits.shapes.End.TheVariants as end

-- the edit of an operation
abbrev pub operation_edit : OperationEdit → Ptr Operation → DirectEdit
operation_edit (operation.PushResult ty) = λ p. direct.PushResult p ty
operation_edit operation.PopResult = direct.PopResult
operation_edit (operation.InsertResult index ty) = λ p. direct.InsertResult p index ty
operation_edit (operation.RemoveResult index) = λ p. direct.RemoveResult p index
operation_edit operation.PopOperand = direct.PopOperand
operation_edit (operation.RemoveOperand index) = λ p. direct.RemoveOperand p index
operation_edit operation.PopSuccessor = direct.PopSuccessor
operation_edit (operation.RemoveSuccessor index) = λ p. direct.RemoveSuccessor p index
operation_edit operation.AddRegion = direct.AddRegion
operation_edit (operation.EraseRegion index) = λ p. direct.EraseRegion p index
operation_edit operation.Erase = direct.EraseOperation
operation_edit operation.DropAllUses = λ p. direct.DropAllUses (OperationNode p)
operation_edit operation.Unlink = direct.UnlinkOperation

-- the edit of a block
abbrev pub block_edit : BlockEdit → Ptr BasicBlock → DirectEdit
block_edit (block.PushArgument ty) = λ b. direct.PushArgument b ty
block_edit block.PopArgument = direct.PopArgument
block_edit (block.InsertArgument index ty) = λ b. direct.InsertArgument b index ty
block_edit (block.RemoveArgument index) = λ b. direct.RemoveArgument b index
block_edit block.Erase = direct.EraseBlock
block_edit block.DropAllUses = λ b. direct.DropAllUses (BlockNode b)
block_edit block.Unlink = direct.UnlinkBlock

-- the edit of an operation's operands, with a value
abbrev pub operand_edit : OperandEdit → Ptr Operation → Value → DirectEdit
operand_edit operand.Push = direct.PushOperand
operand_edit (operand.Insert index) = λ p v. direct.InsertOperand p index v
operand_edit (operand.Replace index) = λ p v. direct.ReplaceOperand p index v

-- the edit of an operation and a block
abbrev pub edge_edit : EdgeEdit → Ptr Operation → Ptr BasicBlock → DirectEdit
edge_edit edge.PushSuccessor = direct.PushSuccessor
edge_edit (edge.InsertSuccessor index) = λ p b. direct.InsertSuccessor p index b
edge_edit (edge.ReplaceSuccessor index) = λ p b. direct.ReplaceSuccessor p index b
edge_edit edge.InsertAtFront = direct.InsertOperationAtFront
edge_edit edge.InsertAtBack = direct.InsertOperationAtBack

-- the edit that puts an operation beside another
abbrev pub operations_edit : Side → Ptr Operation → Ptr Operation → DirectEdit
operations_edit side.After = direct.InsertOperationAfter
operations_edit side.Before = direct.InsertOperationBefore

-- the edit of two blocks
abbrev pub blocks_edit : BlocksEdit → Ptr BasicBlock → Ptr BasicBlock → DirectEdit
blocks_edit blocks.InsertAfter = direct.InsertBlockAfter
blocks_edit blocks.InsertBefore = direct.InsertBlockBefore
blocks_edit blocks.AppendOperations = direct.AppendOperations
blocks_edit blocks.RetargetAll = direct.RetargetAllPredsTo

-- the edit that puts a block at an end of a region
abbrev pub region_edit : End → Ptr BasicBlock → Ptr Region → DirectEdit
region_edit end.Front = direct.InsertBlockAtFront
region_edit end.Back = direct.InsertBlockAtBack
