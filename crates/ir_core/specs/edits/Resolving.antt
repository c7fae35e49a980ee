-- What the names of an edit stand for.
use Rattle.std.specs.Prelude.{List, Option, None, option_and_then, option_map}
use Rattle.ir_program.specs.Program.{Program}
use Rattle.ir_program.specs.declared.handles.IRNode.TheVariants.{Operation as OperationNode, BasicBlock as BlockNode, Region as RegionNode}
use Rattle.ir_core.specs.declared.edits.edit.Entity.{Entity}
use Rattle.ir_core.specs.declared.edits.edit.Edit.{Edit}
use Rattle.ir_core.specs.declared.edits.edit.Edit.TheVariants as edit
use Rattle.ir_core.specs.declared.edits.direct_edit.DirectEdit.{DirectEdit}
use Rattle.ir_core.specs.declared.edits.direct_edit.DirectEdit.TheVariants as direct
use Rattle.ir_core.specs.edits.Naming.{operation_named, block_named, region_named, value_named}

-- what is made of two things that are named, and of three; none where one is not
abbrev pub of_both : {X Y Z : Type 0} → (X → Y → Z) → Option X → Option Y → Option Z
of_both f x y = option_and_then (λ a. option_map (f a) y) x

abbrev pub of_three : {X Y Z W : Type 0} → (X → Y → Z → W) → Option X → Option Y → Option Z → Option W
of_three f x y z = option_and_then (λ a. of_both (f a) y z) x

module _ {O B OpKind : Type 0} where
  -- the edit on what its names stand for, in a program, where `made` is what the edits before it made; none where a name stands for nothing, and of an edit with lists
  abbrev pub resolved : Program O B → List (Option Entity) → Edit OpKind → Option DirectEdit
  resolved c made (edit.PushResult op ty) = option_map (λ p. direct.PushResult p ty) (operation_named made op)
  resolved c made (edit.PopResult op) = option_map direct.PopResult (operation_named made op)
  resolved c made (edit.InsertResult op index ty) = option_map (λ p. direct.InsertResult p index ty) (operation_named made op)
  resolved c made (edit.RemoveResult op index) = option_map (λ p. direct.RemoveResult p index) (operation_named made op)
  resolved c made (edit.PushArgument block ty) = option_map (λ b. direct.PushArgument b ty) (block_named made block)
  resolved c made (edit.PopArgument block) = option_map direct.PopArgument (block_named made block)
  resolved c made (edit.InsertArgument block index ty) = option_map (λ b. direct.InsertArgument b index ty) (block_named made block)
  resolved c made (edit.RemoveArgument block index) = option_map (λ b. direct.RemoveArgument b index) (block_named made block)
  resolved c made (edit.PushOperand op value) = of_both direct.PushOperand (operation_named made op) (value_named c made value)
  resolved c made (edit.PopOperand op) = option_map direct.PopOperand (operation_named made op)
  resolved c made (edit.InsertOperand op index value) = of_both (λ p v. direct.InsertOperand p index v) (operation_named made op) (value_named c made value)
  resolved c made (edit.RemoveOperand op index) = option_map (λ p. direct.RemoveOperand p index) (operation_named made op)
  resolved c made (edit.ReplaceOperand op index value) = of_both (λ p v. direct.ReplaceOperand p index v) (operation_named made op) (value_named c made value)
  resolved c made (edit.PushSuccessor op block) = of_both direct.PushSuccessor (operation_named made op) (block_named made block)
  resolved c made (edit.PopSuccessor op) = option_map direct.PopSuccessor (operation_named made op)
  resolved c made (edit.InsertSuccessor op index block) = of_both (λ p b. direct.InsertSuccessor p index b) (operation_named made op) (block_named made block)
  resolved c made (edit.RemoveSuccessor op index) = option_map (λ p. direct.RemoveSuccessor p index) (operation_named made op)
  resolved c made (edit.ReplaceSuccessor op index block) = of_both (λ p b. direct.ReplaceSuccessor p index b) (operation_named made op) (block_named made block)
  resolved c made (edit.AddRegion op) = option_map direct.AddRegion (operation_named made op)
  resolved c made (edit.EraseRegion op index) = option_map (λ p. direct.EraseRegion p index) (operation_named made op)
  resolved c made (edit.EraseOperation op) = option_map direct.EraseOperation (operation_named made op)
  resolved c made (edit.EraseBlock block) = option_map direct.EraseBlock (block_named made block)
  resolved c made (edit.MoveRegionToOp region op) = of_both direct.MoveRegionToOp (region_named c made region) (operation_named made op)
  resolved c made (edit.OperationDropAllUses op) = option_map (λ p. direct.DropAllUses (OperationNode p)) (operation_named made op)
  resolved c made (edit.RegionDropAllUses region) = option_map (λ q. direct.DropAllUses (RegionNode q)) (region_named c made region)
  resolved c made (edit.BlockDropAllUses block) = option_map (λ b. direct.DropAllUses (BlockNode b)) (block_named made block)
  resolved c made (edit.InsertOperationAfter op mark) = of_both direct.InsertOperationAfter (operation_named made op) (operation_named made mark)
  resolved c made (edit.InsertOperationBefore op mark) = of_both direct.InsertOperationBefore (operation_named made op) (operation_named made mark)
  resolved c made (edit.InsertOperationAtFront op block) = of_both direct.InsertOperationAtFront (operation_named made op) (block_named made block)
  resolved c made (edit.InsertOperationAtBack op block) = of_both direct.InsertOperationAtBack (operation_named made op) (block_named made block)
  resolved c made (edit.UnlinkOperation op) = option_map direct.UnlinkOperation (operation_named made op)
  resolved c made (edit.AppendOperations donee donor) = of_both direct.AppendOperations (block_named made donee) (block_named made donor)
  resolved c made (edit.InsertBlockAfter block mark) = of_both direct.InsertBlockAfter (block_named made block) (block_named made mark)
  resolved c made (edit.InsertBlockBefore block mark) = of_both direct.InsertBlockBefore (block_named made block) (block_named made mark)
  resolved c made (edit.InsertBlockAtFront block region) = of_both direct.InsertBlockAtFront (block_named made block) (region_named c made region)
  resolved c made (edit.InsertBlockAtBack block region) = of_both direct.InsertBlockAtBack (block_named made block) (region_named c made region)
  resolved c made (edit.UnlinkBlock block) = option_map direct.UnlinkBlock (block_named made block)
  resolved c made (edit.AppendBlocks donee donor) = of_both direct.AppendBlocks (region_named c made donee) (region_named c made donor)
  resolved c made (edit.ReplaceAllUsesWith value other) = of_both direct.ReplaceAllUsesWith (value_named c made value) (value_named c made other)
  resolved c made (edit.ReplaceUseWith value place other) = of_three (λ v p w. direct.ReplaceUseWith v p place.index w) (value_named c made value) (operation_named made place.user_op) (value_named c made other)
  resolved c made (edit.RetargetAllPredsTo block other) = of_both direct.RetargetAllPredsTo (block_named made block) (block_named made other)
  resolved c made (edit.RetargetPredTo block place other) = of_three (λ b p to. direct.RetargetPredTo b p place.index to) (block_named made block) (operation_named made place.user_op) (block_named made other)
  resolved c made _ = None
