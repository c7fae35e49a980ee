-- Numbers of what is inside an operation of a program.
use Rattle.std.specs.Prelude.{◌<◌, ◌^◌}
use Rattle.ir_program.specs.Lists.{StandsInside}
use Rattle.ir_program.specs.Program.{Program, results_at, arguments_at}
use Rattle.ir_program.specs.Rows.{operands_at}
use Rattle.ir_program.specs.declared.handles.IRNode.{IRNode}
use Rattle.ir_program.specs.declared.handles.IRNode.TheVariants.{Operation as OperationNode, Region as RegionNode, BasicBlock as BlockNode}
use Rattle.ir_program.specs.declared.handles.Ptr.{Ptr}
use Rattle.ir_program.specs.declared.handles.Operation.{Operation}
use Rattle.text_rereading.specs.Places.{AreSmall, DefinesSmall}

module _ {O B : Type 0} (c : Program O B) where
  -- the numbers of something fit in 64 bits: those of the values that it defines or takes, and the slot and the
  -- version of
  -- a block
  abbrev pub HasSmallNode : IRNode → Type 0
  HasSmallNode (OperationNode p) = DefinesSmall (results_at c p) × AreSmall (operands_at c p)
  HasSmallNode (RegionNode r) = Unit {0}
  HasSmallNode (BlockNode b) = (b.key.slot < 2 ^ 64) × (b.key.version < 2 ^ 64) × DefinesSmall (arguments_at c b)

  -- so do those of an operation and of all that is inside it
  abbrev pub HasSmallNodes : Ptr Operation → Type 0
  HasSmallNodes p = (e : IRNode) → StandsInside c (OperationNode p) e → HasSmallNode e
