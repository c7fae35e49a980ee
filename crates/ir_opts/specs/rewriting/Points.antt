-- Places in blocks, and operations that are put there.
use Rattle.std.specs.Prelude.{◌≡◌, IsSome}
use Rattle.ir_program.specs.ListEdits.{PutsOperationAfter, PutsOperationBefore, PutsOperationFirst, PutsOperationLast}
use Rattle.ir_program.specs.Lists.{IsLinkedOperation, StandsInside}
use Rattle.ir_program.specs.Program.{Program, block_at, operation_at}
use Rattle.ir_program.specs.declared.handles.IRNode.{IRNode}
use Rattle.ir_program.specs.declared.handles.IRNode.TheVariants.{Operation as OperationNode, BasicBlock as BlockNode}
use Rattle.ir_program.specs.declared.handles.Ptr.{Ptr}
use Rattle.ir_program.specs.declared.handles.Operation.{Operation}
use Rattle.ir_opts.specs.declared.rewriting.point.OpInsertionPoint.{OpInsertionPoint}
use Rattle.ir_opts.specs.declared.rewriting.point.OpInsertionPoint.TheVariants.{Unset, AtBlockStart, AtBlockEnd, BeforeOperation, AfterOperation}

module _ {O B : Type 0} where
  -- the place is there: its block is, or its operation is in a block
  abbrev pub PointIsThere : Program O B → OpInsertionPoint → Type 0
  PointIsThere c Unset = ⊥
  PointIsThere c (AtBlockStart b) = IsSome (block_at c b)
  PointIsThere c (AtBlockEnd b) = IsSome (block_at c b)
  PointIsThere c (BeforeOperation p) = IsLinkedOperation c p
  PointIsThere c (AfterOperation p) = IsLinkedOperation c p

  -- the place's block or operation is this entity or in it
  abbrev pub PointIsIn : Program O B → IRNode → OpInsertionPoint → Type 0
  PointIsIn c x Unset = ⊥
  PointIsIn c x (AtBlockStart b) = StandsInside c x (BlockNode b)
  PointIsIn c x (AtBlockEnd b) = StandsInside c x (BlockNode b)
  PointIsIn c x (BeforeOperation p) = StandsInside c x (OperationNode p)
  PointIsIn c x (AfterOperation p) = StandsInside c x (OperationNode p)

  -- the place's block or operation is there no more
  abbrev pub IsErasedPoint : Program O B → OpInsertionPoint → Type 0
  IsErasedPoint c Unset = ⊥
  IsErasedPoint c (AtBlockStart b) = IsSome (block_at c b) → ⊥
  IsErasedPoint c (AtBlockEnd b) = IsSome (block_at c b) → ⊥
  IsErasedPoint c (BeforeOperation p) = IsSome (operation_at c p) → ⊥
  IsErasedPoint c (AfterOperation p) = IsSome (operation_at c p) → ⊥

  -- the operation is put at the place
  abbrev pub PutsAt : Program O B → Program O B → OpInsertionPoint → Ptr Operation → Type 0
  PutsAt old new Unset op = ⊥
  PutsAt old new (AtBlockStart b) op = PutsOperationFirst old new b op
  PutsAt old new (AtBlockEnd b) op = PutsOperationLast old new b op
  PutsAt old new (BeforeOperation p) op = PutsOperationBefore old new p op
  PutsAt old new (AfterOperation p) op = PutsOperationAfter old new p op

  -- what a point becomes where an entity is erased: it stays, but where it is in what goes
  pub record LeavesPoint (c : Program O B) (x : IRNode) (old new : OpInsertionPoint) : Type 0 where
    pub lost : PointIsIn c x old → new ≡ Unset
    pub kept : (PointIsIn c x old → ⊥) → new ≡ old

  -- what a point becomes where entities were erased: it stays, but where its block or operation is gone
  pub record LeavesErased (c : Program O B) (old new : OpInsertionPoint) : Type 0 where
    pub lost : IsErasedPoint c old → new ≡ Unset
    pub kept : (IsErasedPoint c old → ⊥) → new ≡ old
