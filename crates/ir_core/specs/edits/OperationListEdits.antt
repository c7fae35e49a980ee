-- What edits of the lists of blocks do and answer.
use Rattle.std.specs.Prelude.{◌≡◌, Option, None, IsSome, Result}
use Rattle.ir_program.specs.Program.{operation_at, block_at}
use Rattle.ir_program.specs.Lists.{StandsInside, IsLinkedOperation, IsUnlinkedOperation}
use Rattle.ir_program.specs.Edits.{AppendsBlock}
use Rattle.ir_program.specs.declared.handles.Ptr.{Ptr}
use Rattle.ir_program.specs.declared.handles.Operation.{Operation}
use Rattle.ir_program.specs.declared.handles.BasicBlock.{BasicBlock}
use Rattle.ir_program.specs.declared.handles.IRNode.TheVariants.{Operation as OperationNode, BasicBlock as BlockNode}
use Rattle.ir_program.specs.ListEdits.{PutsOperationAfter, PutsOperationBefore, TakesOutOperation, PutsOperationFirst, PutsOperationLast}
use Rattle.ir_core.specs.edits.Same.{KeepsValuesAndTypes, IsSame}
use Rattle.ir_context.specs.Views.{ContextView}
use Rattle.ir_context.specs.declared.errors.CoreError.{CoreError}
use Rattle.ir_core.specs.declared.edits.edit.Entity.{Entity}
use Rattle.ir_core.specs.edits.Answered.{Answered}

module _ {O B T : Type 0} where
  -- the operation, which stands in no block, right after one that stands in one and not inside it
  abbrev pub AnswersInsertOperationAfter : ContextView O B T → Ptr Operation → Ptr Operation → ContextView O B T → Result (Option Entity) CoreError → Type 0
  AnswersInsertOperationAfter c p mark n r =
      Answered (IsSome (operation_at c.program p) × IsUnlinkedOperation c.program p × IsLinkedOperation c.program mark × (StandsInside c.program (OperationNode p) (OperationNode mark) → ⊥)) ⊥ ⊥
      (λ e. (e ≡ None) × (PutsOperationAfter c.program n.program mark p) × KeepsValuesAndTypes c n)
      (IsSame c n) r

  -- the operation, which stands in no block, right before one that stands in one and not inside it
  abbrev pub AnswersInsertOperationBefore : ContextView O B T → Ptr Operation → Ptr Operation → ContextView O B T → Result (Option Entity) CoreError → Type 0
  AnswersInsertOperationBefore c p mark n r =
      Answered (IsSome (operation_at c.program p) × IsUnlinkedOperation c.program p × IsLinkedOperation c.program mark × (StandsInside c.program (OperationNode p) (OperationNode mark) → ⊥)) ⊥ ⊥
      (λ e. (e ≡ None) × (PutsOperationBefore c.program n.program mark p) × KeepsValuesAndTypes c n)
      (IsSame c n) r

  -- the operation, which stands in no block, first in a block that does not stand inside it
  abbrev pub AnswersInsertOperationAtFront : ContextView O B T → Ptr Operation → Ptr BasicBlock → ContextView O B T → Result (Option Entity) CoreError → Type 0
  AnswersInsertOperationAtFront c p b n r =
      Answered (IsSome (operation_at c.program p) × IsUnlinkedOperation c.program p × IsSome (block_at c.program b) × (StandsInside c.program (OperationNode p) (BlockNode b) → ⊥)) ⊥ ⊥
      (λ e. (e ≡ None) × PutsOperationFirst c.program n.program b p × KeepsValuesAndTypes c n)
      (IsSame c n) r

  -- the operation, which stands in no block, last in a block that does not stand inside it
  abbrev pub AnswersInsertOperationAtBack : ContextView O B T → Ptr Operation → Ptr BasicBlock → ContextView O B T → Result (Option Entity) CoreError → Type 0
  AnswersInsertOperationAtBack c p b n r =
      Answered (IsSome (operation_at c.program p) × IsUnlinkedOperation c.program p × IsSome (block_at c.program b) × (StandsInside c.program (OperationNode p) (BlockNode b) → ⊥)) ⊥ ⊥
      (λ e. (e ≡ None) × PutsOperationLast c.program n.program b p × KeepsValuesAndTypes c n)
      (IsSame c n) r

  -- the operation out of the block that it stands in
  abbrev pub AnswersUnlinkOperation : ContextView O B T → Ptr Operation → ContextView O B T → Result (Option Entity) CoreError → Type 0
  AnswersUnlinkOperation c p n r =
      Answered (IsLinkedOperation c.program p) ⊥ ⊥
      (λ e. (e ≡ None) × (TakesOutOperation c.program n.program p) × KeepsValuesAndTypes c n)
      (IsSame c n) r

  -- the operations of the second block behind those of the first; neither stands inside the other
  abbrev pub AnswersAppendOperations : ContextView O B T → Ptr BasicBlock → Ptr BasicBlock → ContextView O B T → Result (Option Entity) CoreError → Type 0
  AnswersAppendOperations c donee donor n r =
      Answered (IsSome (block_at c.program donee) × IsSome (block_at c.program donor) × (StandsInside c.program (BlockNode donor) (BlockNode donee) → ⊥) × (StandsInside c.program (BlockNode donee) (BlockNode donor) → ⊥)) ⊥ ⊥
      (λ e. (e ≡ None) × AppendsBlock c.program n.program donee donor × KeepsValuesAndTypes c n)
      (IsSame c n) r
