-- What edits of the lists of regions do and answer.
use Rattle.std.specs.Prelude.{◌≡◌, Option, None, IsSome, Result}
use Rattle.ir_program.specs.Program.{block_at, region_at}
use Rattle.ir_program.specs.Lists.{StandsInside, IsLinkedBlock, IsUnlinkedBlock}
use Rattle.ir_program.specs.Edits.{AppendsRegion}
use Rattle.ir_program.specs.declared.handles.Ptr.{Ptr}
use Rattle.ir_program.specs.declared.handles.Region.{Region}
use Rattle.ir_program.specs.declared.handles.BasicBlock.{BasicBlock}
use Rattle.ir_program.specs.declared.handles.IRNode.TheVariants.{BasicBlock as BlockNode, Region as RegionNode}
use Rattle.ir_program.specs.ListEdits.{PutsBlockAfter, PutsBlockBefore, TakesOutBlock, PutsBlockFirst, PutsBlockLast}
use Rattle.ir_core.specs.edits.Same.{KeepsValuesAndTypes, IsSame}
use Rattle.ir_context.specs.Views.{ContextView}
use Rattle.ir_context.specs.declared.errors.CoreError.{CoreError}
use Rattle.ir_core.specs.declared.edits.edit.Entity.{Entity}
use Rattle.ir_core.specs.edits.Answered.{Answered}

module _ {O B T : Type 0} where
  -- the block, which stands in no region, right after one that stands in one and not inside it
  abbrev pub AnswersInsertBlockAfter : ContextView O B T → Ptr BasicBlock → Ptr BasicBlock → ContextView O B T → Result (Option Entity) CoreError → Type 0
  AnswersInsertBlockAfter c b mark n r =
      Answered (IsSome (block_at c.program b) × IsUnlinkedBlock c.program b × IsLinkedBlock c.program mark × (StandsInside c.program (BlockNode b) (BlockNode mark) → ⊥)) ⊥ ⊥
      (λ e. (e ≡ None) × (PutsBlockAfter c.program n.program mark b) × KeepsValuesAndTypes c n)
      (IsSame c n) r

  -- the block, which stands in no region, right before one that stands in one and not inside it
  abbrev pub AnswersInsertBlockBefore : ContextView O B T → Ptr BasicBlock → Ptr BasicBlock → ContextView O B T → Result (Option Entity) CoreError → Type 0
  AnswersInsertBlockBefore c b mark n r =
      Answered (IsSome (block_at c.program b) × IsUnlinkedBlock c.program b × IsLinkedBlock c.program mark × (StandsInside c.program (BlockNode b) (BlockNode mark) → ⊥)) ⊥ ⊥
      (λ e. (e ≡ None) × (PutsBlockBefore c.program n.program mark b) × KeepsValuesAndTypes c n)
      (IsSame c n) r

  -- the block, which stands in no region, first in a region that does not stand inside it
  abbrev pub AnswersInsertBlockAtFront : ContextView O B T → Ptr BasicBlock → Ptr Region → ContextView O B T → Result (Option Entity) CoreError → Type 0
  AnswersInsertBlockAtFront c b q n r =
      Answered (IsSome (block_at c.program b) × IsUnlinkedBlock c.program b × IsSome (region_at c.program q) × (StandsInside c.program (BlockNode b) (RegionNode q) → ⊥)) ⊥ ⊥
      (λ e. (e ≡ None) × PutsBlockFirst c.program n.program q b × KeepsValuesAndTypes c n)
      (IsSame c n) r

  -- the block, which stands in no region, last in a region that does not stand inside it
  abbrev pub AnswersInsertBlockAtBack : ContextView O B T → Ptr BasicBlock → Ptr Region → ContextView O B T → Result (Option Entity) CoreError → Type 0
  AnswersInsertBlockAtBack c b q n r =
      Answered (IsSome (block_at c.program b) × IsUnlinkedBlock c.program b × IsSome (region_at c.program q) × (StandsInside c.program (BlockNode b) (RegionNode q) → ⊥)) ⊥ ⊥
      (λ e. (e ≡ None) × PutsBlockLast c.program n.program q b × KeepsValuesAndTypes c n)
      (IsSame c n) r

  -- the block out of the region that it stands in
  abbrev pub AnswersUnlinkBlock : ContextView O B T → Ptr BasicBlock → ContextView O B T → Result (Option Entity) CoreError → Type 0
  AnswersUnlinkBlock c b n r =
      Answered (IsLinkedBlock c.program b) ⊥ ⊥
      (λ e. (e ≡ None) × (TakesOutBlock c.program n.program b) × KeepsValuesAndTypes c n)
      (IsSame c n) r

  -- the blocks of the second region behind those of the first; neither stands inside the other
  abbrev pub AnswersAppendBlocks : ContextView O B T → Ptr Region → Ptr Region → ContextView O B T → Result (Option Entity) CoreError → Type 0
  AnswersAppendBlocks c donee donor n r =
      Answered (IsSome (region_at c.program donee) × IsSome (region_at c.program donor) × (StandsInside c.program (RegionNode donor) (RegionNode donee) → ⊥) × (StandsInside c.program (RegionNode donee) (RegionNode donor) → ⊥)) ⊥ ⊥
      (λ e. (e ≡ None) × AppendsRegion c.program n.program donee donor × KeepsValuesAndTypes c n)
      (IsSame c n) r
