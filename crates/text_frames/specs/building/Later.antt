-- What stays of a context while a text is read.
use Rattle.std.specs.Prelude.{◌≡◌, ℕ, List, ◌++◌, Some, slice_get}
use Rattle.ir_program.specs.declared.handles.Ptr.{Ptr}
use Rattle.ir_program.specs.declared.handles.Operation.{Operation}
use Rattle.ir_program.specs.declared.handles.Region.{Region}
use Rattle.ir_program.specs.declared.handles.BasicBlock.{BasicBlock}
use Rattle.ir_program.specs.declared.handles.Value.{Value}
use Rattle.text_dialect.specs.Seen.{SeenOperation, SeenBlock, Seen}
use Rattle.text_frames.specs.building.Kept.{KeepsKeys}

-- some region has the block
pub record IsInSomeRegion {K A T : Type 0} (s : Seen K A T) (b : Ptr BasicBlock) : Type 0 where
  pub region : Ptr Region
  pub blocks : List (Ptr BasicBlock)
  pub index : ℕ
  pub at : s.region region ≡ Some blocks
  pub here : slice_get blocks index ≡ Some b

-- What is whole in the first stays so in the second: types keep their keys, regions keep their blocks, blocks that
-- are in a region are what they are, and operations are, but for operands and successors that they have more. Blocks that are
-- open may have operations more.
pub record IsLater {K A T : Type 0} (s t : Seen K A T) : Type 0 where
  pub types : KeepsKeys s.types t.types
  pub operations : (p : Ptr Operation) (o : SeenOperation K A) → s.operation p ≡ Some o
      → (vs : List Value) × (bs : List (Ptr BasicBlock))
      × (t.operation p ≡ Some (record o { operands = o.operands ++ vs; successors = o.successors ++ bs }))
  pub regions : (r : Ptr Region) (bs : List (Ptr BasicBlock)) → s.region r ≡ Some bs → t.region r ≡ Some bs
  pub placed : (b : Ptr BasicBlock) (v : SeenBlock) → s.block b ≡ Some v → IsInSomeRegion s b → t.block b ≡ Some v
  pub open_blocks : (b : Ptr BasicBlock) (v : SeenBlock) → s.block b ≡ Some v
      → (ps : List (Ptr Operation)) × (t.block b ≡ Some (record v { operations = v.operations ++ ps }))
