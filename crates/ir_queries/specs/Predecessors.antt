-- What contracts say of the blocks from which edges lead to a block.
use Rattle.std.specs.Prelude.{◌≡◌, ℕ, List, length, Some, slice_get}
use Rattle.ir_program.specs.Program.{Program}
use Rattle.ir_program.specs.Lists.{StandsInBlock, IsLinkedOperation}
use Rattle.ir_program.specs.Order.{edges_listed}
use Rattle.ir_program.specs.Uses.{IsBlockUse, AreBlockUses}
use Rattle.ir_program.specs.declared.handles.Ptr.{Ptr}
use Rattle.ir_program.specs.declared.handles.BasicBlock.{BasicBlock}
use Rattle.ir_program.specs.declared.handles.Use.{Use}

module _ {O B : Type 0} where
  -- an edge to the block leads from an operation of block `from`
  pub record IsPredecessor (c : Program O B) (block from : Ptr BasicBlock) : Type 0 where
    pub edge : Use (Ptr BasicBlock)
    pub stands : IsBlockUse c edge
    pub leads : edge.def ≡ block
    pub user : StandsInBlock c edge.user_op from

  -- each edge to the block leads from an operation that stands in a block
  abbrev pub HasLinkedUsers : Program O B → Ptr BasicBlock → Type 0
  HasLinkedUsers c block = (u : Use (Ptr BasicBlock)) → IsBlockUse c u → u.def ≡ block → IsLinkedOperation c u.user_op

  -- these are the blocks in which the operations of the uses stand, one for each use, in order
  pub record AreUserBlocks (c : Program O B) (us : List (Use (Ptr BasicBlock))) (bs : List (Ptr BasicBlock)) : Type 0 where
    pub count : length bs ≡ length us
    pub stand : (i : ℕ) (u : Use (Ptr BasicBlock)) (b : Ptr BasicBlock) → slice_get us i ≡ Some u → slice_get bs i ≡ Some b → StandsInBlock c u.user_op b

  -- the blocks from which the edges to a block lead, one for each edge, in any order
  pub record ArePredecessors (c : Program O B) (block : Ptr BasicBlock) (bs : List (Ptr BasicBlock)) : Type 0 where
    pub edges : List (Use (Ptr BasicBlock))
    pub uses : AreBlockUses c block edges
    pub blocks : AreUserBlocks c edges bs

  -- the blocks from which the edges to a block lead, one for each edge, in the order in which the program lists the edges
  abbrev pub ListsPredecessors : Program O B → Ptr BasicBlock → List (Ptr BasicBlock) → Type 0
  ListsPredecessors c block bs = AreUserBlocks c (edges_listed c block) bs
