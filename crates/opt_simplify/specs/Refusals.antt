-- When a phase of simplifying control flow changes nothing, and when it is refused.
use Rattle.std.specs.Prelude.{◌≡◌, ◌↔◌, ℕ, true, List, Some, slice_get}
use Rattle.ir_program.specs.Lists.{IsLiveNode}
use Rattle.ir_program.specs.Program.{Program}
use Rattle.ir_program.specs.Rows.{successors_at}
use Rattle.ir_program.specs.declared.handles.IRNode.TheVariants.{Operation as OperationNode, BasicBlock as BlockNode}
use Rattle.ir_program.specs.declared.handles.Ptr.{Ptr}
use Rattle.ir_program.specs.declared.handles.Operation.{Operation}
use Rattle.ir_program.specs.declared.handles.BasicBlock.{BasicBlock}
use Rattle.ir_trees.specs.Searched.{AreDistinct}
use Rattle.ir_trees.specs.Stands.{by_handle, in_program, ProgramTree, StandsFor}
use Rattle.opt_trees.specs.Dialect.{Dialect}
use Rattle.opt_trees.specs.Dce.{TreeSurroundings}
use Rattle.opt_trees.specs.Simplify.{StartingRegions, IsCut, IsUnreached, LosesUse}
use Rattle.opt_inside.specs.Occurring.{IsBlockBelow}
use Rattle.opt_inside.specs.reach.Starts.{IsStartIn}
use Rattle.opt_inside.specs.declared.reach.starts.Start.{Start}
use Rattle.opt_inside.specs.Around.{SaysAround}
use Rattle.opt_simplify.specs.Removed.{is_listed, IsWithinPickedBlocks, ArePickedApart}
use Rattle.opt_inside.specs.reach.Fates.{HasReachTest}

module _ {O B A : Type 0} (d : Dialect (in_program O B) A) (c : Program O B) (op : Ptr Operation) (start : Start) where
  -- no block of the operation's tree is unreached
  abbrev pub HasNoneUnreached : Type 0
  HasNoneUnreached = (p : StartingRegions by_handle) → IsStartIn c start p
      → (t : ProgramTree O B) → StandsFor c op t → (b : Ptr BasicBlock) → IsUnreached d p t b → ⊥

  -- these are the blocks of the operation's tree that are unreached, each once; none is in another, and edges to them, or
  -- into them, start in them
  pub record AreUnreached (blocks : List (Ptr BasicBlock)) : Type 0 where
    pub unreached : (p : StartingRegions by_handle) → IsStartIn c start p
        → (t : ProgramTree O B) → StandsFor c op t → (b : Ptr BasicBlock) → (is_listed blocks b ≡ true) ↔ IsUnreached d p t b
    pub reached : (t : ProgramTree O B) → StandsFor c op t → HasReachTest t
    pub once : AreDistinct blocks
    pub there : (b : Ptr BasicBlock) → is_listed blocks b ≡ true → IsLiveNode c (BlockNode b)
    pub below : (b : Ptr BasicBlock) → is_listed blocks b ≡ true → IsBlockBelow c op b
    pub apart : ArePickedApart c (is_listed blocks)
    pub edges : (p : Ptr Operation) (k : ℕ) (s : Ptr BasicBlock) → slice_get (successors_at c p) k ≡ Some s → IsWithinPickedBlocks c (is_listed blocks) (BlockNode s) → IsWithinPickedBlocks c (is_listed blocks) (OperationNode p)

  -- what is left of the tree without its unreached blocks, the root and what is outside it among it, takes a
  -- value of what went
  abbrev pub LosesUses : Type 0
  LosesUses = (p : StartingRegions by_handle) → IsStartIn c start p → (t : ProgramTree O B) → StandsFor c op t
      → (after : ProgramTree O B) × IsCut d p t after × ((w : TreeSurroundings by_handle A) → SaysAround d c op w → LosesUse w t after)

  -- it takes none
  abbrev pub LosesNone : Type 0
  LosesNone = (p : StartingRegions by_handle) → IsStartIn c start p → (t after : ProgramTree O B) (w : TreeSurroundings by_handle A)
      → StandsFor c op t → SaysAround d c op w → IsCut d p t after → LosesUse w t after → ⊥
