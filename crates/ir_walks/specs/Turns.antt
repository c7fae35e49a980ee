-- How a walk goes on, one turn at a time. The clauses of the walks of this crate don't speak of it.
use Rattle.std.specs.Prelude.{◌≡◌, ◌≢◌, ℕ, List, [], ◌∷◌, ◌++◌, Option, Some, None, slice_get}
use Rattle.ir_program.specs.Lists.{operations_in, blocks_in, regions_in, StandsInBlock, StandsInRegion, StandsInOperation, StandsInside, StandOnce}
use Rattle.ir_program.specs.Preorder.{nodes_inside, AreInside, IsPreorder}
use Rattle.ir_program.specs.Program.{Program}
use Rattle.ir_program.specs.declared.handles.BasicBlock.{BasicBlock}
use Rattle.ir_program.specs.declared.handles.IRNode.{IRNode}
use Rattle.ir_program.specs.declared.handles.IRNode.TheVariants.{Operation as OperationNode, Region as RegionNode, BasicBlock as BlockNode}
use Rattle.ir_program.specs.declared.handles.Operation.{Operation}
use Rattle.ir_program.specs.declared.handles.Ptr.{Ptr}
use Rattle.ir_program.specs.declared.handles.Region.{Region}
use Rattle.ir_walks.specs.declared.config.Order.{Order}
use Rattle.ir_walks.specs.declared.config.Order.TheVariants.{PreOrder, PostOrder}
use Rattle.ir_walks.specs.declared.config.WalkConfig.{WalkConfig}
use Rattle.ir_walks.specs.declared.turns.Cursor.{Cursor}
use Rattle.ir_walks.specs.declared.turns.Cursor.TheVariants.{Arriving, Leaving}
use Rattle.ir_walks.specs.declared.results.WalkContinue.{WalkContinue}
use Rattle.ir_walks.specs.declared.results.WalkContinue.TheVariants.{Advance, Skip}
use Rattle.ir_walks.specs.Levels.{level_of, members}

-- the node, where nodes of this order are called on arriving
abbrev pub on_arriving : Order → IRNode → Option IRNode
on_arriving PreOrder e = Some e
on_arriving PostOrder e = None

-- the node, where nodes of this order are called on leaving
abbrev pub on_leaving : Order → IRNode → Option IRNode
on_leaving PreOrder e = None
on_leaving PostOrder e = Some e

-- the node that is called where the walk is
abbrev pub called_at : WalkConfig → Cursor → Option IRNode
called_at config (Arriving e) = on_arriving (level_of config e).order e
called_at config (Leaving e) = on_leaving (level_of config e).order e

-- the node that the walk is at
abbrev pub node_of : Cursor → IRNode
node_of (Arriving e) = e
node_of (Leaving e) = e

module _ {O B : Type 0} (c : Program O B) (config : WalkConfig) where
  -- where a walk goes on from a node into which it goes
  pub data Enters (e : IRNode) : Cursor → Type 0 where
    to_first : (k : IRNode) (ks : List IRNode) → members c config e ≡ k ∷ ks → Enters e (Arriving k)
    to_end : members c config e ≡ [] → Enters e (Leaving e)

  -- where a walk of x goes on from a node of which all is done: to the next node beside it, else out of what holds both
  pub data Exits (x e : IRNode) : Option Cursor → Type 0 where
    all_done : e ≡ x → Exits x e None
    to_next : (d k : IRNode) (before after : List IRNode) → e ≢ x → members c config d ≡ before ++ e ∷ k ∷ after → Exits x e (Some (Arriving k))
    to_holder : (d : IRNode) (before : List IRNode) → e ≢ x → members c config d ≡ before ++ e ∷ [] → Exits x e (Some (Leaving d))

  -- one turn of a walk of x, after this answer
  pub data IsTurn (x : IRNode) : Cursor → WalkContinue → Option Cursor → Type 0 where
    enters : (e : IRNode) (next : Cursor) → Enters e next → IsTurn x (Arriving e) Advance (Some next)
    passes : (e : IRNode) → IsTurn x (Arriving e) Skip (Some (Leaving e))
    exits : (e : IRNode) (a : WalkContinue) (next : Option Cursor) → Exits x e next → IsTurn x (Leaving e) a next

-- what a program tells of the nodes in x, and of where nodes stand
pub record IsKnown {O B : Type 0} (c : Program O B) (x : IRNode) : Type 0 where
  pub operations_once : StandOnce (operations_in c)
  pub blocks_once : StandOnce (blocks_in c)
  pub regions_once : StandOnce (regions_in c)
  pub operations : (block : Ptr BasicBlock) (k : ℕ) (op : Ptr Operation) → slice_get (operations_in c block) k ≡ Some op → StandsInBlock c op block
  pub blocks : (region : Ptr Region) (k : ℕ) (block : Ptr BasicBlock) → slice_get (blocks_in c region) k ≡ Some block → StandsInRegion c block region
  pub regions : (op : Ptr Operation) (k : ℕ) (region : Ptr Region) → slice_get (regions_in c op) k ≡ Some region → StandsInOperation c region op
  pub operation_apart : (op : Ptr Operation) (block : Ptr BasicBlock) → StandsInBlock c op block → StandsInside c (OperationNode op) (BlockNode block) → ⊥
  pub block_apart : (block : Ptr BasicBlock) (region : Ptr Region) → StandsInRegion c block region → StandsInside c (BlockNode block) (RegionNode region) → ⊥
  pub region_apart : (region : Ptr Region) (op : Ptr Operation) → StandsInOperation c region op → StandsInside c (RegionNode region) (OperationNode op) → ⊥
  pub inside : AreInside c x (nodes_inside c x)
  pub order : IsPreorder c (x ∷ []) (nodes_inside c x)
