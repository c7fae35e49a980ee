-- What holds the regions where looking begins.
use Rattle.std.specs.Prelude.{◌≡◌, ◌⊎◌}
use Rattle.ir_program.specs.Lists.{StandsInBlock, StandsInOperation, IsLiveNode}
use Rattle.ir_program.specs.Program.{Program}
use Rattle.ir_program.specs.declared.handles.IRNode.{IRNode}
use Rattle.ir_program.specs.declared.handles.IRNode.TheVariants.{Operation as OperationNode, Region as RegionNode, BasicBlock as BlockNode}
use Rattle.ir_program.specs.declared.handles.Ptr.{Ptr}
use Rattle.ir_program.specs.declared.handles.Operation.{Operation}
use Rattle.opt_inside.specs.declared.reach.starts.Start.{Start}
use Rattle.opt_inside.specs.declared.reach.starts.Start.TheVariants.{Operation as AtOperation, Block as AtBlock, Region as AtRegion}

-- the operation, the block or the region where looking begins
abbrev pub node_of : Start → IRNode
node_of (AtOperation op) = OperationNode op
node_of (AtBlock b) = BlockNode b
node_of (AtRegion r) = RegionNode r

module _ {O B : Type 0} (c : Program O B) where
  -- it holds regions where looking begins, and isn't in one: the operation, or the block and its operations
  abbrev pub IsAbove : Start → IRNode → Type 0
  IsAbove (AtOperation op) e = e ≡ OperationNode op
  IsAbove (AtBlock b) e = (e ≡ BlockNode b) ⊎ ((p : Ptr Operation) × (e ≡ OperationNode p) × StandsInBlock c p b)
  IsAbove (AtRegion r) e = ⊥

  -- where it is a region, it is one of an operation
  abbrev pub HasOwner : Start → Type 0
  HasOwner (AtOperation op) = Unit {0}
  HasOwner (AtBlock b) = Unit {0}
  HasOwner (AtRegion r) = (q : Ptr Operation) × StandsInOperation c r q

  -- it is where looking begins, and is there
  pub record IsStartNode (start : Start) (e : IRNode) : Type 0 where
    pub is : e ≡ node_of start
    pub live : IsLiveNode c e
    pub owner : HasOwner start
