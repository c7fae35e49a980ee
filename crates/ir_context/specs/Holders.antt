-- What contracts say of what holds an entity further out.
use Rattle.ir_program.specs.Program.{Program}
use Rattle.ir_program.specs.Lists.{StandsInBlock, StandsInRegion, StandsInOperation}
use Rattle.ir_program.specs.declared.handles.Ptr.{Ptr}
use Rattle.ir_program.specs.declared.handles.Operation.{Operation}
use Rattle.ir_program.specs.declared.handles.Region.{Region}
use Rattle.ir_program.specs.declared.handles.BasicBlock.{BasicBlock}

module _ {O B : Type 0} where
  -- the operation stands in a block of the region
  pub record HasRegion (c : Program O B) (op : Ptr Operation) (region : Ptr Region) : Type 0 where
    pub block : Ptr BasicBlock
    pub inner : StandsInBlock c op block
    pub outer : StandsInRegion c block region

  -- the block stands in a region of the operation
  pub record HasOperation (c : Program O B) (block : Ptr BasicBlock) (op : Ptr Operation) : Type 0 where
    pub region : Ptr Region
    pub inner : StandsInRegion c block region
    pub outer : StandsInOperation c region op

  -- the region is one of an operation that stands in the block
  pub record HasBlock (c : Program O B) (region : Ptr Region) (block : Ptr BasicBlock) : Type 0 where
    pub op : Ptr Operation
    pub inner : StandsInOperation c region op
    pub outer : StandsInBlock c op block

  -- the operation stands in a block of a region of the other one
  pub record HasParent (c : Program O B) (op parent : Ptr Operation) : Type 0 where
    pub block : Ptr BasicBlock
    pub inner : StandsInBlock c op block
    pub outer : HasOperation c block parent

  -- the block stands in a region of an operation that stands in the other block
  pub record HasParentBlock (c : Program O B) (block parent : Ptr BasicBlock) : Type 0 where
    pub region : Ptr Region
    pub inner : StandsInRegion c block region
    pub outer : HasBlock c region parent

  -- the region is one of an operation that stands in a block of the other region
  pub record HasParentRegion (c : Program O B) (region parent : Ptr Region) : Type 0 where
    pub op : Ptr Operation
    pub inner : StandsInOperation c region op
    pub outer : HasRegion c op parent
