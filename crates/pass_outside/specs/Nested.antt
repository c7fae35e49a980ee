-- The operations of an operation's blocks.
use Rattle.std.specs.Prelude.{List, flat_map}
use Rattle.ir_program.specs.Lists.{operations_in, blocks_in, regions_in, StandsInBlock, StandsInRegion, StandsInOperation}
use Rattle.ir_program.specs.Program.{Program}
use Rattle.ir_program.specs.declared.handles.BasicBlock.{BasicBlock}
use Rattle.ir_program.specs.declared.handles.Operation.{Operation}
use Rattle.ir_program.specs.declared.handles.Ptr.{Ptr}
use Rattle.ir_program.specs.declared.handles.Region.{Region}

module _ {O B : Type 0} where
  -- the operations of a region's blocks, block by block
  abbrev pub operations_of_region : Program O B → Ptr Region → List (Ptr Operation)
  operations_of_region c r = flat_map (operations_in c) (blocks_in c r)

  -- the operations of an operation's blocks, region by region, and block by block
  abbrev pub nested_in : Program O B → Ptr Operation → List (Ptr Operation)
  nested_in c p = flat_map (operations_of_region c) (regions_in c p)

  -- q is one of them: where it is
  pub record IsChild (c : Program O B) (p q : Ptr Operation) : Type 0 where
    pub block : Ptr BasicBlock
    pub region : Ptr Region
    pub in_block : StandsInBlock c q block
    pub in_region : StandsInRegion c block region
    pub in_operation : StandsInOperation c region p
