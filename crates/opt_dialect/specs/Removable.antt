-- Whether a dialect lets arguments of a block go.
use Rattle.std.specs.Prelude.{◌≡◌, ◌↔◌, ℕ, Bool, true, Some, slice_get}
use Rattle.ir_program.specs.Program.{Program, OperationView, operation_at}
use Rattle.ir_program.specs.Lists.{StandsInRegion, blocks_in}
use Rattle.ir_program.specs.declared.handles.Ptr.{Ptr}
use Rattle.ir_program.specs.declared.handles.Operation.{Operation}
use Rattle.ir_program.specs.declared.handles.Region.{Region}
use Rattle.ir_program.specs.declared.handles.BasicBlock.{BasicBlock}
use Rattle.ir_trees.specs.Stands.{in_program}
use Rattle.opt_trees.specs.Dialect.{Dialect}

module _ {O B A : Type 0} (d : Dialect (in_program O B) A) (c : Program O B) where
  -- the dialect lets arguments of the block go
  pub record IsRemovable (b : Ptr BasicBlock) : Type 0 where
    pub region : Ptr Region
    pub in_region : StandsInRegion c b region
    pub owner : Ptr Operation
    pub view : OperationView O
    pub there : operation_at c owner ≡ Some view
    pub index : ℕ
    pub here : slice_get view.regions index ≡ Some region
    pub first : Bool
    pub entry : (first ≡ true) ↔ (slice_get (blocks_in c region) 0 ≡ Some b)
    pub removable : d.can_remove view.payload index first ≡ true
