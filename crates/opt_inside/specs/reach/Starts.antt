-- Where looking begins, in a program.
use Rattle.std.specs.Prelude.{◌≡◌, ℕ, [], ◌∷◌, Some, slice_get}
use Rattle.ir_program.specs.Lists.{StandsInBlock, operations_in}
use Rattle.ir_program.specs.Program.{Program, OperationView, operation_at}
use Rattle.ir_program.specs.declared.handles.Ptr.{Ptr}
use Rattle.ir_program.specs.declared.handles.Operation.{Operation as AnOperation}
use Rattle.ir_program.specs.declared.handles.Region.{Region as ARegion}
use Rattle.ir_trees.specs.Stands.{by_handle}
use Rattle.opt_trees.specs.Simplify.{StartingRegions, OfOperations, OfRegion}
use Rattle.opt_inside.specs.declared.reach.starts.Start.{Start}
use Rattle.opt_inside.specs.declared.reach.starts.Start.TheVariants.{Operation, Block, Region}

-- the regions that are visited first: those of the operation, those of the block's operations, or the region itself
abbrev pub IsStartIn : {O B : Type 0} → Program O B → Start → StartingRegions by_handle → Type 0
IsStartIn c (Operation op) p = p ≡ OfOperations (op ∷ [])
IsStartIn c (Block b) p = p ≡ OfOperations (operations_in c b)
IsStartIn {O} c (Region r) p = (q : Ptr AnOperation) × (i : ℕ) × (v : OperationView O) × (operation_at c q ≡ Some v) × (slice_get v.regions i ≡ Some r) × (p ≡ OfRegion q i)

-- the operation's region is one of those
abbrev pub BeginsAtRegion : {O B : Type 0} → Program O B → Start → Ptr AnOperation → Ptr ARegion → Type 0
BeginsAtRegion c (Operation op) q r = q ≡ op
BeginsAtRegion c (Block b) q r = StandsInBlock c q b
BeginsAtRegion c (Region first) q r = r ≡ first
