-- What holds of every program.
use Rattle.std.specs.Prelude.{◌≡◌, ℕ, Some, slice_get}
use Rattle.ir_base.specs.declared.types.TypeHandle.{TypeHandle}
use Rattle.ir_program.specs.Definers.{StandsAtDefiner, values_at}
use Rattle.ir_program.specs.Lists.{operations_in, blocks_in, regions_in}
use Rattle.ir_program.specs.Lists.{StandsInBlock, StandsInRegion, StandsInOperation, StandsInside, StandOnce}
use Rattle.ir_program.specs.Program.{Program, IsLiveValue, type_at, value_in}
use Rattle.ir_program.specs.Rows.{operands_at}
use Rattle.ir_program.specs.declared.handles.BasicBlock.{BasicBlock}
use Rattle.ir_program.specs.declared.handles.DefiningEntity.{DefiningEntity}
use Rattle.ir_program.specs.declared.handles.IRNode.TheVariants.{Operation as OperationNode, BasicBlock as BlockNode}
use Rattle.ir_program.specs.declared.handles.IRNode.TheVariants.{Region as RegionNode}
use Rattle.ir_program.specs.declared.handles.Operation.{Operation}
use Rattle.ir_program.specs.declared.handles.Ptr.{Ptr}
use Rattle.ir_program.specs.declared.handles.Region.{Region}
use Rattle.ir_program.specs.declared.handles.Value.{Value}

-- each operation, block and region is in one list at most, and once; what is in a list is live, as is its parent, and no
-- operation and no block is an ancestor of its own parent; live values are the results and arguments of their definers,
-- and operands are live values
pub record IsSound {O B : Type 0} (c : Program O B) : Type 0 where
  pub operations_once : StandOnce (operations_in c)
  pub blocks_once : StandOnce (blocks_in c)
  pub regions_once : StandOnce (regions_in c)
  pub operations : (b : Ptr BasicBlock) (k : ℕ) (p : Ptr Operation) → slice_get (operations_in c b) k ≡ Some p
      → StandsInBlock c p b
  pub blocks : (r : Ptr Region) (k : ℕ) (b : Ptr BasicBlock) → slice_get (blocks_in c r) k ≡ Some b → StandsInRegion c b r
  pub regions : (p : Ptr Operation) (k : ℕ) (r : Ptr Region) → slice_get (regions_in c p) k ≡ Some r
      → StandsInOperation c r p
  pub operation_apart : (p : Ptr Operation) (b : Ptr BasicBlock) → StandsInBlock c p b
      → StandsInside c (OperationNode p) (BlockNode b) → ⊥
  pub block_apart : (b : Ptr BasicBlock) (r : Ptr Region) → StandsInRegion c b r
      → StandsInside c (BlockNode b) (RegionNode r) → ⊥
  pub definer : (e : DefiningEntity) (k : ℕ) (v : Value) → value_in (values_at c e) k ≡ Some v → v.definer ≡ e
  pub stands : (v : Value) (ty : TypeHandle) → type_at c v ≡ Some ty → StandsAtDefiner c v ty
  pub operands : (p : Ptr Operation) (k : ℕ) (v : Value) → slice_get (operands_at c p) k ≡ Some v → IsLiveValue c v
