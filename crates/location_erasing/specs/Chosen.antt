-- Edits of what chosen operations and blocks carry.
use Rattle.std.specs.Prelude.{◌≡◌, option_map}
use Rattle.ir_program.specs.Edits.{KeepsErased, KeepsValues}
use Rattle.ir_program.specs.Program.{Program, OperationView, BlockView, operation_at, block_at, region_at}
use Rattle.ir_program.specs.declared.handles.BasicBlock.{BasicBlock}
use Rattle.ir_program.specs.declared.handles.IRNode.{IRNode}
use Rattle.ir_program.specs.declared.handles.IRNode.TheVariants.{Operation as OperationNode, BasicBlock as BlockNode}
use Rattle.ir_program.specs.declared.handles.Operation.{Operation}
use Rattle.ir_program.specs.declared.handles.Ptr.{Ptr}
use Rattle.ir_program.specs.declared.handles.Region.{Region}
use Rattle.ir_walks.specs.declared.turns.Cursor.{Cursor}
use Rattle.ir_walks.specs.declared.turns.Cursor.TheVariants.{Arriving, Leaving}

-- the operation or the block with what f makes of its payload: its values, its successors and what stands in it stay
abbrev pub repaid : {O : Type 0} → (O → O) → OperationView O → OperationView O
repaid f o = record o { payload = f o.payload }

abbrev pub block_repaid : {B : Type 0} → (B → B) → BlockView B → BlockView B
block_repaid g b = record b { payload = g b.payload }

-- each chosen operation has what f makes of its payload, each chosen block what g makes of its own, and nothing else changes: not the operations
-- and blocks that aren't chosen, no list of operands, successors, regions, blocks or operations, and no value
pub record EditsChosen {O B : Type 0} (old new : Program O B) (Chosen : IRNode → Type 0) (f : O → O) (g : B → B) : Type 0 where
  pub operations : (p : Ptr Operation) → Chosen (OperationNode p) → operation_at new p ≡ option_map (repaid f) (operation_at old p)
  pub blocks : (b : Ptr BasicBlock) → Chosen (BlockNode b) → block_at new b ≡ option_map (block_repaid g) (block_at old b)
  pub other_operations : (p : Ptr Operation) → (Chosen (OperationNode p) → ⊥) → operation_at new p ≡ operation_at old p
  pub other_blocks : (b : Ptr BasicBlock) → (Chosen (BlockNode b) → ⊥) → block_at new b ≡ block_at old b
  pub regions : (r : Ptr Region) → region_at new r ≡ region_at old r
  pub erased : KeepsErased old new
  pub values : KeepsValues old new

-- the node at which a walk arrives is chosen; where it leaves one, all stays
abbrev pub EditsOnArriving : {O B : Type 0} → (old new : Program O B) → Cursor → (O → O) → (B → B) → Type 0
EditsOnArriving old new (Arriving e) f g = EditsChosen old new (λ d. e ≡ d) f g
EditsOnArriving old new (Leaving e) f g = new ≡ old
