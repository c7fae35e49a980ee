-- Operations that name no value and no block any more.
use Rattle.std.specs.Prelude.{◌≡◌, ◌≢◌, ℕ, [], option_map, is_some, length}
use Rattle.ir_arena.specs.Arena.{held, slot_at}
use Rattle.ir_entities.specs.Forest.{shape_of, pointer_to}
use Rattle.ir_entities.specs.Shape.{IsInside}
use Rattle.ir_entities.specs.declared.forest.Place.{Place}
use Rattle.ir_entities.specs.declared.forest.Place.TheVariants.{Op}
use Rattle.ir_program.specs.Program.{Program, OperationView, operation_at, block_at, region_at, type_at, definitions_of}
use Rattle.ir_program.specs.Lists.{StandsInside}
use Rattle.ir_program.specs.Edits.{EditsOperation, KeepsErased}
use Rattle.ir_program.specs.Handles.{handle}
use Rattle.ir_program.specs.declared.handles.Ptr.{Ptr}
use Rattle.ir_program.specs.declared.handles.Operation.{Operation}
use Rattle.ir_program.specs.declared.handles.Region.{Region}
use Rattle.ir_program.specs.declared.handles.BasicBlock.{BasicBlock}
use Rattle.ir_program.specs.declared.handles.Value.{Value}
use Rattle.ir_program.specs.declared.handles.DefiningEntity.{DefiningEntity}
use Rattle.ir_program.specs.declared.handles.IRNode.{IRNode}
use Rattle.ir_program.specs.declared.handles.IRNode.TheVariants.{Operation as OperationNode}

-- the operation without operands and successors
abbrev pub without_uses : {O : Type 0} → OperationView O → OperationView O
without_uses o = record o { operands = []; successors = [] }

module _ {O B : Type 0} where
  -- nothing has changed but operands and successors: what stands where, what is defined, and how often a slot was used
  pub record KeepsFrame (old new : Program O B) : Type 0 where
    pub forest : new.forest ≡ record old.forest { ops = new.forest.ops }
    pub slots : length new.forest.ops ≡ length old.forest.ops
    pub used : (i : ℕ) → is_some (held new.forest.ops i) ≡ is_some (held old.forest.ops i)
    pub versions : (i : ℕ) → (slot_at new.forest.ops i).version ≡ (slot_at old.forest.ops i).version
    pub definitions : (e : DefiningEntity) → definitions_of new e ≡ definitions_of old e
    pub values : new.values.definitions ≡ old.values.definitions
    pub targets : new.targets.definitions ≡ old.targets.definitions
    pub blocks : (q : Ptr BasicBlock) → block_at new q ≡ block_at old q
    pub regions : (q : Ptr Region) → region_at new q ≡ region_at old q
    pub erased : KeepsErased old new
    pub counter : new.counter ≡ old.counter

  -- the operations inside x have no operands and no successors, and all else is as it was
  pub record DropsInside (old new : Program O B) (x : Place) : Type 0 where
    pub inside : (p : Ptr Operation) → IsInside (shape_of old.forest) x (Op p.key.slot) → operation_at new p ≡ option_map without_uses (operation_at old p)
    pub outside : (p : Ptr Operation) → (IsInside (shape_of old.forest) x (Op p.key.slot) → ⊥) → operation_at new p ≡ operation_at old p
    pub frame : KeepsFrame old new

  -- the operation in the slot of x has no operands and no successors, and all else is as it was; nothing changes where x is no operation
  pub record DropsAt (old new : Program O B) (x : Place) : Type 0 where
    pub cleared : (i : ℕ) → x ≡ Op i → EditsOperation old new (handle (pointer_to old.forest.ops i)) without_uses
    pub passed : ((i : ℕ) → x ≢ Op i) → new ≡ old
    pub frame : KeepsFrame old new

  -- the operations that stand inside x have no operands and no successors, and all else is as it was
  pub record DropsUses (old new : Program O B) (x : IRNode) : Type 0 where
    pub inside : (p : Ptr Operation) → StandsInside old x (OperationNode p) → operation_at new p ≡ option_map without_uses (operation_at old p)
    pub outside : (p : Ptr Operation) → (StandsInside old x (OperationNode p) → ⊥) → operation_at new p ≡ operation_at old p
    pub blocks : (b : Ptr BasicBlock) → block_at new b ≡ block_at old b
    pub regions : (r : Ptr Region) → region_at new r ≡ region_at old r
    pub types : (v : Value) → type_at new v ≡ type_at old v
    pub erased : KeepsErased old new
    pub counter : new.counter ≡ old.counter
