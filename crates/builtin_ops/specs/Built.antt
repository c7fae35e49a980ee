-- What making an operation together with a block in it adds.
use Rattle.std.specs.Prelude.{◌≡◌, ◌≢◌, ◌+◌, List, [], ◌∷◌, Some, None, length}
use Rattle.ir_arena.specs.Arena.{IsSpent}
use Rattle.ir_base.specs.declared.types.TypeHandle.{TypeHandle}
use Rattle.ir_program.specs.Program.{Program, operation_at, block_at, region_at, type_at}
use Rattle.ir_program.specs.Lists.{IsUnlinkedOperation}
use Rattle.ir_program.specs.Adds.{numbered_values}
use Rattle.ir_program.specs.Edits.{KeepsErased}
use Rattle.ir_program.specs.declared.handles.Ptr.{Ptr}
use Rattle.ir_program.specs.declared.handles.Operation.{Operation}
use Rattle.ir_program.specs.declared.handles.Region.{Region}
use Rattle.ir_program.specs.declared.handles.BasicBlock.{BasicBlock}
use Rattle.ir_program.specs.declared.handles.Value.{Value}
use Rattle.ir_program.specs.declared.handles.DefiningEntity.TheVariants.{Op as ByOp, Block as ByBlock}

module _ {O B : Type 0} where
  -- the operation, its region and its block lead nowhere yet, and their handles were never given out
  pub record AreUnspent (c : Program O B) (p : Ptr Operation) (r : Ptr Region) (b : Ptr BasicBlock) : Type 0 where
    pub operation : operation_at c p ≡ None
    pub region : region_at c r ≡ None
    pub block : block_at c b ≡ None
    pub operation_key : IsSpent c.forest.ops p.key → ⊥
    pub region_key : IsSpent c.forest.regions r.key → ⊥
    pub block_key : IsSpent c.forest.blocks b.key → ⊥

  -- p, a handle that was never given out, leads to an operation that stands in no block, with this payload, no results, operands and
  -- successors, and one region; that has one block, with this payload, arguments of these types that are numbered from the counter on,
  -- and no operation. Region and block are new too, and all else is as it was
  pub record BuildsWithBlock (old new : Program O B) (p : Ptr Operation) (payload : O) (block_payload : B) (tys : List TypeHandle) : Type 0 where
    pub region : Ptr Region
    pub block : Ptr BasicBlock
    pub fresh : AreUnspent old p region block
    pub made : operation_at new p ≡ Some (record { payload = payload; results = []; operands = []; successors = []; regions = region ∷ [] })
    pub region_made : region_at new region ≡ Some (record { blocks = block ∷ [] })
    pub block_made : block_at new block ≡ Some (record { payload = block_payload; arguments = numbered_values (ByBlock block) old.counter tys; operations = [] })
    pub unlinked : IsUnlinkedOperation new p
    pub operations : (q : Ptr Operation) → q ≢ p → operation_at new q ≡ operation_at old q
    pub regions : (q : Ptr Region) → q ≢ region → region_at new q ≡ region_at old q
    pub blocks : (q : Ptr BasicBlock) → q ≢ block → block_at new q ≡ block_at old q
    pub types : (v : Value) → v.definer ≢ ByBlock block → type_at new v ≡ type_at old v
    pub erased : KeepsErased old new
    pub counter : new.counter ≡ old.counter + length tys
