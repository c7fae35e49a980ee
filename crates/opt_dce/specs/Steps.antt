-- What the steps of dead code elimination make of operations, blocks and regions, one by one.
use Rattle.std.specs.Prelude.{◌≡◌, ◌≢◌, ◌⊎◌, ℕ, Bool, true, List, [], ◌∷◌, map, Some, None, option_map, if◌then◌else◌, slice_get}
use Rattle.ir_program.specs.Program.{Program, OperationView, BlockView, operation_at, block_at, region_at}
use Rattle.ir_program.specs.Drops.{without_uses}
use Rattle.ir_program.specs.Edits.{KeepsErased}
use Rattle.ir_program.specs.Erased.{definer_node, ErasesOperation, IsGone as IsErased}
use Rattle.ir_program.specs.Rows.{operands_at, successors_at}
use Rattle.ir_program.specs.Lists.{StandsInside, IsLiveNode}
use Rattle.ir_program.specs.declared.handles.IRNode.{IRNode}
use Rattle.ir_program.specs.declared.handles.IRNode.TheVariants.{Operation as OperationNode, Region as RegionNode, BasicBlock as BlockNode}
use Rattle.ir_program.specs.declared.handles.Ptr.{Ptr}
use Rattle.ir_program.specs.declared.handles.Operation.{Operation}
use Rattle.ir_program.specs.declared.handles.Region.{Region}
use Rattle.ir_program.specs.declared.handles.BasicBlock.{BasicBlock}
use Rattle.ir_program.specs.declared.handles.Value.{Value}
use Rattle.ir_trees.specs.Searched.{Lists}
use Rattle.ir_trees.specs.Stands.{by_handle, in_program, defined_by}
use Rattle.opt_trees.specs.Dialect.{Dialect, drop}
use Rattle.opt_trees.specs.Dce.{Gone, Whole, Slot, gone_at}
use Rattle.opt_inside.specs.Occurring.{IsBelowRoot}
use Rattle.opt_dialect.specs.Masks.{marked}
use Rattle.opt_dce.specs.liveness.Plans.{GoesWith}
use Rattle.opt_dce.specs.declared.liveness.plan.LostOperands.{LostOperands}
use Rattle.opt_dce.specs.declared.liveness.plan.DeadArguments.{DeadArguments}

-- the elements that aren't picked
abbrev pub without : {X : Type 0} → (X → Bool) → List X → List X
without picks [] = []
without picks (x ∷ xs) = if picks x then without picks xs else x ∷ without picks xs

-- the block without the operations that are picked
abbrev pub without_operations : {B : Type 0} → (Ptr Operation → Bool) → BlockView B → BlockView B
without_operations picks v = record v { operations = without picks v.operations }

-- what goes is below the root: operations that go or lose operands, and the blocks of arguments that go
pub record GoesBelowRoot {O B : Type 0} (c : Program O B) (op : Ptr Operation) (g : Gone by_handle) : Type 0 where
  pub operations : (a : Ptr Operation) → g.item (Whole a) ≡ true → IsBelowRoot c op a
  pub arguments : (v : Value) → g.item (Slot v) ≡ true → StandsInside c (OperationNode op) (definer_node v.definer)
  pub operands : (p : Ptr Operation) (i : ℕ) → g.operand p i ≡ true → IsBelowRoot c op p

module _ {O B A : Type 0} (d : Dialect (in_program O B) A) where
  -- the operation without the operands at the indices that are picked
  abbrev pub loses : (ℕ → Bool) → OperationView O → OperationView O
  loses picks v = record v { payload = d.drop_operands v.payload picks; operands = drop picks v.operands }

  -- the block without the arguments at the indices that are picked
  abbrev pub loses_arguments : (ℕ → Bool) → BlockView B → BlockView B
  loses_arguments picks v = record v { payload = d.drop_names v.payload picks; arguments = drop picks v.arguments }

module _ {O B A : Type 0} (d : Dialect (in_program O B) A) (g : Gone by_handle) where
  -- which of a block's arguments go
  abbrev pub arguments_gone : BlockView B → ℕ → Bool
  arguments_gone v i = gone_at g (slice_get (map defined_by v.arguments) i)

  -- the block without the arguments and the operations that go
  abbrev pub thin_block : BlockView B → BlockView B
  thin_block v = record {
    payload = d.drop_names v.payload (arguments_gone v);
    arguments = drop (arguments_gone v) v.arguments;
    operations = without (λ p. g.item (Whole p)) v.operations;
  }

  -- what goes is erased with all that is in it, and each other operation, block and region is as it was, without what
  -- goes of it
  pub record HasThinned (old new : Program O B) : Type 0 where
    pub operations : (p : Ptr Operation) → (GoesWith old g (OperationNode p) → ⊥) →
        operation_at new p ≡ option_map (loses d (g.operand p)) (operation_at old p)
    pub blocks : (b : Ptr BasicBlock) → (GoesWith old g (BlockNode b) → ⊥) →
        block_at new b ≡ option_map thin_block (block_at old b)
    pub regions : (r : Ptr Region) → (GoesWith old g (RegionNode r) → ⊥) → region_at new r ≡ region_at old r
    pub gone : (e : IRNode) → IsLiveNode old e → GoesWith old g e → IsErased new e
    pub decided : (e : IRNode) → IsLiveNode old e → IsLiveNode new e ⊎ IsErased new e
    pub erased : KeepsErased old new

module _ {O B : Type 0} where
  -- the entity is one of the operations that are picked, or stands in one
  abbrev pub IsWithinPicked : Program O B → (Ptr Operation → Bool) → IRNode → Type 0
  IsWithinPicked c picks e = (a : Ptr Operation) × (picks a ≡ true) × StandsInside c (OperationNode a) e

  -- the operations that are picked are erased with all that is in them, and each other operation, block and region is
  -- as it was, without them
  pub record ErasesPicked (old new : Program O B) (picks : Ptr Operation → Bool) : Type 0 where
    pub there : (p : Ptr Operation) → picks p ≡ true → IsLiveNode old (OperationNode p)
    pub operations : (p : Ptr Operation) → (IsWithinPicked old picks (OperationNode p) → ⊥) →
        operation_at new p ≡ operation_at old p
    pub blocks : (b : Ptr BasicBlock) → (IsWithinPicked old picks (BlockNode b) → ⊥) →
        block_at new b ≡ option_map (without_operations picks) (block_at old b)
    pub regions : (r : Ptr Region) → (IsWithinPicked old picks (RegionNode r) → ⊥) → region_at new r ≡ region_at old r
    pub gone : (e : IRNode) → IsLiveNode old e → IsWithinPicked old picks e → IsErased new e
    pub decided : (e : IRNode) → IsLiveNode old e → IsLiveNode new e ⊎ IsErased new e
    pub erased : KeepsErased old new

  -- each entity is inside the operation or isn't
  abbrev pub DecidesInside : Program O B → Ptr Operation → Type 0
  DecidesInside c op = (e : IRNode) → StandsInside c (OperationNode op) e ⊎ (StandsInside c (OperationNode op) e → ⊥)

  -- the operation is erased where it is there, and nothing changes where it isn't
  pub record ErasesIfThere (old new : Program O B) (op : Ptr Operation) : Type 0 where
    pub erases : IsLiveNode old (OperationNode op) → ErasesOperation old new op
    pub decides : IsLiveNode old (OperationNode op) → DecidesInside old op
    pub passes : operation_at old op ≡ None → new ≡ old

  -- the operations that are picked stand in no block, and all else is as it was
  pub record DetachesPicked (old new : Program O B) (picks : Ptr Operation → Bool) : Type 0 where
    pub operations : (p : Ptr Operation) → operation_at new p ≡ operation_at old p
    pub blocks : (b : Ptr BasicBlock) → block_at new b ≡ option_map (without_operations picks) (block_at old b)
    pub regions : (r : Ptr Region) → region_at new r ≡ region_at old r
    pub erased : KeepsErased old new

  -- no operation takes a value that is defined in what is picked, or may go on to a block there
  pub record NamesNone (c : Program O B) (picks : Ptr Operation → Bool) : Type 0 where
    pub values : (p : Ptr Operation) (k : ℕ) (v : Value) → slice_get (operands_at c p) k ≡ Some v →
        IsWithinPicked c picks (definer_node v.definer) → ⊥
    pub blocks : (p : Ptr Operation) (k : ℕ) (b : Ptr BasicBlock) → slice_get (successors_at c p) k ≡ Some b →
        IsWithinPicked c picks (BlockNode b) → ⊥

  -- the operations that are picked, and those in them, have no operands and no successors, and all else is as it was
  pub record DropsPicked (old new : Program O B) (picks : Ptr Operation → Bool) : Type 0 where
    pub within : (p : Ptr Operation) → IsWithinPicked old picks (OperationNode p) →
        operation_at new p ≡ option_map without_uses (operation_at old p)
    pub outside : (p : Ptr Operation) → (IsWithinPicked old picks (OperationNode p) → ⊥) →
        operation_at new p ≡ operation_at old p
    pub either : (p : Ptr Operation) →
        (operation_at new p ≡ operation_at old p) ⊎ (operation_at new p ≡ option_map without_uses (operation_at old p))
    pub blocks : (b : Ptr BasicBlock) → block_at new b ≡ block_at old b
    pub regions : (r : Ptr Region) → region_at new r ≡ region_at old r
    pub erased : KeepsErased old new

module _ {O B A : Type 0} (d : Dialect (in_program O B) A) where
  -- each operation of the list is without its marked operands, and all else is as it was
  pub record LosesListed (old new : Program O B) (lost : List LostOperands) : Type 0 where
    pub listed : (l : LostOperands) → Lists lost l →
        operation_at new l.op ≡ option_map (loses d (marked l.marks.items)) (operation_at old l.op)
    pub others : (p : Ptr Operation) → ((l : LostOperands) → Lists lost l → l.op ≢ p) →
        operation_at new p ≡ operation_at old p
    pub blocks : (b : Ptr BasicBlock) → block_at new b ≡ block_at old b
    pub regions : (r : Ptr Region) → region_at new r ≡ region_at old r
    pub erased : KeepsErased old new

  -- each block of the list is without its marked arguments, where it is there, and all else is as it was
  pub record LosesArguments (old new : Program O B) (dead : List DeadArguments) : Type 0 where
    pub listed : (a : DeadArguments) → Lists dead a →
        block_at new a.block ≡ option_map (loses_arguments d (marked a.marks.items)) (block_at old a.block)
    pub others : (b : Ptr BasicBlock) → ((a : DeadArguments) → Lists dead a → a.block ≢ b) →
        block_at new b ≡ block_at old b
    pub operations : (p : Ptr Operation) → operation_at new p ≡ operation_at old p
    pub regions : (r : Ptr Region) → region_at new r ≡ region_at old r
    pub erased : KeepsErased old new
