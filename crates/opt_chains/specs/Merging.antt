-- What joining blocks makes of a program, step by step.
use Rattle.std.specs.Prelude.{◌≡◌, ◌≢◌, ℕ, Bool, true, false, cond, if◌then◌else◌, List, [], ◌∷◌, ◌++◌, Some, None, IsSome, option_map, slice_get, take}
use Rattle.ir_program.specs.Program.{Program, OperationView, BlockView, RegionView, operation_at, block_at, region_at}
use Rattle.ir_program.specs.Edits.{KeepsErased}
use Rattle.ir_program.specs.Erased.{IsGone}
use Rattle.ir_program.specs.Lists.{operations_in, StandsInRegion}
use Rattle.ir_program.specs.declared.handles.IRNode.TheVariants.{Operation as OperationNode, BasicBlock as BlockNode}
use Rattle.ir_program.specs.Replacing.{same_block}
use Rattle.ir_program.specs.Rows.{operands_at, successors_at}
use Rattle.ir_program.specs.declared.handles.Ptr.{Ptr}
use Rattle.ir_program.specs.declared.handles.Operation.{Operation}
use Rattle.ir_program.specs.declared.handles.Region.{Region}
use Rattle.ir_program.specs.declared.handles.BasicBlock.{BasicBlock}
use Rattle.ir_program.specs.declared.handles.Value.{Value}
use Rattle.ir_program.specs.declared.handles.DefiningEntity.TheVariants.{Block as ByBlock}
use Rattle.opt_chains.specs.declared.merging.Join.{Join}

-- a list but for its last
abbrev pub front : {X : Type 0} → List X → List X
front [] = []
front (x ∷ []) = []
front (x ∷ (y ∷ ys)) = x ∷ front (y ∷ ys)

-- the elements that aren't picked
abbrev pub without : {X : Type 0} → (X → Bool) → List X → List X
without picks [] = []
without picks (x ∷ xs) = if picks x then without picks xs else x ∷ without picks xs

-- the blocks that are joined behind a block, in order
abbrev pub held : List Join → Ptr BasicBlock → List (Ptr BasicBlock)
held [] b = []
held (j ∷ js) b = if same_block j.first b then j.block ∷ held js b else held js b

-- the block is joined behind another
abbrev pub is_taken : List Join → Ptr BasicBlock → Bool
is_taken [] b = false
is_taken (j ∷ js) b = cond (same_block b j.block) true (is_taken js b)

-- the last of a chain that begins with b
abbrev pub last_of : Ptr BasicBlock → List (Ptr BasicBlock) → Ptr BasicBlock
last_of b [] = b
last_of b (c ∷ cs) = last_of c cs

module _ {O B : Type 0} (c : Program O B) where
  -- the operations of a chain whose first block has ops: of each block all but its branch to the next, and those of the last
  abbrev pub along : List (Ptr Operation) → List (Ptr BasicBlock) → List (Ptr Operation)
  along ops [] = ops
  along ops (b ∷ bs) = front ops ++ along (operations_in c b) bs

  -- both blocks are in one region
  abbrev pub AreTogether : Ptr BasicBlock → Ptr BasicBlock → Type 0
  AreTogether a b = (r : Ptr Region) × StandsInRegion c a r × StandsInRegion c b r

  -- the block z ends in a branch without results and regions, the only one to the block b
  pub record IsJoint (z : Ptr BasicBlock) (branch : Ptr Operation) (b : Ptr BasicBlock) : Type 0 where
    pub ends : operations_in c z ≡ front (operations_in c z) ++ branch ∷ []
    pub view : OperationView O
    pub there : operation_at c branch ≡ Some view
    pub results : view.results ≡ []
    pub regions : view.regions ≡ []
    pub single : (q : Ptr Operation) (k : ℕ) → slice_get (successors_at c q) k ≡ Some b → q ≡ branch

  -- nothing takes an argument of the block
  abbrev pub TakesNoArgument : Ptr BasicBlock → Type 0
  TakesNoArgument b = (q : Ptr Operation) (k : ℕ) (v : Value) → slice_get (operands_at c q) k ≡ Some v → v.definer ≡ ByBlock b → ⊥

  -- the block can be joined behind the first
  pub record IsReadyToJoin (j : Join) : Type 0 where
    pub first : IsSome (block_at c j.first)
    pub block : IsSome (block_at c j.block)
    pub other : j.first ≢ j.block
    pub together : AreTogether j.first j.block
    pub joint : IsJoint j.first j.branch j.block
    pub unused : TakesNoArgument j.block

  -- after these steps the block of the next one can be joined behind its first
  pub record IsNextJoin (done : List Join) (j : Join) : Type 0 where
    pub other : j.first ≢ j.block
    pub together : AreTogether j.first j.block
    pub joint : IsJoint (last_of j.first (held done j.first)) j.branch j.block
    pub kept : is_taken done j.first ≡ false
    pub fresh : is_taken done j.block ≡ false
    pub whole : held done j.block ≡ []
    pub branch_left : (i : Join) (k : ℕ) → slice_get done k ≡ Some i → i.branch ≢ j.branch

  -- the steps can be taken one after the other
  abbrev pub AreJoins : List Join → Type 0
  AreJoins js = (k : ℕ) (j : Join) → slice_get js k ≡ Some j → IsNextJoin (take k js) j

module _ {O B : Type 0} (old new : Program O B) where
  -- the operations of the block stand behind those of the first in place of its branch, the block and the branch are erased, and all else is as it was
  pub record JoinsBlocks (j : Join) : Type 0 where
    pub operations : (p : Ptr Operation) → p ≢ j.branch → operation_at new p ≡ operation_at old p
    pub branch : IsGone new (OperationNode j.branch)
    pub first : block_at new j.first ≡ option_map (λ (v : BlockView B). record v { operations = front v.operations ++ operations_in old j.block }) (block_at old j.first)
    pub block : IsGone new (BlockNode j.block)
    pub blocks : (b : Ptr BasicBlock) → b ≢ j.first → b ≢ j.block → block_at new b ≡ block_at old b
    pub regions : (r : Ptr Region) → region_at new r ≡ option_map (λ (v : RegionView). record { blocks = without (λ b. same_block b j.block) v.blocks }) (region_at old r)
    pub erased : KeepsErased old new

  -- what these steps make of a program
  pub record HasJoined (js : List Join) : Type 0 where
    pub operations : (p : Ptr Operation) → ((k : ℕ) (j : Join) → slice_get js k ≡ Some j → j.branch ≢ p) → operation_at new p ≡ operation_at old p
    pub branches : (k : ℕ) (j : Join) → slice_get js k ≡ Some j → IsGone new (OperationNode j.branch)
    pub taken : (b : Ptr BasicBlock) → is_taken js b ≡ true → IsGone new (BlockNode b)
    pub blocks : (b : Ptr BasicBlock) → is_taken js b ≡ false → block_at new b ≡ option_map (λ (v : BlockView B). record v { operations = along old v.operations (held js b) }) (block_at old b)
    pub regions : (r : Ptr Region) → region_at new r ≡ option_map (λ (v : RegionView). record { blocks = without (is_taken js) v.blocks }) (region_at old r)
    pub erased : KeepsErased old new
