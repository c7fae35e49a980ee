-- What removing blocks makes of a program, step by step.
use Rattle.std.specs.Prelude.{◌≡◌, ◌⊎◌, ◌↔◌, ℕ, Bool, true, false, List, [], ◌∷◌, Some, cond, option_map, if◌then◌else◌, slice_get}
use Rattle.ir_program.specs.Drops.{without_uses}
use Rattle.ir_program.specs.Edits.{KeepsErased}
use Rattle.ir_program.specs.Erased.{definer_node, IsGone as IsErased}
use Rattle.ir_program.specs.Lists.{StandsInside, IsLiveNode}
use Rattle.ir_program.specs.Program.{Program, RegionView, operation_at, block_at, region_at}
use Rattle.ir_program.specs.Replacing.{same_block}
use Rattle.ir_program.specs.Rows.{operands_at, successors_at}
use Rattle.ir_program.specs.declared.handles.IRNode.{IRNode}
use Rattle.ir_program.specs.declared.handles.IRNode.TheVariants.{Operation as OperationNode, Region as RegionNode, BasicBlock as BlockNode}
use Rattle.ir_program.specs.declared.handles.Ptr.{Ptr}
use Rattle.ir_program.specs.declared.handles.Operation.{Operation}
use Rattle.ir_program.specs.declared.handles.Region.{Region}
use Rattle.ir_program.specs.declared.handles.BasicBlock.{BasicBlock}
use Rattle.ir_program.specs.declared.handles.Value.{Value}
use Rattle.ir_trees.specs.Searched.{Lists}

-- the block is one of the list
abbrev pub is_listed : List (Ptr BasicBlock) → Ptr BasicBlock → Bool
is_listed [] b = false
is_listed (x ∷ xs) b = cond (same_block b x) true (is_listed xs b)

-- the elements that aren't picked
abbrev pub without : {X : Type 0} → (X → Bool) → List X → List X
without picks [] = []
without picks (x ∷ xs) = if picks x then without picks xs else x ∷ without picks xs

module _ {O B : Type 0} where
  -- the entity is one of the blocks that are picked, or stands in one
  abbrev pub IsWithinPickedBlocks : Program O B → (Ptr BasicBlock → Bool) → IRNode → Type 0
  IsWithinPickedBlocks c picks e = (a : Ptr BasicBlock) × (picks a ≡ true) × StandsInside c (BlockNode a) e

  -- no block that is picked stands in another
  abbrev pub ArePickedApart : Program O B → (Ptr BasicBlock → Bool) → Type 0
  ArePickedApart c picks = (a b : Ptr BasicBlock) → picks a ≡ true → picks b ≡ true → StandsInside c (BlockNode a) (BlockNode b) → a ≡ b

  -- each entity is inside the block or isn't
  abbrev pub DecidesInsideBlock : Program O B → Ptr BasicBlock → Type 0
  DecidesInsideBlock c b = (e : IRNode) → StandsInside c (BlockNode b) e ⊎ (StandsInside c (BlockNode b) e → ⊥)

  -- each entity is inside the operation or isn't
  abbrev pub DecidesWithin : Program O B → Ptr Operation → Type 0
  DecidesWithin c op = (e : IRNode) → StandsInside c (OperationNode op) e ⊎ (StandsInside c (OperationNode op) e → ⊥)

  -- the operations in the blocks that are picked have no operands and no successors, and all else is as it was
  pub record DropsPickedBlocks (old new : Program O B) (picks : Ptr BasicBlock → Bool) : Type 0 where
    pub within : (p : Ptr Operation) → IsWithinPickedBlocks old picks (OperationNode p) → operation_at new p ≡ option_map without_uses (operation_at old p)
    pub outside : (p : Ptr Operation) → (IsWithinPickedBlocks old picks (OperationNode p) → ⊥) → operation_at new p ≡ operation_at old p
    pub either : (p : Ptr Operation) → (operation_at new p ≡ operation_at old p) ⊎ (operation_at new p ≡ option_map without_uses (operation_at old p))
    pub blocks : (b : Ptr BasicBlock) → block_at new b ≡ block_at old b
    pub regions : (r : Ptr Region) → region_at new r ≡ region_at old r
    pub erased : KeepsErased old new

  -- the blocks that are picked are erased with all that is in them, and each other operation, block and region is as it was, without them
  pub record ErasesPickedBlocks (old new : Program O B) (picks : Ptr BasicBlock → Bool) : Type 0 where
    pub there : (b : Ptr BasicBlock) → picks b ≡ true → IsLiveNode old (BlockNode b)
    pub operations : (p : Ptr Operation) → (IsWithinPickedBlocks old picks (OperationNode p) → ⊥) → operation_at new p ≡ operation_at old p
    pub blocks : (b : Ptr BasicBlock) → (IsWithinPickedBlocks old picks (BlockNode b) → ⊥) → block_at new b ≡ block_at old b
    pub regions : (r : Ptr Region) → (IsWithinPickedBlocks old picks (RegionNode r) → ⊥) → region_at new r ≡ option_map (λ (v : RegionView). record v { blocks = without picks v.blocks }) (region_at old r)
    pub gone : (e : IRNode) → IsLiveNode old e → IsWithinPickedBlocks old picks e → IsErased new e
    pub decided : (e : IRNode) → IsLiveNode old e → IsLiveNode new e ⊎ IsErased new e
    pub erased : KeepsErased old new

  -- no operation takes a value that is defined in what is picked, or may go on to a block there
  pub record NamesNoneOfBlocks (c : Program O B) (picks : Ptr BasicBlock → Bool) : Type 0 where
    pub values : (p : Ptr Operation) (k : ℕ) (v : Value) → slice_get (operands_at c p) k ≡ Some v → IsWithinPickedBlocks c picks (definer_node v.definer) → ⊥
    pub blocks : (p : Ptr Operation) (k : ℕ) (b : Ptr BasicBlock) → slice_get (successors_at c p) k ≡ Some b → IsWithinPickedBlocks c picks (BlockNode b) → ⊥

  -- values that are defined in what is picked are taken there alone
  abbrev pub TakesWithin : Program O B → (Ptr BasicBlock → Bool) → Type 0
  TakesWithin c picks = (p : Ptr Operation) (k : ℕ) (v : Value) → slice_get (operands_at c p) k ≡ Some v → IsWithinPickedBlocks c picks (definer_node v.definer) → IsWithinPickedBlocks c picks (OperationNode p)

  -- what is picked is named in what is picked alone
  pub record NamesWithin (c : Program O B) (picks : Ptr BasicBlock → Bool) : Type 0 where
    pub values : (p : Ptr Operation) (k : ℕ) (v : Value) → slice_get (operands_at c p) k ≡ Some v → IsWithinPickedBlocks c picks (definer_node v.definer) → IsWithinPickedBlocks c picks (OperationNode p)
    pub blocks : (p : Ptr Operation) (k : ℕ) (b : Ptr BasicBlock) → slice_get (successors_at c p) k ≡ Some b → IsWithinPickedBlocks c picks (BlockNode b) → IsWithinPickedBlocks c picks (OperationNode p)

  -- an operation outside these blocks takes a value that is defined in them
  pub record IsTakenOutsideBlocks (c : Program O B) (picks : Ptr BasicBlock → Bool) : Type 0 where
    pub user : Ptr Operation
    pub value : Value
    pub takes : Lists (operands_at c user) value
    pub defined : IsWithinPickedBlocks c picks (definer_node value.definer)
    pub outside : IsWithinPickedBlocks c picks (OperationNode user) → ⊥

-- the new list has what the old one has, and those of which it holds
abbrev pub GainsMembers : {X : Type 0} → List X → List X → (X → Type 0) → Type 0
GainsMembers {X} old new P = (x : X) → Lists new x ↔ (Lists old x ⊎ P x)

-- an operation that isn't one of these entities takes the value
abbrev pub IsTakenBy : {O B : Type 0} → Program O B → List IRNode → Value → Type 0
IsTakenBy c nodes v = (p : Ptr Operation) × Lists (operands_at c p) v × (Lists nodes (OperationNode p) → ⊥)

-- an operation that isn't one of these entities takes one of the values that one of these defines
abbrev pub TakesListed : {O B : Type 0} → Program O B → List IRNode → List Value → Type 0
TakesListed c nodes values = (v : Value) × Lists values v × Lists nodes (definer_node v.definer) × IsTakenBy c nodes v
