-- What putting into the lists of blocks and regions, and taking out of them, makes.
use Rattle.std.specs.Prelude.{◌≡◌, ℕ, ◌+◌, [], ◌∷◌, ◌++◌, Some, insert, remove, slice_get}
use Rattle.ir_program.specs.Program.{Program}
use Rattle.ir_program.specs.Lists.{operations_in, blocks_in}
use Rattle.ir_program.specs.Edits.{EditsBlock, EditsRegion}
use Rattle.ir_program.specs.declared.handles.Ptr.{Ptr}
use Rattle.ir_program.specs.declared.handles.Operation.{Operation}
use Rattle.ir_program.specs.declared.handles.BasicBlock.{BasicBlock}
use Rattle.ir_program.specs.declared.handles.Region.{Region}

module _ {O B : Type 0} where
  -- the operation op is the first of the block, before all that it has
  abbrev pub PutsOperationFirst : Program O B → Program O B → Ptr BasicBlock → Ptr Operation → Type 0
  PutsOperationFirst old new block op = EditsBlock old new block (λ v. record v { operations = op ∷ v.operations })

  -- the operation op is the last of the block, behind all that it has
  abbrev pub PutsOperationLast : Program O B → Program O B → Ptr BasicBlock → Ptr Operation → Type 0
  PutsOperationLast old new block op = EditsBlock old new block (λ v. record v { operations = v.operations ++ op ∷ [] })

  -- the operation op is right after the operation mark, in the block that mark is in
  abbrev pub PutsOperationAfter : Program O B → Program O B → Ptr Operation → Ptr Operation → Type 0
  PutsOperationAfter old new mark op = (block : Ptr BasicBlock) (k : ℕ) → slice_get (operations_in old block) k ≡ Some mark → EditsBlock old new block (λ v. record v { operations = insert v.operations (k + 1) op })

  -- the operation op is right before the operation mark, in the block that mark is in
  abbrev pub PutsOperationBefore : Program O B → Program O B → Ptr Operation → Ptr Operation → Type 0
  PutsOperationBefore old new mark op = (block : Ptr BasicBlock) (k : ℕ) → slice_get (operations_in old block) k ≡ Some mark → EditsBlock old new block (λ v. record v { operations = insert v.operations k op })

  -- the operation op is out of the block that it was in
  abbrev pub TakesOutOperation : Program O B → Program O B → Ptr Operation → Type 0
  TakesOutOperation old new op = (block : Ptr BasicBlock) (k : ℕ) → slice_get (operations_in old block) k ≡ Some op → EditsBlock old new block (λ v. record v { operations = remove v.operations k })

  -- the block is the first of the region, before all that it has
  abbrev pub PutsBlockFirst : Program O B → Program O B → Ptr Region → Ptr BasicBlock → Type 0
  PutsBlockFirst old new region block = EditsRegion old new region (λ v. record v { blocks = block ∷ v.blocks })

  -- the block is the last of the region, behind all that it has
  abbrev pub PutsBlockLast : Program O B → Program O B → Ptr Region → Ptr BasicBlock → Type 0
  PutsBlockLast old new region block = EditsRegion old new region (λ v. record v { blocks = v.blocks ++ block ∷ [] })

  -- the block is right after the block mark, in the region that mark is in
  abbrev pub PutsBlockAfter : Program O B → Program O B → Ptr BasicBlock → Ptr BasicBlock → Type 0
  PutsBlockAfter old new mark block = (region : Ptr Region) (k : ℕ) → slice_get (blocks_in old region) k ≡ Some mark → EditsRegion old new region (λ v. record v { blocks = insert v.blocks (k + 1) block })

  -- the block is right before the block mark, in the region that mark is in
  abbrev pub PutsBlockBefore : Program O B → Program O B → Ptr BasicBlock → Ptr BasicBlock → Type 0
  PutsBlockBefore old new mark block = (region : Ptr Region) (k : ℕ) → slice_get (blocks_in old region) k ≡ Some mark → EditsRegion old new region (λ v. record v { blocks = insert v.blocks k block })

  -- the block is out of the region that it was in
  abbrev pub TakesOutBlock : Program O B → Program O B → Ptr BasicBlock → Type 0
  TakesOutBlock old new block = (region : Ptr Region) (k : ℕ) → slice_get (blocks_in old region) k ≡ Some block → EditsRegion old new region (λ v. record v { blocks = remove v.blocks k })
