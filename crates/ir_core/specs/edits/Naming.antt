-- What a name in a list of edits stands for, where `made` has what each earlier edit made.
use Rattle.std.specs.Prelude.{◌≡◌, ℕ, List, Option, Some, None, slice_get, option_and_then, length}
use Rattle.ir_program.specs.Program.{Program, results_at, arguments_at, value_in}
use Rattle.ir_program.specs.Lists.{regions_in}
use Rattle.ir_program.specs.declared.handles.Ptr.{Ptr}
use Rattle.ir_program.specs.declared.handles.Operation.{Operation}
use Rattle.ir_program.specs.declared.handles.Region.{Region}
use Rattle.ir_program.specs.declared.handles.BasicBlock.{BasicBlock}
use Rattle.ir_program.specs.declared.handles.Value.{Value}
use Rattle.ir_core.specs.declared.edits.edit.Entity.{Entity}
use Rattle.ir_core.specs.declared.edits.edit.Entity.TheVariants as entity
use Rattle.ir_core.specs.declared.edits.edit.At.{At}
use Rattle.ir_core.specs.declared.edits.edit.At.TheVariants.{Handle, Made}
use Rattle.ir_core.specs.declared.edits.edit.RegionAt.{RegionAt}
use Rattle.ir_core.specs.declared.edits.edit.RegionAt.TheVariants as at_region
use Rattle.ir_core.specs.declared.edits.edit.ValueAt.{ValueAt}
use Rattle.ir_core.specs.declared.edits.edit.ValueAt.TheVariants as at_value
use Rattle.ir_core.specs.declared.edits.edit.PlaceAt.{PlaceAt}

-- what the edit with a number made
abbrev pub made_by : List (Option Entity) → ℕ → Option Entity
made_by made i = option_and_then (λ e. e) (slice_get made i)

-- the operation that an entity is, if it is one; and so on
abbrev pub as_operation : Entity → Option (Ptr Operation)
as_operation (entity.Operation p) = Some p
as_operation (entity.Region r) = None
as_operation (entity.Block b) = None
as_operation (entity.Value v) = None

abbrev pub as_region : Entity → Option (Ptr Region)
as_region (entity.Operation p) = None
as_region (entity.Region r) = Some r
as_region (entity.Block b) = None
as_region (entity.Value v) = None

abbrev pub as_block : Entity → Option (Ptr BasicBlock)
as_block (entity.Operation p) = None
as_block (entity.Region r) = None
as_block (entity.Block b) = Some b
as_block (entity.Value v) = None

abbrev pub as_value : Entity → Option Value
as_value (entity.Operation p) = None
as_value (entity.Region r) = None
as_value (entity.Block b) = None
as_value (entity.Value v) = Some v

-- the operation that is named
abbrev pub operation_named : List (Option Entity) → At (Ptr Operation) → Option (Ptr Operation)
operation_named made (Handle p) = Some p
operation_named made (Made i) = option_and_then as_operation (made_by made i)

-- the block that is named
abbrev pub block_named : List (Option Entity) → At (Ptr BasicBlock) → Option (Ptr BasicBlock)
block_named made (Handle b) = Some b
block_named made (Made i) = option_and_then as_block (made_by made i)

module _ {O B : Type 0} where
  -- the region that is named, in a program
  abbrev pub region_named : Program O B → List (Option Entity) → RegionAt → Option (Ptr Region)
  region_named c made (at_region.Handle r) = Some r
  region_named c made (at_region.Made i) = option_and_then as_region (made_by made i)
  region_named c made (at_region.RegionOf op i) = option_and_then (λ p. slice_get (regions_in c p) i) (operation_named made op)

  -- the value that is named, in a program
  abbrev pub value_named : Program O B → List (Option Entity) → ValueAt → Option Value
  value_named c made (at_value.Handle v) = Some v
  value_named c made (at_value.Made i) = option_and_then as_value (made_by made i)
  value_named c made (at_value.ResultOf op i) = option_and_then (λ p. value_in (results_at c p) i) (operation_named made op)
  value_named c made (at_value.ArgumentOf block i) = option_and_then (λ b. value_in (arguments_at c b) i) (block_named made block)

module _ {X Y : Type 0} (name : X → Option Y) where
  -- each name of the list stands for something of which P holds
  abbrev pub NameEach : (Y → Type 0) → List X → Type 0
  NameEach P xs = (k : ℕ) (x : X) → slice_get xs k ≡ Some x → (y : Y) × (name x ≡ Some y) × P y

  -- the names stand for these, in order
  pub record AreNamed (xs : List X) (ys : List Y) : Type 0 where
    pub count : length ys ≡ length xs
    pub each : (k : ℕ) (x : X) → slice_get xs k ≡ Some x → slice_get ys k ≡ name x

-- a place of the list is named, and it is this one
abbrev pub IsListed : List (Option Entity) → List PlaceAt → Ptr Operation → ℕ → Type 0
IsListed made places p i = (k : ℕ) × (at : PlaceAt) × (slice_get places k ≡ Some at) × (operation_named made at.user_op ≡ Some p) × (at.index ≡ i)
