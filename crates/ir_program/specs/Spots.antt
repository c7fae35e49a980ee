-- Which use stands at a place. No public clause cites this module but through `Order`, for the order in which uses are listed.
use Rattle.std.specs.Prelude.{◌≡◌, ℕ, true, List, Option, Some, None}
use Rattle.ir_arena.specs.declared.arena.Slot.{Slot}
use Rattle.ir_entities.specs.Forest.{pointer_to}
use Rattle.ir_entities.specs.Links.{has}
use Rattle.ir_entities.specs.Uses.{Uses, PlaceOfUse, place_of, IsPlace}
use Rattle.ir_program.specs.Handles.{handle}
use Rattle.ir_program.specs.Program.{Program, value_named, block_named}
use Rattle.ir_program.specs.declared.handles.Ptr.{Ptr}
use Rattle.ir_program.specs.declared.handles.BasicBlock.{BasicBlock}
use Rattle.ir_program.specs.declared.handles.Value.{Value}
use Rattle.ir_program.specs.declared.handles.Use.{Use}

-- the user of a place, and its index there; 0 where the place is not in use
abbrev pub user_at : Option PlaceOfUse → ℕ
user_at None = 0
user_at (Some x) = x.user

abbrev pub index_at : Option PlaceOfUse → ℕ
index_at None = 0
index_at (Some x) = x.index

-- the use at a place, of what it names
abbrev pub use_at : {T K : Type 0} → (ℕ → K) → List (Slot T) → Uses K → ℕ → Use K
use_at named slots u q = record { user_op = handle (pointer_to slots (user_at (place_of u q))); index = index_at (place_of u q); def = named q }

module _ {O B : Type 0} where
  abbrev pub operand_use : Program O B → ℕ → Use Value
  operand_use c q = use_at (value_named c.values) c.forest.ops c.values q

  abbrev pub successor_use : Program O B → ℕ → Use (Ptr BasicBlock)
  successor_use c q = use_at (block_named c.targets) c.forest.ops c.targets q

-- each of these places is in use
abbrev pub ArePlaces : {K : Type 0} → Uses K → List ℕ → Type 0
ArePlaces u qs = (q : ℕ) → has q qs ≡ true → IsPlace u q
