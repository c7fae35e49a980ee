-- Whether those that use what stands inside an entity stand in it too, by slots.
use Rattle.std.specs.Prelude.{◌≡◌, ℕ, true, Some, IsSome}
use Rattle.ir_arena.specs.Arena.{held}
use Rattle.ir_entities.specs.Forest.{Forest, shape_of}
use Rattle.ir_entities.specs.Links.{has}
use Rattle.ir_entities.specs.Placed.{place_at}
use Rattle.ir_entities.specs.Shape.{Shape, IsInside}
use Rattle.ir_entities.specs.Uses.{Uses, place_of, PlaceOfUse as UsePlace}
use Rattle.ir_entities.specs.declared.forest.Place.{Place}
use Rattle.ir_entities.specs.declared.forest.Place.TheVariants.{Op}
use Rattle.ir_program.specs.Forgets.{value_threads_in, block_threads_in}
use Rattle.ir_program.specs.declared.handles.Ptr.{Ptr}
use Rattle.ir_program.specs.declared.handles.BasicBlock.{BasicBlock}
use Rattle.ir_program.specs.declared.handles.Value.{Value}
use Rattle.ir_program.specs.declared.records.OperationRecord.{OperationRecord}
use Rattle.ir_program.specs.declared.records.BlockRecord.{BlockRecord}
use Rattle.ir_program.specs.declared.records.RegionRecord.{RegionRecord}

-- each place that names definition t belongs to an operation inside x
abbrev pub AreUsersInside : {K : Type 0} → Shape → Place → Uses K → ℕ → Type 0
AreUsersInside s x u t = (p i k : ℕ) → place_of u p ≡ Some (place_at t i k) → IsInside s x (Op i)

module _ {O B : Type 0} where
  -- each place belongs to an operation that is there
  abbrev pub HaveUsers : {K : Type 0} → Forest (OperationRecord O) (BlockRecord B) RegionRecord → Uses K → Type 0
  HaveUsers f u = (p : ℕ) (at : UsePlace) → place_of u p ≡ Some at → IsSome (held f.ops at.user)

  -- the places that name a value or a block that stands at `at` belong to operations inside x
  pub record IsApartAt (f : Forest (OperationRecord O) (BlockRecord B) RegionRecord) (u : Uses Value) (w : Uses (Ptr BasicBlock)) (x at : Place) : Type 0 where
    pub values : (t : ℕ) → has t (value_threads_in f at) ≡ true → AreUsersInside (shape_of f) x u t
    pub blocks : (t : ℕ) → has t (block_threads_in f at) ≡ true → AreUsersInside (shape_of f) x w t
