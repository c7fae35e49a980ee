-- Values and blocks go with the entity that they stand in.
use Rattle.std.specs.Prelude.{◌≡◌, ℕ, Some, None}
use Rattle.ir_entities.specs.Forest.{Forest}
use Rattle.ir_entities.specs.Shape.{Shape, IsInside}
use Rattle.ir_entities.specs.Uses.{Uses, key_of, NamesDefinition}
use Rattle.ir_entities.specs.declared.forest.Place.{Place}
use Rattle.ir_entities.specs.declared.forest.Place.TheVariants.{Op, Block}
use Rattle.ir_program.specs.Sound.{IsProgram}
use Rattle.ir_program.specs.declared.handles.Ptr.{Ptr}
use Rattle.ir_program.specs.declared.handles.BasicBlock.{BasicBlock}
use Rattle.ir_program.specs.declared.handles.Value.{Value}
use Rattle.ir_program.specs.declared.handles.DefiningEntity.{DefiningEntity}
use Rattle.ir_program.specs.declared.handles.DefiningEntity.TheVariants.{Op as ByOp, Block as ByBlock}
use Rattle.ir_program.specs.declared.records.OperationRecord.{OperationRecord}
use Rattle.ir_program.specs.declared.records.BlockRecord.{BlockRecord}
use Rattle.ir_program.specs.declared.records.RegionRecord.{RegionRecord}

-- the slot of the entity that defines values
abbrev pub definer_place : DefiningEntity → Place
definer_place (ByOp p) = Op p.key.slot
definer_place (ByBlock p) = Block p.key.slot

-- the slot of a value's definer, and of a block
abbrev pub value_place : Value → Place
value_place v = definer_place v.definer

abbrev pub block_place : Ptr BasicBlock → Place
block_place b = Block b.key.slot

-- the parts make a program that keeps what every program keeps
abbrev pub MakeProgram : {O B : Type 0} → Forest (OperationRecord O) (BlockRecord B) RegionRecord → Uses Value → Uses (Ptr BasicBlock) → Type 0
MakeProgram f u t = (n : ℕ) × IsProgram (record { forest = f; values = u; targets = t; counter = n })

-- no place names what stands inside x
abbrev pub NoneNames : {K : Type 0} → Shape → Place → (K → Place) → Uses K → Type 0
NoneNames s x place u = (t q : ℕ) (v : _) → key_of u t ≡ Some v → IsInside s x (place v) → NamesDefinition u q t → ⊥

-- the keys of what stands inside x are out of use, and the others are as they were
pub record ForgetsInside {K : Type 0} (s : Shape) (x : Place) (place : K → Place) (old new : Uses K) : Type 0 where
  pub places : new.places ≡ old.places
  pub gone : (t : ℕ) (v : K) → key_of old t ≡ Some v → IsInside s x (place v) → key_of new t ≡ None
  pub kept : (t : ℕ) (v : K) → key_of old t ≡ Some v → (IsInside s x (place v) → ⊥) → key_of new t ≡ Some v
  pub none : (t : ℕ) → key_of old t ≡ None → key_of new t ≡ None
