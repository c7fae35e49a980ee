-- The threads of what stands at a place, and what takes threads out of use.
use Rattle.std.specs.Prelude.{◌≡◌, ℕ, true, false, List, [], ◌∷◌, map, None, option_map, unwrap_or}
use Rattle.ir_arena.specs.Arena.{held}
use Rattle.ir_entities.specs.Forest.{Forest}
use Rattle.ir_entities.specs.Links.{has, AreDistinctNumbers}
use Rattle.ir_entities.specs.Uses.{Uses, key_of, NamesDefinition, IsDefined}
use Rattle.ir_entities.specs.declared.forest.Place.{Place}
use Rattle.ir_entities.specs.declared.forest.Place.TheVariants.{Op, Block, Region}
use Rattle.ir_program.specs.declared.records.Definition.{Definition}
use Rattle.ir_program.specs.declared.records.OperationRecord.{OperationRecord}
use Rattle.ir_program.specs.declared.records.BlockRecord.{BlockRecord}
use Rattle.ir_program.specs.declared.records.RegionRecord.{RegionRecord}

-- the threads of definitions
abbrev pub threads_of : List Definition → List ℕ
threads_of ds = map (λ (d : Definition). d.thread) ds

module _ {O B : Type 0} where
  -- the definitions of what stands in a slot, where it defines values
  abbrev pub definitions_in : Forest (OperationRecord O) (BlockRecord B) RegionRecord → Place → List Definition
  definitions_in f (Op i) = unwrap_or (option_map (λ (o : OperationRecord O). o.results.items) (held f.ops i)) []
  definitions_in f (Block i) = unwrap_or (option_map (λ (b : BlockRecord B). b.arguments.items) (held f.blocks i)) []
  definitions_in f (Region i) = []

  -- the threads of the values that what stands in a slot defines
  abbrev pub value_threads_in : Forest (OperationRecord O) (BlockRecord B) RegionRecord → Place → List ℕ
  value_threads_in f at = threads_of (definitions_in f at)

  -- the thread of the block that stands in a slot
  abbrev pub block_threads_in : Forest (OperationRecord O) (BlockRecord B) RegionRecord → Place → List ℕ
  block_threads_in f (Op i) = []
  block_threads_in f (Block i) = unwrap_or (option_map (λ (b : BlockRecord B). b.thread ∷ []) (held f.blocks i)) []
  block_threads_in f (Region i) = []

-- the threads are in use, each comes once, and no place names one of them
pub record AreUnnamed {K : Type 0} (u : Uses K) (threads : List ℕ) : Type 0 where
  pub distinct : AreDistinctNumbers threads
  pub defined : (t : ℕ) → has t threads ≡ true → IsDefined u t
  pub unnamed : (t q : ℕ) → has t threads ≡ true → NamesDefinition u q t → ⊥

-- the threads are out of use, and the others are as they were
pub record ForgetsThreads {K : Type 0} (old new : Uses K) (threads : List ℕ) : Type 0 where
  pub places : new.places ≡ old.places
  pub gone : (t : ℕ) → has t threads ≡ true → key_of new t ≡ None
  pub kept : (t : ℕ) → has t threads ≡ false → key_of new t ≡ key_of old t
