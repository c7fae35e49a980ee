-- What every program keeps. No public clause cites this module.
use Rattle.std.specs.Prelude.{◌≡◌, ◌↔◌, ℕ, ◌<◌, List, [], map, Option, Some, IsSome, option_map, unwrap_or, slice_get}
use Rattle.ir_arena.specs.Arena.{get, held}
use Rattle.ir_entities.specs.Links.{AreDistinctNumbers, IsLinked}
use Rattle.ir_entities.specs.Placed.{IsPlaced}
use Rattle.ir_entities.specs.Uses.{Uses, key_of, place_of}
use Rattle.ir_program.specs.Program.{Program, definitions_of, definition_at}
use Rattle.ir_program.specs.declared.handles.Ptr.{Ptr}
use Rattle.ir_program.specs.declared.handles.BasicBlock.{BasicBlock}
use Rattle.ir_program.specs.declared.handles.Value.{Value}
use Rattle.ir_program.specs.declared.handles.DefiningEntity.{DefiningEntity}
use Rattle.ir_program.specs.declared.records.Definition.{Definition}
use Rattle.ir_program.specs.declared.records.OperationRecord.{OperationRecord}
use Rattle.ir_program.specs.declared.records.BlockRecord.{BlockRecord}

-- the threads in use are those of the keys, each under its own
abbrev pub IsThreaded : {K : Type 0} → (K → Option ℕ) → Uses K → Type 0
IsThreaded thread u = (x : _) (t : ℕ) → (thread x ≡ Some t) ↔ (key_of u t ≡ Some x)

-- the definitions of an entity have different numbers, all below the counter
pub record AreNumbered (counter : ℕ) (ds : List Definition) : Type 0 where
  pub distinct : AreDistinctNumbers (map (λ (d : Definition). d.number) ds)
  pub below : (i : ℕ) (d : Definition) → slice_get ds i ≡ Some d → d.number < counter

-- no two entities have definitions with one number
abbrev pub DefinitionsHaveOwnNumbers : (DefiningEntity → List Definition) → Type 0
DefinitionsHaveOwnNumbers ds = (e f : DefiningEntity) (j k : ℕ) (d g : Definition) → slice_get (ds e) j ≡ Some d → slice_get (ds f) k ≡ Some g → d.number ≡ g.number → e ≡ f

module _ {O B : Type 0} where
  -- the places of the operands of the operation in a slot
  abbrev pub operand_row : Program O B → ℕ → List ℕ
  operand_row c i = unwrap_or (option_map (λ (o : OperationRecord O). o.operands.items) (held c.forest.ops i)) []

  -- the places of its successors
  abbrev pub successor_row : Program O B → ℕ → List ℕ
  successor_row c i = unwrap_or (option_map (λ (o : OperationRecord O). o.successors.items) (held c.forest.ops i)) []

  abbrev pub thread_of_value : Program O B → Value → Option ℕ
  thread_of_value c v = option_map (λ (d : Definition). d.thread) (definition_at c v)

  abbrev pub thread_of_block : Program O B → Ptr BasicBlock → Option ℕ
  thread_of_block c p = option_map (λ (b : BlockRecord B). b.thread) (get c.forest.blocks p.key)

  pub record IsProgram (c : Program O B) : Type 0 where
    pub operands : IsPlaced (place_of c.values) (operand_row c)
    pub successors : IsPlaced (place_of c.targets) (successor_row c)
    pub values : IsThreaded (thread_of_value c) c.values
    pub blocks : IsThreaded (thread_of_block c) c.targets
    pub numbers : (e : DefiningEntity) → AreNumbered c.counter (definitions_of c e)
    pub own : DefinitionsHaveOwnNumbers (definitions_of c)
    pub homes : (i : ℕ) → IsSome (held c.forest.regions i) → IsLinked c.forest.in_ops.lists i
