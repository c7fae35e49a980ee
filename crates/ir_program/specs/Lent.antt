-- What a program ends as, where a `&mut` to a payload is returned.
use Rattle.std.specs.Prelude.{List, Option, Some, None, option_map}
use Rattle.std.specs.Borrow.{Lends, Fml, RattleType, MutBor}
use Rattle.ir_arena.specs.declared.arena.Key.{Key}
use Rattle.ir_arena.specs.declared.arena.Slot.{Slot}
use Rattle.ir_arena.specs.Arena.{get}
use Rattle.ir_arena.specs.Lends.{with_value}
use Rattle.ir_program.specs.Program.{Program, OperationView, BlockView, operation_at, block_at}
use Rattle.ir_program.specs.contracts.program.Program.{the_row}
use Rattle.ir_program.specs.declared.handles.Ptr.{Ptr}
use Rattle.ir_program.specs.declared.handles.Operation.{Operation}
use Rattle.ir_program.specs.declared.handles.BasicBlock.{BasicBlock}
use Rattle.ir_program.specs.declared.records.OperationRecord.{OperationRecord}
use Rattle.ir_program.specs.declared.records.BlockRecord.{BlockRecord}

-- the operations or blocks with another payload of the one that a key leads to
abbrev pub operations_with : {O : Type 0} → List (Slot (OperationRecord O)) → Key → O → Option (OperationRecord O) → List (Slot (OperationRecord O))
operations_with ops k w None = ops
operations_with ops k w (Some o) = with_value ops k (record o { payload = w })

abbrev pub blocks_with : {B : Type 0} → List (Slot (BlockRecord B)) → Key → B → Option (BlockRecord B) → List (Slot (BlockRecord B))
blocks_with blocks k w None = blocks
blocks_with blocks k w (Some b) = with_value blocks k (record b { payload = w })

module _ {O B : Type 0} where
  -- the payload of an operation
  abbrev pub payload_at : Program O B → Ptr Operation → Option O
  payload_at c p = option_map (λ (o : OperationView O). o.payload) (operation_at c p)

  -- the payload of a block
  abbrev pub block_payload_at : Program O B → Ptr BasicBlock → Option B
  block_payload_at c p = option_map (λ (b : BlockView B). b.payload) (block_at c p)

  -- the program with w as the payload of operation p
  abbrev pub with_payload : Program O B → Ptr Operation → O → Program O B
  with_payload c p w = record c { forest = record c.forest { ops = operations_with c.forest.ops p.key w (get c.forest.ops p.key) } }

  -- the program with w as the payload of block p
  abbrev pub with_block_payload : Program O B → Ptr BasicBlock → B → Program O B
  with_block_payload c p w = record c { forest = record c.forest { blocks = blocks_with c.forest.blocks p.key w (get c.forest.blocks p.key) } }

module _ (O B : RattleType) where
  -- the last payload written through r is that of operation p
  abbrev pub lends_payload : MutBor (Program O.Denot B.Denot) → Ptr Operation → MutBor O.Denot → Fml
  lends_payload s p r = Lends (the_row O B) O s r (with_payload s.now p)

  -- the last payload written through r is that of block p
  abbrev pub lends_block_payload : MutBor (Program O.Denot B.Denot) → Ptr BasicBlock → MutBor B.Denot → Fml
  lends_block_payload s p r = Lends (the_row O B) B s r (with_block_payload s.now p)
