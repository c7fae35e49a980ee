-- The order in which a program lists where a value or a block is used. No edit promises which order that is; it is one and the same as long as the program is.
use Rattle.std.specs.Prelude.{List, [], map, option_map, unwrap_or}
use Rattle.ir_arena.specs.Arena.{get}
use Rattle.ir_entities.specs.Uses.{listed_of}
use Rattle.ir_program.specs.Program.{Program, definition_at}
use Rattle.ir_program.specs.Spots.{operand_use, successor_use}
use Rattle.ir_program.specs.declared.handles.Ptr.{Ptr}
use Rattle.ir_program.specs.declared.handles.BasicBlock.{BasicBlock}
use Rattle.ir_program.specs.declared.handles.Use.{Use}
use Rattle.ir_program.specs.declared.handles.Value.{Value}
use Rattle.ir_program.specs.declared.records.BlockRecord.{BlockRecord}
use Rattle.ir_program.specs.declared.records.Definition.{Definition}

module _ {O B : Type 0} where
  -- the edges to a block, in the order in which the program lists them; none where the handle leads to no block
  abbrev pub edges_listed : Program O B → Ptr BasicBlock → List (Use (Ptr BasicBlock))
  edges_listed c b = unwrap_or (option_map (λ t. map (successor_use c) (listed_of c.targets t)) (option_map (λ (r : BlockRecord B). r.thread) (get c.forest.blocks b.key))) []

  -- the uses of a value, in the order in which the program lists them; none where it does not stand at its definer
  abbrev pub uses_listed : Program O B → Value → List (Use Value)
  uses_listed c v = unwrap_or (option_map (λ t. map (operand_use c) (listed_of c.values t)) (option_map (λ (d : Definition). d.thread) (definition_at c v))) []
