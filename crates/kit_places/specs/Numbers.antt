-- The numbers of the values and blocks of a function.
use Rattle.std.specs.Prelude.{ℕ, List, map, get_or}
use Rattle.std.specs.List.{position_or_len}
use Rattle.ir_program.specs.Program.{TypedValue, no_handle}
use Rattle.ir_program.specs.Replacing.{same_value, same_block}
use Rattle.ir_program.specs.declared.handles.Ptr.{Ptr}
use Rattle.ir_program.specs.declared.handles.Operation.{Operation}
use Rattle.ir_program.specs.declared.handles.BasicBlock.{BasicBlock}
use Rattle.ir_program.specs.declared.handles.Value.{Value}
use Rattle.ir_program.specs.declared.handles.DefiningEntity.TheVariants.{Op as ByOp}

-- the number of a value among others: its index; that of one that isn't among them is the one behind these
abbrev pub value_number : List Value → Value → ℕ
value_number values v = position_or_len (same_value v) values

-- the same of a block
abbrev pub block_number : List (Ptr BasicBlock) → Ptr BasicBlock → ℕ
block_number blocks b = position_or_len (same_block b) blocks

-- definitions without their types
abbrev pub values_of : List TypedValue → List Value
values_of ts = map (λ (t : TypedValue). t.value) ts

-- a value that is never given out
abbrev pub no_value : Value
no_value = record { definer = ByOp no_handle; number = 0 }

-- the value, the block and the operation with a number
abbrev pub value_at : List Value → ℕ → Value
value_at values i = get_or values i no_value

abbrev pub block_with : List (Ptr BasicBlock) → ℕ → Ptr BasicBlock
block_with blocks i = get_or blocks i no_handle

abbrev pub operation_with : List (Ptr Operation) → ℕ → Ptr Operation
operation_with ops i = get_or ops i no_handle
