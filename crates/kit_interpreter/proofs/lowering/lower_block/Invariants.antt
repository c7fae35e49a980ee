use Rattle.std.proofs.Common.{ℕ, ◌≡◌, ◌++◌, Some, slice_get, map, length}
use Rattle.ir_program.specs.Lists.{operations_in}
use Rattle.kit_flat.specs.View.{op_view}
use Rattle.kit_flat.specs.Sound.{InstructionFits}
use Rattle.kit_flat.specs.Renames.{rename_op, TargetsAreInside}
use Rattle.kit_flat.specs.declared.flat.Instruction.{Instruction}
use Rattle.kit_places.specs.Numbers.{value_at, block_with, operation_with}
use Rattle.kit_places.specs.Store.{op_at}
use Rattle.kit_interpreter.proofs.lowering.lower_block.Given as goal

abbrev pub invariant-loop-op : goal.invariant-loop-op
invariant-loop-op l = record {
  listed : l.yielded ++ l.op-iterator ≡ operations_in l.fn.ctx.program l.fn.block;
  same : map (op_at l.fn.ctx l.fn.functions.outer) l.yielded ≡ map
      (λ o. rename_op (value_at l.fn.values.keys) (block_with l.fn.blocks.keys)
      (operation_with l.fn.functions.handles.keys) (op_view o)) l.instructions.items;
  fits : (j : ℕ) (o : Instruction) → slice_get l.instructions.items j ≡ Some o
      → InstructionFits (length l.fn.functions.handles.keys) (length l.fn.values.keys) o;
  inside : (j : ℕ) (o : Instruction) → slice_get l.instructions.items j ≡ Some o
      → TargetsAreInside (length l.fn.blocks.keys) o;
}
