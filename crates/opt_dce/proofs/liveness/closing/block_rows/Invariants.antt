use Rattle.std.proofs.Common.{◌≡◌, ℕ, Some, length, slice_get}
use Rattle.ir_program.specs.declared.handles.BasicBlock.{BasicBlock}
use Rattle.ir_program.specs.declared.handles.Ptr.{Ptr}
use Rattle.opt_rows.specs.declared.dead_problem.Argument.{Argument}
use Rattle.opt_inside.specs.Numbered.{numbers_of}
use Rattle.opt_dce.specs.liveness.Problems.{IsBlockRow}
use Rattle.opt_dce.proofs.liveness.closing.block_rows.Given as goal

abbrev pub invariant-loop-block : goal.invariant-loop-block
invariant-loop-block g l = record {
  len : length l.rows.items ≡ l.block-index;
  rows : (k : ℕ) (row : Argument) → slice_get l.rows.items k ≡ Some row → (b : Ptr BasicBlock) → slice_get l.inside.blocks.keys k ≡ Some b → IsBlockRow g.D.Meanings.meaning l.program (numbers_of l.inside) b row;
}
