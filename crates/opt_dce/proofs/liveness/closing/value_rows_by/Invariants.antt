use Rattle.std.proofs.Common.{◌≡◌, ℕ, Some, length, slice_get}
use Rattle.ir_program.specs.declared.handles.Value.{Value}
use Rattle.opt_rows.specs.declared.dead_problem.Argument.{Argument}
use Rattle.opt_inside.specs.Numbered.{numbers_of}
use Rattle.opt_dce.specs.liveness.Problems.{TakesRow}
use Rattle.opt_dce.proofs.liveness.closing.value_rows_by.Given as goal

abbrev pub invariant-loop-value : goal.invariant-loop-value
invariant-loop-value l = record {
  len : length l.rows.items ≡ l.value-index;
  rows : (k : ℕ) (row : Argument) → slice_get l.rows.items k ≡ Some row → (v : Value) → slice_get l.inside.values.keys k ≡ Some v → TakesRow (numbers_of l.inside) l.blocks v row;
}
