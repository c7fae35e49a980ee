use Rattle.std.proofs.Common.{◌≡◌, ◌<◌, ℕ, length, Some}
use Rattle.std.specs.Prelude.{◌↔◌}
use Rattle.ir_program.specs.Program.{arguments_at, value_in}
use Rattle.ir_program.specs.declared.handles.Value.{Value}
use Rattle.opt_inside.specs.Numbered.{numbers_of}
use Rattle.opt_dce.specs.liveness.Taken.{HasMarkAt, ArgumentGoes}
use Rattle.opt_dce.proofs.liveness.taking.argument_marks.Given as goal

abbrev pub invariant-loop-index : goal.invariant-loop-index
invariant-loop-index g l = record {
  len : length l.marks.items ≡ l.index;
  goes : (i : ℕ) → HasMarkAt l.marks.items i ↔ ((i < length l.marks.items) × ((v : Value) × (value_in (arguments_at l.program l.block) i ≡ Some v) × ArgumentGoes (numbers_of l.inside) l.arguments v));
}
