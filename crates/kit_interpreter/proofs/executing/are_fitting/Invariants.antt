use Rattle.std.proofs.Common.{ℕ, ◌≡◌, ◌<◌, Some, slice_get}
use Rattle.ir_program.specs.Program.{TypedValue, arguments_at}
use Rattle.kit_places.specs.Store.{width_at}
use Rattle.kit_interpreter.specs.Running.{FitsWidth}
use Rattle.kit_interpreter.proofs.executing.are_fitting.Given as goal

abbrev pub invariant-loop-i : goal.invariant-loop-i
invariant-loop-i l = (k x : ℕ) (t : TypedValue) → k < l.i → slice_get l.fn.numbers k ≡ Some x
    → slice_get (arguments_at l.fn.ctx.program l.fn.block) k ≡ Some t → FitsWidth x (width_at l.fn.ctx t.ty)
