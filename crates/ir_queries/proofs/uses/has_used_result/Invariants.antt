use Rattle.std.proofs.Common.{◌≡◌, ℕ, ◌<◌, Some}
use Rattle.ir_program.specs.Program.{results_at, value_in}
use Rattle.ir_program.specs.Uses.{IsUsed}
use Rattle.ir_program.specs.declared.handles.Value.{Value}
use Rattle.ir_queries.proofs.uses.has_used_result.Given as goal

abbrev pub invariant-loop-i : goal.invariant-loop-i
invariant-loop-i g l = (k : ℕ) → k < l.i → (v : Value) → value_in (results_at l.program l.op) k ≡ Some v → IsUsed l.program v → ⊥
