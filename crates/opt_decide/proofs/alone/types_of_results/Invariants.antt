use Rattle.std.proofs.Common.{◌≡◌, take, map}
use Rattle.ir_program.specs.Program.{TypedValue, results_at}
use Rattle.opt_decide.proofs.alone.types_of_results.Given as goal

-- the types of the first results
abbrev pub invariant-loop-i : goal.invariant-loop-i
invariant-loop-i g l = l.types.items ≡ map (λ (t : TypedValue). t.ty) (take l.i (results_at l.program l.op))
