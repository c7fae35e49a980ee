use Rattle.std.proofs.Common.{◌≡◌, take}
use Rattle.ir_program.specs.Program.{results_at}
use Rattle.opt_inside.specs.facts.Folds.{result_types}
use Rattle.opt_inside.proofs.facts.folding.types_of_results.Given as goal

abbrev pub invariant-loop-i : goal.invariant-loop-i
invariant-loop-i g l = l.types.items ≡ take l.i (result_types (results_at l.program l.op))
