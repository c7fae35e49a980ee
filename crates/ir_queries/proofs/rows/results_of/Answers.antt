use Rattle.std.proofs.Common.{◌∙◌}
use Rattle.ir_program.specs.Program.{TypedValue, results_at}
use Rattle.ir_queries.proofs.RowSteps.{next_image}
use Rattle.ir_queries.proofs.rows.results_of.Goals as goal

pub loop-i-preserved : goal.loop-i-preserved
loop-i-preserved g c = c.in_ok-push.ensures.items ∙ next_image (λ (t : TypedValue). t.value) (results_at c.args.program.now c.args.op) c.loop-i.results.items c.loop-i.i c.result.result c.loop-i.invariant c.result.ensures.value
