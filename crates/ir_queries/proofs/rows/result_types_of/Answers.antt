use Rattle.std.proofs.Common.{◌∙◌}
use Rattle.ir_program.specs.Program.{TypedValue, results_at}
use Rattle.ir_queries.proofs.RowSteps.{next_image}
use Rattle.ir_queries.proofs.rows.result_types_of.Goals as goal

pub loop-i-preserved : goal.loop-i-preserved
loop-i-preserved g c = c.in_ok-push.ensures.items ∙ next_image (λ (t : TypedValue). t.ty) (results_at c.args.program.now c.args.op) c.loop-i.types.items c.loop-i.i c.result_type.result c.loop-i.invariant c.result_type.ensures
