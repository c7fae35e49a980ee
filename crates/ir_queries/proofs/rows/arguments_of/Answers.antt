use Rattle.std.proofs.Common.{◌∙◌}
use Rattle.ir_program.specs.Program.{TypedValue, arguments_at}
use Rattle.ir_queries.proofs.RowSteps.{next_image}
use Rattle.ir_queries.proofs.rows.arguments_of.Goals as goal

pub loop-i-preserved : goal.loop-i-preserved
loop-i-preserved g c = c.in_ok-push.ensures.items ∙ next_image (λ (t : TypedValue). t.value) (arguments_at c.args.program.now c.args.block) c.loop-i.arguments.items c.loop-i.i c.argument.result c.loop-i.invariant c.argument.ensures.value
