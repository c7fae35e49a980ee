use Rattle.std.proofs.Common.{◌∙◌, ap, is_some, arith}
use Rattle.ir_program.specs.Program.{results_at}
use Rattle.ir_queries.proofs.Standing.{typed_too}
use Rattle.ir_queries.proofs.ResultUses.{uses_step, all_uses}
use Rattle.ir_queries.proofs.uses.uses_of_results.Goals as goal

pub loop-i-preserved : goal.loop-i-preserved
loop-i-preserved g c = uses_step c.args.program.now c.args.op c.know_values.ensures.definer c.know_values.ensures.stands c.loop-i.i c.result.result c.result.ensures.value (ap is_some c.result.ensures.typed ∙ typed_too (results_at c.args.program.now c.args.op) c.loop-i.i c.result.result c.result.ensures.value) c.loop-i.uses.items c.push_uses.new.uses.items c.loop-i.invariant c.in_ok-push_uses.ensures

pub returns : goal.returns
returns g c = all_uses c.args.program.now c.args.op c.loop-i.i (omega arith) c.loop-i.uses.items c.loop-i.invariant
