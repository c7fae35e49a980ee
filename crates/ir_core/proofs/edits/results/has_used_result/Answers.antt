use Rattle.ir_program.specs.Program.{results_at, value_in}
use Rattle.ir_core.proofs.EditsLemmas.Asked.{used_at}
use Rattle.ir_core.proofs.edits.results.has_used_result.Goals as goal

pub returns : goal.returns
returns g c = used_at c.args.ctx.now.program (value_in (results_at c.args.ctx.now.program c.args.op) c.args.index) c.get_result.result c.is_used.result c.get_result.ensures.value c.is_used.ensures
