use Rattle.ir_program.specs.Program.{arguments_at, value_in}
use Rattle.ir_core.proofs.EditsLemmas.Asked.{used_at}
use Rattle.ir_core.proofs.edits.arguments.has_used_argument.Goals as goal

pub returns : goal.returns
returns g c = used_at c.args.ctx.now.program (value_in (arguments_at c.args.ctx.now.program c.args.block) c.args.index) c.get_argument.result c.is_used.result c.get_argument.ensures.value c.is_used.ensures
