use Rattle.std.proofs.Common.{sym, ◌∙◌}
use Rattle.ir_program.specs.Lists.{StandsInBlock}
use Rattle.ir_core.proofs.EditsLemmas.Asked.{can_stand_where}
use Rattle.ir_core.proofs.edits.operation_lists.can_stand.Goals as goal

pub returns-then-is_live : goal.returns-then-is_live
returns-then-is_live g c = can_stand_where (StandsInBlock c.args.ctx.now.program c.args.op) c.is_linked.result (sym c.is_live.ensures ∙ c.if-is_live.true) c.is_linked.ensures.linked
