use Rattle.std.proofs.Common.{◌+◌, take, subst, sym}
use Rattle.ir_program.specs.Rows.{operands_at}
use Rattle.ir_queries.specs.Rows.{ArePlacesOf}
use Rattle.ir_queries.proofs.RowSteps.{next_place}
use Rattle.ir_queries.proofs.rows.operand_places.Goals as goal

pub loop-index-preserved : goal.loop-index-preserved
loop-index-preserved g c = subst (ArePlacesOf c.args.op (take (c.loop-index.index + 1) (operands_at c.args.program.now c.args.op))) (sym c.in_ok-push.ensures.items) (next_place c.args.op (operands_at c.args.program.now c.args.op) c.loop-index.places.items c.loop-index.index c.operand-def.result c.loop-index.invariant c.operand-def.ensures.exact)
