use Rattle.std.proofs.Common.{arith}
use Rattle.std.proofs.lemmas.Option.{slice_get-get_or}
use Rattle.ir_program.specs.Rows.{operands_at}
use Rattle.ir_core.proofs.EditsLemmas.Listing.{listed-all, one-place}
use Rattle.ir_core.proofs.edits.listed_uses.listed_operands.Goals as goal

pub loop-place-preserved : goal.loop-place-preserved
loop-place-preserved g c = one-place c.args.made.now c.args.places.now (operands_at c.args.ctx.now.program) c.args.value c.loop-place.place-index _ c.loop-place.uses.items c.push_found.new.uses.items c.operand_use.result
    (slice_get-get_or _ _ _ c.loop-place-test.true) c.in_ok-push_found.ensures c.operand_use.ensures.found c.operand_use.ensures.none c.loop-place.invariant

pub returns : goal.returns
returns g c = listed-all c.args.made.now c.args.places.now (operands_at c.args.ctx.now.program) c.args.value c.loop-place.uses.items c.loop-place.place-index (omega (arith, c.loop-place-test.false, c.loop-place.auto.place-index-end)) c.loop-place.invariant
