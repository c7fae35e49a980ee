use Rattle.ir_program.specs.Rows.{operands_at}
use Rattle.ir_core.proofs.EditsLemmas.Listing.{ListedSoFar}
use Rattle.ir_core.proofs.edits.listed_uses.listed_operands.Given as goal

abbrev pub invariant-loop-place : goal.invariant-loop-place
invariant-loop-place g l = ListedSoFar l.made l.places (operands_at l.ctx.program) l.value l.place-index l.uses.items
