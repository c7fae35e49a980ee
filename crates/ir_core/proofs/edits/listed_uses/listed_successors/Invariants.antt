use Rattle.ir_program.specs.Rows.{successors_at}
use Rattle.ir_core.proofs.EditsLemmas.Listing.{ListedSoFar}
use Rattle.ir_core.proofs.edits.listed_uses.listed_successors.Given as goal

abbrev pub invariant-loop-place : goal.invariant-loop-place
invariant-loop-place g l = ListedSoFar l.made l.places (successors_at l.ctx.program) l.block l.place-index l.uses.items
