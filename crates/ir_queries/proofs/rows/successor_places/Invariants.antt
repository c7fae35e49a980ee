use Rattle.std.proofs.Common.{take}
use Rattle.ir_program.specs.Rows.{successors_at}
use Rattle.ir_queries.specs.Rows.{ArePlacesOf}
use Rattle.ir_queries.proofs.rows.successor_places.Given as goal

abbrev pub invariant-loop-index : goal.invariant-loop-index
invariant-loop-index g l = ArePlacesOf l.op (take l.index (successors_at l.program l.op)) l.places.items
