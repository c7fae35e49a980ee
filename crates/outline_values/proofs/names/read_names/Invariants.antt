use Rattle.std.proofs.Common.{length}
use Rattle.text_streams.specs.declared.position.Position.{Position}
use Rattle.text_streams.specs.Positions.{left}
use Rattle.outline_values.specs.Names.{AreNames}
use Rattle.outline_values.specs.Places.{GoesTo, TakesSign}
use Rattle.outline_values.proofs.names.read_names.Given as goal

abbrev pub invariant-loop-next : goal.invariant-loop-next
invariant-loop-next l = GoesTo l.fn.at l.end × (start : Position) × TakesSign 91 l.fn.at start × AreNames start l.names.items l.end

abbrev pub decreases-loop-next : goal.decreases-loop-next
decreases-loop-next l = length (left l.end)
