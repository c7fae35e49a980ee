use Rattle.text_streams.specs.Positions.{bytes_left}
use Rattle.text_lists.specs.Repeated.{AreAnswered}
use Rattle.text_lists.proofs.repeated.read_all.Given as goal

-- the values so far were read
abbrev pub invariant-values : goal.invariant-values
invariant-values g l = AreAnswered g.F.FnMut (l.fn.parser, l.fn.stream) l.values.items (l.parser, l.stream)

abbrev pub decreases-values : goal.decreases-values
decreases-values g l = bytes_left l.stream.position
