use Rattle.std.proofs.Common.{◌≡◌}
use Rattle.text_streams.specs.Positions.{bytes_left}
use Rattle.text_lists.specs.Members.{AreRead, may_end}
use Rattle.text_lists.proofs.members.read_members.Given as goal

-- the members so far were read, and the stream is where the next one is due
abbrev pub invariant-members : goal.invariant-members
invariant-members g l =
    AreRead g.F.FnMut l.fn.sign (l.fn.parser, l.fn.stream) l.members.items (l.parser, l.stream)
    × (l.may_end ≡ may_end l.fn.sign l.members.items)

abbrev pub decreases-members : goal.decreases-members
decreases-members g l = bytes_left l.stream.position
