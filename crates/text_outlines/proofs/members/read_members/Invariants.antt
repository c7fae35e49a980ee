use Rattle.text_streams.specs.Positions.{bytes_left}
use Rattle.text_outlines.specs.Members.{AreRead}
use Rattle.text_outlines.proofs.members.read_members.Given as goal

-- the members so far were read, each with the `,` behind it, and the stream is where the next one is due
abbrev pub invariant-members : goal.invariant-members
invariant-members g l = AreRead g.F.FnMut (l.initial.attribute, l.initial.stream) l.members.items (l.keys, (l.attribute, l.stream))

abbrev pub decreases-members : goal.decreases-members
decreases-members g l = bytes_left l.stream.position
