use Rattle.std.proofs.Common.{◌+◌, ◌*◌}
use Rattle.text_streams.specs.Positions.{bytes_left}
use Rattle.text_locations.specs.Locations.{AreRead, ReadsLocation}
use Rattle.text_locations.proofs.locations.+locations.Given as goal

abbrev pub decreases-read_behind : goal.decreases-read_behind
decreases-read_behind g l = 8 * l.depth + 5

abbrev pub decreases-read_call_site : goal.decreases-read_call_site
decreases-read_call_site g l = 8 * l.depth + 4

abbrev pub decreases-read_fused : goal.decreases-read_fused
decreases-read_fused g l = 8 * l.depth + 4

abbrev pub decreases-read_last : goal.decreases-read_last
decreases-read_last g l = 8 * l.depth + 2

abbrev pub decreases-read_location : goal.decreases-read_location
decreases-read_location g l = 8 * l.depth

abbrev pub decreases-read_members : goal.decreases-read_members
decreases-read_members g l = 8 * l.depth + 3

abbrev pub decreases-read_next : goal.decreases-read_next
decreases-read_next g l = 8 * l.depth + 1

-- the members so far were read, each with the `,` behind it, and the stream is where the next one is due
abbrev pub invariant-read_members-members : goal.invariant-read_members-members
invariant-read_members-members g l =
    AreRead (ReadsLocation g.F.FnMut l.depth) (l.initial.attribute, l.initial.stream) l.members.items (l.attribute, l.stream)

abbrev pub decreases-read_members-members : goal.decreases-read_members-members
decreases-read_members-members g l = bytes_left l.stream.position
