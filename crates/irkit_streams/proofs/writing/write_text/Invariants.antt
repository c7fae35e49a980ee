use Rattle.std.proofs.Common.{◌≡◌, ◌≤◌, ◌-◌, false, length, take}
use Rattle.irkit_streams.specs.Streams.{has_failed, Took}
use Rattle.irkit_streams.proofs.writing.write_text.Given as goal

abbrev pub invariant-loop-taken : goal.invariant-loop-taken
invariant-loop-taken g l = (l.taken ≤ length l.text) × Took g.W.Write.contents l.fn.writer l.writer (take l.taken l.text) × (has_failed l.writer ≡ false)

abbrev pub decreases-loop-taken : goal.decreases-loop-taken
decreases-loop-taken g l = length l.text - l.taken
