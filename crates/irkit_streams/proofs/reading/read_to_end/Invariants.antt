use Rattle.std.proofs.Common.{◌≡◌, ◌+◌, ◌≤◌, false, length}
use Rattle.irkit_streams.specs.Streams.{has_failed, calls_of, counted, ends_of, Gave}
use Rattle.irkit_streams.proofs.reading.read_to_end.Given as goal

abbrev pub invariant-reading : goal.invariant-reading
invariant-reading g l =
    Gave g.R.Read.remaining l.fn.reader l.reader l.bytes.items × (l._turn ≤ length l.bytes.items) × (has_failed l.reader ≡ false)
    × (calls_of l.reader ≡ counted (calls_of l.fn.reader + l._turn)) × (ends_of l.reader ≡ ends_of l.fn.reader)
