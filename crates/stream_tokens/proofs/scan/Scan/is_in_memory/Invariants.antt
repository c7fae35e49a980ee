use Rattle.std.proofs.Common.{◌≡◌, ℕ, ◌<◌, slice_index, codes, drop}
use Rattle.text_streams.specs.Positions.{left}
use Rattle.stream_tokens.proofs.scan.Scan.is_in_memory.Given as goal

abbrev pub invariant-loop-wanted : goal.invariant-loop-wanted
invariant-loop-wanted l = (left l.position ≡ drop l.wanted-index (left l.self.start))
    × ((n : ℕ) → n < l.wanted-index → slice_index (left l.self.start) n ≡ slice_index (codes "<in-memory>") n)
