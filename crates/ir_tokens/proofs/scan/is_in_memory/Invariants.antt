use Rattle.std.proofs.Common.{ℕ, ◌≡◌, ◌<◌, ◌+◌, slice_index, codes}
use Rattle.ir_characters.specs.Texts.{codes_of}
use Rattle.ir_tokens.proofs.scan.is_in_memory.Given as goal

abbrev pub invariant-loop-k : goal.invariant-loop-k
invariant-loop-k l = (n : ℕ) → n < l.k → slice_index (codes_of l.chars) (l.at + n) ≡ slice_index (codes "<in-memory>") n
