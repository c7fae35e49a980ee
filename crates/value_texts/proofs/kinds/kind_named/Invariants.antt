use Rattle.std.proofs.Common.{◌≡◌, ◌≢◌, ◌<◌, ℕ, Some, slice_get}
use Rattle.ir_print.specs.Formats.{Kind, kinds_of}
use Rattle.value_texts.proofs.kinds.kind_named.Given as goal

abbrev pub invariant-loop-number : goal.invariant-loop-number
invariant-loop-number g l = (j : ℕ) (k : Kind) → j < l.number → slice_get (kinds_of g.M.ValueMaker.formats l.sort) j ≡ Some k → l.token.text.items ≢ k.id
