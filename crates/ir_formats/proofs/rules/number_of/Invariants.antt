use Rattle.std.proofs.Common.{◌≡◌, ◌+◌, drop}
use Rattle.ir_formats.specs.Rules.{texts, number_of}
use Rattle.ir_formats.proofs.rules.number_of.Given as goal

abbrev pub invariant-loop-index : goal.invariant-loop-index
invariant-loop-index l = l.index + number_of (texts (drop l.index l.words)) l.text ≡ number_of (texts l.words) l.text
