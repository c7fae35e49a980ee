use Rattle.std.proofs.Common.{◌≡◌, map}
use Rattle.std.specs.List.{range_with_len}
use Rattle.ir_formats.specs.Rules.{texts, takes}
use Rattle.ir_formats.proofs.rules.class.Given as goal

abbrev pub invariant-loop-kind : goal.invariant-loop-kind
invariant-loop-kind l = l.kinds.items ≡ map (takes (texts l.words) l.sign) (range_with_len 0 l.kind)
