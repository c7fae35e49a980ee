use Rattle.std.proofs.Common.{◌≡◌, map}
use Rattle.std.specs.List.{range_with_len}
use Rattle.ir_formats.specs.Rules.{texts, class_of, plain_classes}
use Rattle.ir_formats.proofs.rules.signs.Given as goal

abbrev pub invariant-loop-sign : goal.invariant-loop-sign
invariant-loop-sign l = plain_classes l.signs.items ≡ map (class_of (texts l.words)) (range_with_len 0 l.sign)
