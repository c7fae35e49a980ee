use Rattle.std.proofs.Common.{◌≡◌, length}
use Rattle.ir_formats.specs.Words.{are_whole}
use Rattle.token_classes.proofs.classes.are_whole.Given as goal

abbrev pub invariant-loop-left : goal.invariant-loop-left
invariant-loop-left l = are_whole l.left ≡ are_whole l.text

abbrev pub decreases-loop-left : goal.decreases-loop-left
decreases-loop-left l = length l.left
