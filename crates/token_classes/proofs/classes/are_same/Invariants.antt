use Rattle.std.proofs.Common.{◌≡◌, length, bytes_eq}
use Rattle.token_classes.proofs.classes.are_same.Given as goal

abbrev pub invariant-loop-left : goal.invariant-loop-left
invariant-loop-left l = bytes_eq l.left.0.now l.left.1.now ≡ bytes_eq l.bytes l.characters

abbrev pub decreases-loop-left : goal.decreases-loop-left
decreases-loop-left l = length l.left.0.now
