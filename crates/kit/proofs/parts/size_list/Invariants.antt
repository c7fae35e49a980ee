use Rattle.std.proofs.Common.{take}
use Rattle.ir_print.specs.Shown.{Pairs}
use Rattle.kit.specs.Parts.{AreSizeParts}
use Rattle.kit.proofs.parts.size_list.Given as goal

-- each of the numbers so far is a member
abbrev pub invariant-loop-size : goal.invariant-loop-size
invariant-loop-size l = Pairs (λ m n. AreSizeParts m.items n) l.members.items (take l.size-index l.sizes)
