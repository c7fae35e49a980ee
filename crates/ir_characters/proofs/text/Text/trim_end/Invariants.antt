use Rattle.std.proofs.Common.{◌≡◌, ◌≤◌, length, take}
use Rattle.ir_characters.specs.Texts.{codes_of, trimmed}
use Rattle.ir_characters.proofs.text.Text.trim_end.Given as goal

abbrev pub invariant-loop-end : goal.invariant-loop-end
invariant-loop-end l = (l.end ≤ length (codes_of l.self)) × (trimmed (take l.end (codes_of l.self)) ≡ trimmed (codes_of l.self))

abbrev pub decreases-loop-end : goal.decreases-loop-end
decreases-loop-end l = l.end
