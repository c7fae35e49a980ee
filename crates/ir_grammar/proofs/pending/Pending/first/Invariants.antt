use Rattle.std.proofs.Common.{◌≡◌, length}
use Rattle.ir_grammar.specs.Pending.{unread}
use Rattle.ir_grammar.proofs.pending.Pending.first.Given as goal

abbrev pub invariant-loop-self : goal.invariant-loop-self
invariant-loop-self l = unread l.self ≡ unread l.fn.self

abbrev pub decreases-loop-self : goal.decreases-loop-self
decreases-loop-self l = length l.self.around.items
