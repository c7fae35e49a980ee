use Rattle.std.proofs.Common.{◌≡◌, ℕ, List, length}
use Rattle.ir_entities.specs.Links.{list_at}
use Rattle.ir_entities.proofs.Appends.{IsMoving}
use Rattle.ir_entities.proofs.siblings.Siblings.append.Given as goal

abbrev pub invariant-loop-node : goal.invariant-loop-node
invariant-loop-node l = (done rest : List ℕ) × IsMoving l.fn.self.lists l.fn.donee l.fn.donor done rest l.self.lists × (l.self.nodes ≡ l.fn.self.nodes)

abbrev pub decreases-loop-node : goal.decreases-loop-node
decreases-loop-node l = length (list_at l.self.lists l.fn.donor)
