use Rattle.std.proofs.Common.{◌≡◌, take}
use Rattle.ir_program.specs.Rows.{operands_at}
use Rattle.opt_trees.specs.Occurrences.{picks}
use Rattle.opt_inside.proofs.forwarding.forwarded.picked_operands.Given as goal

-- the operands at the first indices
abbrev pub invariant-loop-index : goal.invariant-loop-index
invariant-loop-index g l = l.values.items ≡ picks (operands_at l.program l.op) (take l.index-index l.indices)
