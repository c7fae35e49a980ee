use Rattle.std.proofs.Common.{◌≡◌, Some, take}
use Rattle.ir_program.specs.Lent.{payload_at}
use Rattle.ir_program.specs.Rows.{successors_at}
use Rattle.opt_folds.specs.Branches.{picked}
use Rattle.opt_folds.proofs.branch_op_fold.feasible_blocks.Given as goal

-- the feasible ones of the first successors
abbrev pub invariant-loop-edge : goal.invariant-loop-edge
invariant-loop-edge g l = (payload : g.row.D-Operation.Denot) → payload_at l.program l.op ≡ Some payload → l.blocks.items ≡ picked (g.D.Meanings.meaning.feasible payload l.known) (take l.edge (successors_at l.program l.op))
