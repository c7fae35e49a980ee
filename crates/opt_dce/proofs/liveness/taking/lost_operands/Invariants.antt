use Rattle.std.proofs.Common.{take}
use Rattle.opt_inside.specs.Numbered.{numbers_of}
use Rattle.opt_dce.specs.liveness.Taken.{Picks, IsLoss, LosesSome, op_of}
use Rattle.opt_dce.proofs.liveness.taking.lost_operands.Given as goal

abbrev pub invariant-loop-index : goal.invariant-loop-index
invariant-loop-index l = Picks op_of (IsLoss (numbers_of l.inside) l.rows l.arguments) (LosesSome (numbers_of l.inside) l.rows l.arguments) (take l.index l.inside.operations.keys) l.lost.items
