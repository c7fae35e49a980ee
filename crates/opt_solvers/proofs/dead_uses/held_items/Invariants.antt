use Rattle.std.proofs.Common.{◌≡◌, ◌++◌, take, map}
use Rattle.opt_solvers.specs.DeadUses.{held, held_argument}
use Rattle.opt_solvers.proofs.dead_uses.held_items.Given as goal

abbrev pub invariant-loop-operation : goal.invariant-loop-operation
invariant-loop-operation l = l.uses.items ≡ map held (take l.operation-index l.may_go)

abbrev pub invariant-loop-argument : goal.invariant-loop-argument
invariant-loop-argument l = l.uses.items ≡ map held l.may_go ++ map held_argument (take l.argument-index l.arguments)
