use Rattle.std.proofs.Common.{◌≡◌, ◌++◌}
use Rattle.digraph.specs.Work.{Adds}
use Rattle.opt_solvers.proofs.dead_items.add_inside.Given as goal

abbrev pub invariant-loop-operation : goal.invariant-loop-operation
invariant-loop-operation l = Adds l.initial.work l.work l.yielded × (l.yielded ++ l.operation-iterator ≡ l.fn.inside)
