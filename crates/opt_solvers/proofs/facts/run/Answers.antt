use Rattle.opt_solvers.proofs.FactsBeginning.{begins_solving, begins_waiting}
use Rattle.opt_solvers.proofs.FactsStepping.{solved}
use Rattle.opt_solvers.proofs.facts.run.Goals as goal

pub steps-init : goal.steps-init
steps-init g c = (begins_solving _ c.args.problem.now c.args.solver.now c.requires.initial, begins_waiting _ c.args.problem.now c.args.solver.now c.requires.initial)

pub returns : goal.returns
returns g c =
    let s = c.in_ok-step.ensures in
    solved _ c.args.problem.now c.step.new.solver s.solving s.waiting (s.no_blocks c.if-branch.false) (s.no_values c.if-branch.false)
