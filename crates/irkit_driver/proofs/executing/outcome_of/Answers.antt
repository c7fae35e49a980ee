use Rattle.irkit_running.proofs.EndLemmas.{unloaded}
use Rattle.irkit_driver.proofs.ExecutionLemmas.{gave, not_ran, not_loaded}
use Rattle.irkit_driver.proofs.executing.outcome_of.Goals as goal

pub returns-in_err-root : goal.returns-in_err-root
returns-in_err-root g c =
    not_loaded g.R.Read.remaining c.args.reader.now c.load.new.reader c.args.path.now c.args.arguments.now c.args.limit c.in_err-root.field-0.0 c.from_residual.result c.from_residual.ensures.1
    (unloaded g.R.Read.remaining c.args.reader.now c.load.new.reader c.args.ctx.now c.load.new.ctx c.load.result c.in_err-root.field-0.0 c.in_err-root.was c.load.ensures.ends
    c.requires.counter)

pub outcome_in-requires-clause-live : goal.outcome_in-requires-clause-live
outcome_in-requires-clause-live g c = c.in_ok-root.ensures.ends.2.holds.live

pub outcome_in-requires-clause-obeys : goal.outcome_in-requires-clause-obeys
outcome_in-requires-clause-obeys g c = c.in_ok-root.ensures.ends.2.holds.rules

pub returns-in_err-outcome : goal.returns-in_err-outcome
returns-in_err-outcome g c =
    not_ran g.R.Read.remaining c.args.reader.now c.load.new.reader c.args.path.now c.args.arguments.now c.args.limit c.outcome_in.result c.in_err-outcome.field-0.0 c.from_residual-in_err-outcome.result
    c.in_err-outcome.was c.from_residual-in_err-outcome.ensures.1
    (gave g.R.Read.remaining c.args.reader.now c.load.new.reader c.args.path.now c.args.arguments.now c.args.limit c.args.ctx.now c.load.new.ctx c.in_ok-root.root c.outcome_in.result c.in_ok-root.ensures.ends c.outcome_in.ensures)

pub returns : goal.returns
returns g c = gave g.R.Read.remaining c.args.reader.now c.load.new.reader c.args.path.now c.args.arguments.now c.args.limit c.args.ctx.now c.load.new.ctx c.in_ok-root.root _ c.in_ok-root.ensures.ends c.in_ok-outcome.ensures
