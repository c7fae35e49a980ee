use Rattle.std.proofs.Common.{refl}
use Rattle.irkit_driver.proofs.ExecutionLemmas.{unreported, half_reported}
use Rattle.irkit_driver.proofs.executing.execute_in.Goals as goal

pub returns-in_err-outcome : goal.returns-in_err-outcome
returns-in_err-outcome g c =
    unreported g.R.Read.remaining g.W.Write.contents c.args.reader.now c.outcome_of.new.reader c.args.writer.now c.args.writer.now c.args.path.now c.args.arguments.now c.args.limit c.outcome_of.result c.in_err-outcome.field-0.0
    c.from_residual.result c.in_err-outcome.was c.from_residual.ensures.1 c.outcome_of.ensures refl

pub returns-in_err-report : goal.returns-in_err-report
returns-in_err-report g c =
    half_reported g.R.Read.remaining g.W.Write.contents c.args.reader.now c.outcome_of.new.reader c.args.writer.now c.report.new.writer c.args.path.now c.args.arguments.now c.args.limit c.in_ok-outcome.outcome c.report.result
    c.in_err-report.field-0.0 c.from_residual-in_err-report.result c.in_err-report.was c.from_residual-in_err-report.ensures.1 c.in_ok-outcome.ensures c.report.ensures

pub returns : goal.returns
returns g c = (c.in_ok-outcome.ensures, c.in_ok-report.ensures)
