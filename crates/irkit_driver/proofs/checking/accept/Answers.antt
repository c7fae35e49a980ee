use Rattle.irkit_running.proofs.EndLemmas.{unaccepted, unloaded}
use Rattle.irkit_driver.proofs.checking.accept.Goals as goal

pub returns-in_err-load : goal.returns-in_err-load
returns-in_err-load g c =
    let remaining = g.R.Read.remaining in
    unaccepted remaining c.args.reader.now c.load.new.reader c.in_err-load.field-0.0 c.from_residual.result c.from_residual.ensures.1
    (unloaded remaining c.args.reader.now c.load.new.reader c.args.ctx.now c.load.new.ctx c.load.result c.in_err-load.field-0.0
    c.in_err-load.was c.load.ensures.ends c.requires.counter)

pub returns : goal.returns
returns g c =
    let ends = c.in_ok-load.ensures.ends in
    (ends.0, ends.1, (c.load.new.ctx, c.in_ok-load.field-0, ends.2.accepted))
