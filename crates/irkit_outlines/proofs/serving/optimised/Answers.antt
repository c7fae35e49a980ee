use Rattle.irkit_outlines.proofs.Passed.{refused_after}
use Rattle.irkit_outlines.proofs.serving.optimised.Goals as goal

pub returns-in_err-plain-clause-refused : goal.returns-in_err-plain-clause-refused
returns-in_err-plain-clause-refused c = λ bare fresh.
    refused_after c.args.passes.now c.args.text.now c.args.ctx.now c.load.new.ctx c.in_ok-module.module.root (c.in_ok-module.ensures.whole bare) fresh
    c.plain_after.result c.in_err-plain.field-0.0 c.from_residual-in_err-plain.result c.in_err-plain.was c.plain_after.ensures.full
    c.from_residual-in_err-plain.ensures.1
