use Rattle.std.proofs.Common.{length}
use Rattle.kit_interpreter.proofs.lowering.form.Goals as goal

pub returns-in-Constant-clause-fits : goal.returns-in-Constant-clause-fits
returns-in-Constant-clause-fits c = c.constant.ensures.fits (length c.args.functions.now.handles.keys)

pub returns-in-CondBr-clause-fits : goal.returns-in-CondBr-clause-fits
returns-in-CondBr-clause-fits c = c.conditional.ensures.fits (length c.args.functions.now.handles.keys)
