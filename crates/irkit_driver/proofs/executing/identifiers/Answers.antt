use Rattle.std.proofs.Common.{◌∙◌, Err, ap}
use Rattle.irkit_driver.proofs.ExecutionLemmas.{not_names}
use Rattle.irkit_driver.proofs.executing.identifiers.Goals as goal

pub returns-in-Err-Invalid : goal.returns-in-Err-Invalid
returns-in-Err-Invalid c = not_names c.args.texts.now c.loop-text.text-index _ c.loop-text-test.true (c.try_new.ensures.invalid.0 (c.in-Err-Invalid.is ∙ ap Err c.in-Err-Invalid.field-0-is))
