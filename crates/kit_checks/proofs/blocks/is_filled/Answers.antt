use Rattle.std.proofs.Common.{◌∙◌, sym}
use Rattle.kit_checks.proofs.Passed.{is_empty, is_filled}
use Rattle.kit_checks.proofs.blocks.is_filled.Goals as goal

pub returns-in-Some : goal.returns-in-Some
returns-in-Some g c = is_filled c.args.program.now c.args.block c.in-Some.field-0 (sym c.first_operation.ensures.first ∙ c.in-Some.is)

pub returns-in-None : goal.returns-in-None
returns-in-None g c = is_empty c.args.program.now c.args.block (sym c.first_operation.ensures.first ∙ c.in-None.is)
