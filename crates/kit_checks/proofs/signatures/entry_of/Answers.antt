use Rattle.std.proofs.Common.{◌∙◌, sym}
use Rattle.kit_checks.proofs.Entries.{entry_is, no_region}
use Rattle.kit_checks.proofs.signatures.entry_of.Goals as goal

pub returns-in-Some-clause-entry : goal.returns-in-Some-clause-entry
returns-in-Some-clause-entry g c u s = entry_is c.args.program.now c.args.op u s c.in-Some.region (sym c.region.ensures.region ∙ c.in-Some.is) c.first_block.result c.first_block.ensures.first

pub returns-in-None-clause-entry : goal.returns-in-None-clause-entry
returns-in-None-clause-entry g c u s = no_region c.args.program.now c.args.op u s (sym c.region.ensures.region ∙ c.in-None.is)
