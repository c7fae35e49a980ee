use Rattle.ir_rereading.proofs.verdicts.Identifiers.{reading_spelt}
use Rattle.ir_rereading.proofs.laws.kept_names_are_identifiers.Goals as goal

pub returns : goal.returns
returns c = reading_spelt
