use Rattle.kit_verifier.proofs.Verdicts.{tested}
use Rattle.kit_verifier.proofs.verify.first_broken.Goals as goal

pub first_local_fault-requires : goal.first_local_fault-requires
first_local_fault-requires c = record { tested = tested c.args.rule c.in_default.not-ModuleHolds c.in_default.not-CallsFit; root = c.requires }
