use Rattle.std.proofs.Common.{refl}
use Rattle.interface_verifiers.proofs.Accepted.{all_conditions}
use Rattle.interface_verifiers.proofs.verifiers.InterfaceVerifiers.verify.Goals as goal

pub returns-in-Ok-clause-conditions : goal.returns-in-Ok-clause-conditions
returns-in-Ok-clause-conditions g c = all_conditions _ (λ kind i. g.met.D.BuiltinDialect.listed kind i) _ _ _ _ (c.in-Ok.ensures.accepted.0 refl)
