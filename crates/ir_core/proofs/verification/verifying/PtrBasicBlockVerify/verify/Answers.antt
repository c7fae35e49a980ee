use Rattle.std.proofs.Common.{refl}
use Rattle.ir_core.proofs.verification.verifying.PtrBasicBlockVerify.verify.Goals as goal

pub returns-then-has_flaw : goal.returns-then-has_flaw
returns-then-has_flaw g c = record { unlinked = λ free. refl; linked = λ held. absurd (held (c.has_flaw.ensures.0 c.if-has_flaw.true)) }
