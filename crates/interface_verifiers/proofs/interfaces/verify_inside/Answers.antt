use Rattle.std.proofs.Common.{refl}
use Rattle.interface_verifiers.proofs.interfaces.verify_inside.Goals as goal

pub returns-in-Ok-verify_edges-clause-exact : goal.returns-in-Ok-verify_edges-clause-exact
returns-in-Ok-verify_edges-clause-exact g c = rw c.in-RegionBranch.is (c.in-Ok-verify_edges.ensures.0 refl)
