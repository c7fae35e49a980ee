use Rattle.interface_verifiers.proofs.FaultLemmas.{of_table}
use Rattle.interface_verifiers.proofs.interfaces.verify_interfaces.Goals as goal

pub returns-in-Ok-clause-exact : goal.returns-in-Ok-clause-exact
returns-in-Ok-clause-exact g c = rw (c.kind.ensures, ← c.interfaces.ensures) c.in-Ok.ensures.exact

pub returns-in-Err-clause-exact : goal.returns-in-Err-clause-exact
returns-in-Err-clause-exact g c = rw (c.kind.ensures, ← c.interfaces.ensures) c.in-Err.ensures.exact

pub returns-in-Err-clause-fault : goal.returns-in-Err-clause-fault
returns-in-Err-clause-fault g c =
    of_table _ _ _ _ _ c.kind.result c.kind.ensures c.interfaces.result.now c.interfaces.ensures c.in-Err.fault c.in-Err.ensures.fault
