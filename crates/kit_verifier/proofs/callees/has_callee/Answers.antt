use Rattle.kit_verifier.specs.Callees.{callable_of}
use Rattle.kit_verifier.specs.contracts.callees.CalleePartialEq.TheImpl.{eq-value}
use Rattle.kit_verifier.proofs.Keys.{callee_own, callee_same}
use Rattle.kit_verifier.proofs.Sets.{tells}
use Rattle.kit_verifier.proofs.callees.has_callee.Goals as goal

pub returns : goal.returns
returns c = tells eq-value.it callable_of callee_same callee_own c.args.callees.now.keys c.args.callee c.contains.result c.contains.ensures
