use Rattle.kit_verifier.specs.Callees.{callable_of}
use Rattle.kit_verifier.specs.contracts.callees.CalleePartialEq.TheImpl.{eq-value}
use Rattle.kit_verifier.proofs.Keys.{callee_own, callee_same}
use Rattle.kit_verifier.proofs.Sets.{gained}
use Rattle.kit_verifier.proofs.callees.add_callee.Goals as goal

pub returns : goal.returns
returns c = gained eq-value.it callable_of callee_same callee_own c.args.callees.now.keys c.insert.new.self.keys c.args.callee c.in_ok-insert.ensures.keys
