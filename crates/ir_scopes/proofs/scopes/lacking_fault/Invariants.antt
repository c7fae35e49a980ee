use Rattle.std.proofs.Common.{take}
use Rattle.ir_tokens.specs.Faults.{IsNamed}
use Rattle.ir_scopes.specs.Scopes.{EndsAmong}
use Rattle.ir_scopes.proofs.scopes.lacking_fault.Given as goal

abbrev pub invariant-loop-closing : goal.invariant-loop-closing
invariant-loop-closing l = IsNamed (EndsAmong l.lacking (take l.closing-index l.closings)) l.fault
