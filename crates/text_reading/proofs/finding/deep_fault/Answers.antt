use Rattle.std.proofs.Common.{Some, None}
use Rattle.ir_scopes.proofs.Depths.{deep_named}
use Rattle.text_reading.proofs.finding.deep_fault.Goals as goal

pub returns-in_err-token : goal.returns-in_err-token
returns-in_err-token c first = rw c.from_residual.ensures (deep_named c.args.reading.now.events.items None (rw c.in_err-token.was at first))

pub returns : goal.returns
returns c first = deep_named c.args.reading.now.events.items (Some c.in_ok-token.token) (rw c.in_ok-token.was at first)
