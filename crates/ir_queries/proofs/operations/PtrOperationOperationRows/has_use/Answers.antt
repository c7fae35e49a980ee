use Rattle.std.proofs.Common.{◌↔◌, IsTrue, subst}
use Rattle.ir_queries.specs.Results.{HasUsedResult}
use Rattle.ir_queries.proofs.operations.PtrOperationOperationRows.has_use.Goals as goal

pub returns : goal.returns
returns g c = subst (λ p. IsTrue c.has_used_result.result ↔ HasUsedResult p c.args.self) c.program.ensures c.has_used_result.ensures
