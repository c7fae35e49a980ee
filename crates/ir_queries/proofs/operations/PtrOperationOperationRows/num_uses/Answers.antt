use Rattle.std.proofs.Common.{◌≡◌, ℕ, subst}
use Rattle.ir_queries.specs.Results.{IsResultUseCount}
use Rattle.ir_queries.proofs.operations.PtrOperationOperationRows.num_uses.Goals as goal

pub returns-clause-count : goal.returns-clause-count
returns-clause-count g c = subst (λ p. IsResultUseCount p c.args.self c.count_of_result_uses.result) c.program.ensures c.count_of_result_uses.ensures.count

pub returns-clause-only : goal.returns-clause-only
returns-clause-only g c = subst (λ p. (n : ℕ) → IsResultUseCount p c.args.self n → n ≡ c.count_of_result_uses.result) c.program.ensures c.count_of_result_uses.ensures.only
