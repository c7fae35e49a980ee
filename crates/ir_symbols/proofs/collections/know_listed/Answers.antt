use Rattle.std.proofs.Common.{◌≡◌, ℕ, Some, slice_get, subst}
use Rattle.ir_program.specs.Lists.{operations_in, StandsInBlock}
use Rattle.ir_symbols.proofs.collections.know_listed.Goals as goal

pub returns : goal.returns
returns g c = subst (λ p. (block : _) (k : ℕ) (q : _) → slice_get (operations_in p block) k ≡ Some q → StandsInBlock p q block) c.program.ensures c.know_lists.ensures.operations
