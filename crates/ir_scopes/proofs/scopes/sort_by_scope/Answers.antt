use Rattle.std.proofs.Common.{rules}
use Rattle.std.proofs.lemmas.List.Sorted.{answers_always, IsNonDecreasingBy-from_sort}
use Rattle.ir_scopes.specs.declared.sites.Site.{Site}
use Rattle.ir_scopes.proofs.scopes.sort_by_scope.Goals as goal

pub returns-clause-order : goal.returns-clause-order
returns-clause-order c = IsNonDecreasingBy-from_sort (λ (s : Site). s.scope) _ (c.sort_unstable_by_key.ensures.sorted (λ (s : Site). s.scope) (answers_always _ _ _ (λ f a r g h. search rules)))
