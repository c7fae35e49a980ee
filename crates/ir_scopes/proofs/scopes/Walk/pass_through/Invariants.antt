use Rattle.std.proofs.Common.{◌≡◌, ℕ, List, length, ◌-◌}
use Rattle.ir_scopes.specs.Orders.{AreNamedAlike, IsScopeWalk, IsWithinScope}
use Rattle.ir_scopes.proofs.scopes.Walk.pass_through.Given as goal

abbrev pub invariant-steps : goal.invariant-steps
invariant-steps l = record {
  walk : (all : List ℕ) → AreNamedAlike all l.names l.sites → IsScopeWalk all l.sites l.fn.self → IsScopeWalk all l.sites l.self;
  order : l.self.order.items ≡ l.fn.self.order.items;
  within : IsWithinScope l.fn.self l.last → IsWithinScope l.self l.last;
}

abbrev pub decreases-steps : goal.decreases-steps
decreases-steps l = length l.self.order.items - l.self.passed
