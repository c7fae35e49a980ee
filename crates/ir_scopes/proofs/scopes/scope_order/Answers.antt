use Rattle.ir_scopes.proofs.ScopeOrders.{in_scope_order}
use Rattle.ir_scopes.proofs.scopes.scope_order.Goals as goal

pub returns : goal.returns
returns c = in_scope_order c.args.sites.now c.in_ok-order.order.items c.in_ok-order.ensures c.sort_unstable.new.self.items c.sort_unstable.ensures.permutation c.sort_unstable.ensures.sorted
