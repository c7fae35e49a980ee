use Rattle.digraph.proofs.Unique.{one}
use Rattle.digraph.proofs.laws.one_order.Goals as goal

pub returns : goal.returns
returns c = λ next o p q ns. one next
