use Rattle.std.proofs.Common.{refl}
use Rattle.digraph.proofs.Marking.{one_taken}
use Rattle.digraph.proofs.worklist.Worklist.take.Goals as goal

pub returns-clause-some : goal.returns-clause-some
returns-clause-some c = one_taken _ _ c.pop.result c.pop.ensures.items refl
