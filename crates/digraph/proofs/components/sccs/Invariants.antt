use Rattle.std.specs.Prelude.{vec_len}
use Rattle.digraph.proofs.Parting.{Parted}
use Rattle.digraph.proofs.components.sccs.Given as goal

abbrev pub invariant-parts : goal.invariant-parts
invariant-parts l = Parted l.graph l.work l.orders.post.items l.parts.items

abbrev pub decreases-parts : goal.decreases-parts
decreases-parts l = vec_len l.orders.post
