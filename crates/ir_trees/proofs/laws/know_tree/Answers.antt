use Rattle.ir_trees.proofs.Grown.{grown_tree}
use Rattle.ir_trees.proofs.laws.know_tree.Goals as goal

pub returns : goal.returns
returns g c = grown_tree c.args.program.now c.args.op c.requires _ c.nodes_inside-inside.ensures.order c.nodes_inside-inside.ensures.inside.live
