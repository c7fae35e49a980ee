use Rattle.kit_checks.specs.World.{world_of}
use Rattle.kit_checks.proofs.Combined.{part_fails, last_decides}
use Rattle.kit_checks.proofs.Handed.{edges_both, edges_hand_on, edges_stay}
use Rattle.kit_checks.proofs.edges.edges_fit.Goals as goal

pub returns-then-not-edges_stay : goal.returns-then-not-edges_stay
returns-then-not-edges_stay c s at =
    part_fails c.edges_stay.result c.if-not-edges_stay.true (c.edges_stay.ensures s at) (edges_stay c.args.ctx.now.program c.args.root c.args.op s at (world_of c.args.ctx.now))

pub returns : goal.returns
returns c s at =
    last_decides c.edges_hand_on.result (c.edges_hand_on.ensures s.op at.tree)
    (edges_both c.args.ctx.now.program c.args.root c.args.op s at (world_of c.args.ctx.now) ((c.edges_stay.ensures s at).0 c.if-not-edges_stay.false))
    (edges_hand_on c.args.ctx.now.program c.args.root c.args.op s at (world_of c.args.ctx.now))
