use Rattle.ir_grammar.proofs.Depths.{depth_acted}
use Rattle.ir_grammar.proofs.grammar.act.Goals as goal

pub returns-clause-depth : goal.returns-clause-depth
returns-clause-depth c n took h =
    rw c.in_ok-push.ensures.items (depth_acted c.args.deepest n c.args.events.now.items c.args.action c.args.depth.now _ took c.depth_at.ensures h)
