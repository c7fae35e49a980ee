use Rattle.std.proofs.Common.{rules, arith}
use Rattle.ir_graph.proofs.Numbers.{named_within, named_next}
use Rattle.ir_graph.proofs.numbering.nodes_at.Goals as goal

pub offset_bounds-nodes-id : goal.offset_bounds-nodes-id
offset_bounds-nodes-id g c = let h = named_within c.args.nodes.now c.args.ids.now c.requires.0 c.requires.1 c.loop-id.id-index 0 c.loop-id-test.true in omega (arith, h)

pub bounds-nodes-id : goal.bounds-nodes-id
bounds-nodes-id g c = named_within c.args.nodes.now c.args.ids.now c.requires.0 c.requires.1 c.loop-id.id-index 0 c.loop-id-test.true

pub loop-id-preserved : goal.loop-id-preserved
loop-id-preserved g c = named_next c.args.nodes.now c.args.ids.now c.loop-id.row.items _ c.loop-id.id-index _ c.loop-id-test.true (named_within c.args.nodes.now c.args.ids.now c.requires.0 c.requires.1 c.loop-id.id-index 0 c.loop-id-test.true) (search rules) c.in_ok-push.ensures.items c.loop-id.invariant
