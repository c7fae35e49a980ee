use Rattle.std.proofs.Common.{rules, ◌<◌}
use Rattle.builtin_ifaces.proofs.SegmentLemmas.{segment_there, within_count}
use Rattle.symbol_ifaces.proofs.segment_types.has_segment.Goals as goal

pub returns-in-Ok : goal.returns-in-Ok
returns-in-Ok g c = (
  λ t.
      let below : c.args.s < c.num_segments.result = search rules in
      let there = segment_there g.D.BuiltinDialect.held_sizes g.D.BuiltinDialect.segment_count c.args.ctx.now.program c.args.op c.args.s c.in-Ok.ensures (rw c.num_segments.ensures below) in (_, _, there),
  λ there.
      let below : c.args.s < c.num_segments.result = within_count g.D.BuiltinDialect.held_sizes g.D.BuiltinDialect.segment_count c.args.ctx.now.program c.args.op c.args.s there.0 there.1 c.num_segments.result there.2 c.num_segments.ensures in search rules,
)
