use Rattle.builtin_ifaces.proofs.SegmentLemmas.{segment_there}
use Rattle.builtin_ifaces.proofs.segments.OperandSegmentInterface.segment_range.Goals as goal

pub unreachable-requires : goal.unreachable-requires
unreachable-requires g c =
    let there = segment_there g.D.BuiltinDialect.held_sizes g.D.BuiltinDialect.segment_count c.args.ctx.now.program c.args.op c.args.s c.requires.rule c.requires.within in
    cc (c.find_segment.ensures.only _ _ there, c.in-None.is)
