use Rattle.builtin_ifaces.proofs.segment_types.segment_passes.Goals as goal

pub returns-in-None : goal.returns-in-None
returns-in-None g c = λ rule. cc (c.find_segment.ensures.only rule.start rule.end rule.is, c.in-None.is)
