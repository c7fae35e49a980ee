use Rattle.opt_inside.proofs.ReachLemmas.Runs.{judged}
use Rattle.opt_inside.proofs.reach.fates.judge.Goals as goal

pub unreachable-requires : goal.unreachable-requires
unreachable-requires g c = c.in_default.ensures.parent c.requires.linked.0 c.requires.linked.1

pub returns : goal.returns
returns g c = judged g.D.Meanings.meaning c.args.program.now c.args.start c.args.inside.now.blocks.keys c.args.fates.now c.args.block c.args.is_reached c.fate_by.result
    c.in-Some.region c.in-Some.ensures.parent c.parent_operation-owner.result c.parent_operation-owner.ensures.stands c.is_visited-visited.result c.is_visited-visited.ensures
    c.payload.result.now c.payload.ensures c.region_index.result c.region_index.ensures c.has_ssa_dominance-is_ssa.result c.has_ssa_dominance-is_ssa.ensures
    c.is_first-is_entry.result c.is_first-is_entry.ensures c.fate_by.ensures
