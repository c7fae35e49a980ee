use Rattle.opt_rows.proofs.DeadCandidates.{no_columns, no_candidates}
use Rattle.opt_rows.proofs.dead_candidates.Candidates.with_capacity.Goals as goal

pub invariant_of-result : goal.invariant_of-result
invariant_of-result c = no_columns _ _ _ _ _ c.in_ok-with_capacity.ensures.items c.in_ok-with_capacity-2.ensures.items c.in_ok-with_capacity-3.ensures.items c.in_ok-with_capacity-4.ensures.items c.in_ok-with_capacity-5.ensures.items

pub returns : goal.returns
returns c = no_candidates _ _ _ _ _ c.in_ok-with_capacity.ensures.items c.in_ok-with_capacity-2.ensures.items c.in_ok-with_capacity-3.ensures.items c.in_ok-with_capacity-4.ensures.items c.in_ok-with_capacity-5.ensures.items
