use Rattle.std.proofs.Common.{◌∙◌}
use Rattle.opt_rows.proofs.DeadCandidates.{columns_may_go}
use Rattle.opt_rows.proofs.dead_candidates.Candidates.may_go.Goals as goal

pub returns : goal.returns
returns c = let i = c.self.inside in
    c.deref.ensures.value ∙ columns_may_go i.may_go.items i.is_inside.items i.around.items i.ends.items i.operands.items c.self.invariant c.args.self.now c.self.view_is
