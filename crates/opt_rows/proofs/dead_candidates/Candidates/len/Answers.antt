use Rattle.std.proofs.Common.{rules, ◌≡◌, ◌∙◌, length}
use Rattle.opt_rows.proofs.DeadCandidates.{columns_len}
use Rattle.opt_rows.proofs.dead_candidates.Candidates.len.Goals as goal

pub returns-clause-len : goal.returns-clause-len
returns-clause-len c =
    let i = c.self.inside in
    let l : c.len.result ≡ length i.may_go.items = search rules in
    l ∙ columns_len i.may_go.items i.is_inside.items i.around.items i.ends.items i.operands.items c.self.invariant c.args.self.now c.self.view_is
