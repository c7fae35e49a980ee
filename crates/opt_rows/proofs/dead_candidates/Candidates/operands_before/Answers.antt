use Rattle.std.proofs.Common.{rules, ◌<◌, ◌-◌, length, arith}
use Rattle.opt_rows.proofs.DeadCandidates.{columns_len, columns_last}
use Rattle.opt_rows.proofs.dead_candidates.Candidates.operands_before.Goals as goal

pub index-requires : goal.index-requires
index-requires c =
    let i = c.self.inside in
    let l = columns_len i.may_go.items i.is_inside.items i.around.items i.ends.items i.operands.items c.self.invariant c.args.self.now c.self.view_is in
    let r = c.self.invariant.rows in let h = c.requires in let n = c.if-number-eq0.false in
    let k : c.args.number - 1 < length i.ends.items = omega (arith, l, r, h, n) in search rules

pub returns-else-number-eq0 : goal.returns-else-number-eq0
returns-else-number-eq0 c =
    let i = c.self.inside in let n = c.if-number-eq0.false in
    columns_last i.may_go.items i.is_inside.items i.around.items i.ends.items i.operands.items c.self.invariant c.args.self.now c.self.view_is c.args.number (c.args.number - 1) c.index.result.now c.requires (omega (arith, n)) (omega arith) c.index.ensures
