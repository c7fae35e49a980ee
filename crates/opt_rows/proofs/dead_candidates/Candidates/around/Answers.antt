use Rattle.std.proofs.Common.{rules, ◌∙◌, ◌<◌, length, ap, sym, arith}
use Rattle.opt_rows.specs.DeadCandidates.{around_if}
use Rattle.opt_rows.proofs.DeadCandidates.{columns_len, columns_around}
use Rattle.opt_rows.proofs.dead_candidates.Candidates.around.Goals as goal

pub index-requires : goal.index-requires
index-requires c =
    let i = c.self.inside in
    let l = columns_len i.may_go.items i.is_inside.items i.around.items i.ends.items i.operands.items c.self.invariant c.args.self.now c.self.view_is in
    let a = c.self.invariant.insides in let h = c.requires in
    let k : c.args.number < length i.is_inside.items = omega (arith, l, a, h) in search rules

pub index-requires-then-index : goal.index-requires-then-index
index-requires-then-index c =
    let i = c.self.inside in
    let l = columns_len i.may_go.items i.is_inside.items i.around.items i.ends.items i.operands.items c.self.invariant c.args.self.now c.self.view_is in
    let a = c.self.invariant.arounds in let h = c.requires in
    let k : c.args.number < length i.around.items = omega (arith, l, a, h) in search rules

pub returns-then-index : goal.returns-then-index
returns-then-index c =
    let i = c.self.inside in
    sym (ap (λ b. around_if b c.index-then-index.result.now) c.if-index.true)
    ∙ columns_around i.may_go.items i.is_inside.items i.around.items i.ends.items i.operands.items c.self.invariant c.args.self.now c.self.view_is c.args.number c.index.result.now c.index-then-index.result.now c.requires c.index.ensures (λ t. c.index-then-index.ensures)

pub returns-else-index : goal.returns-else-index
returns-else-index c =
    let i = c.self.inside in
    sym (ap (λ b. around_if b 0) c.if-index.false)
    ∙ columns_around i.may_go.items i.is_inside.items i.around.items i.ends.items i.operands.items c.self.invariant c.args.self.now c.self.view_is c.args.number c.index.result.now 0 c.requires c.index.ensures (λ t. let f = c.if-index.false in absurd (cc (sym f ∙ t)))
