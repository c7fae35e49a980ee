use Rattle.std.proofs.Common.{rules, ◌≡◌, ◌≤◌, length, get_or, ap, arith}
use Rattle.opt_rows.proofs.DeadCandidates.{columns_len, columns_bounds, columns_operands}
use Rattle.opt_rows.proofs.dead_candidates.Candidates.operands.Goals as goal

pub start_of-start-requires : goal.start_of-start-requires
start_of-start-requires c =
    let i = c.self.inside in
    let l = columns_len i.may_go.items i.is_inside.items i.around.items i.ends.items i.operands.items c.self.invariant c.args.self.now c.self.view_is in
    let r = c.self.invariant.rows in let h = c.requires in let d = ap length c.deref.ensures.value in omega (arith, l, r, h, d)

pub index-requires : goal.index-requires
index-requires c =
    let i = c.self.inside in
    let l = columns_len i.may_go.items i.is_inside.items i.around.items i.ends.items i.operands.items c.self.invariant c.args.self.now c.self.view_is in
    let r = c.self.invariant.rows in let h = c.requires in let d = ap length c.deref.ensures.value in let m = c.deref.ensures.len in omega (arith, l, r, h, d, m)

pub offset_bounds-deref-start : goal.offset_bounds-deref-start
offset_bounds-deref-start c =
    let i = c.self.inside in
    let e : c.index.result.now ≡ get_or i.ends.items c.args.number c.index.result.now = search rules in
    let b = columns_bounds i.may_go.items i.is_inside.items i.around.items i.ends.items i.operands.items c.self.invariant c.args.self.now c.self.view_is c.args.number c.requires c.deref.result.now c.start_of-start.result c.index.result.now c.deref.ensures.value c.start_of-start.ensures e in
    let d = ap length c.deref-2.ensures.value in
    let l : c.start_of-start.result ≤ length c.deref-2.result.now = (let x = b.0 in let y = b.1 in omega (arith, x, y, d)) in search rules

pub slice_bounds-result-count : goal.slice_bounds-result-count
slice_bounds-result-count c =
    let i = c.self.inside in
    let e : c.index.result.now ≡ get_or i.ends.items c.args.number c.index.result.now = search rules in
    (columns_bounds i.may_go.items i.is_inside.items i.around.items i.ends.items i.operands.items c.self.invariant c.args.self.now c.self.view_is c.args.number c.requires c.deref.result.now c.start_of-start.result c.index.result.now c.deref.ensures.value c.start_of-start.ensures e).0

pub slice_bounds-result-start : goal.slice_bounds-result-start
slice_bounds-result-start c =
    let i = c.self.inside in
    let e : c.index.result.now ≡ get_or i.ends.items c.args.number c.index.result.now = search rules in
    let b = columns_bounds i.may_go.items i.is_inside.items i.around.items i.ends.items i.operands.items c.self.invariant c.args.self.now c.self.view_is c.args.number c.requires c.deref.result.now c.start_of-start.result c.index.result.now c.deref.ensures.value c.start_of-start.ensures e in
    let d = ap length c.deref-2.ensures.value in
    let l : c.start_of-start.result ≤ length c.deref-2.result.now = (let x = b.0 in let y = b.1 in omega (arith, x, y, d)) in search rules

pub slice_bounds-result-end : goal.slice_bounds-result-end
slice_bounds-result-end c =
    let i = c.self.inside in
    let e : c.index.result.now ≡ get_or i.ends.items c.args.number c.index.result.now = search rules in
    let b = columns_bounds i.may_go.items i.is_inside.items i.around.items i.ends.items i.operands.items c.self.invariant c.args.self.now c.self.view_is c.args.number c.requires c.deref.result.now c.start_of-start.result c.index.result.now c.deref.ensures.value c.start_of-start.ensures e in
    let d = ap length c.deref-2.ensures.value in
    let l : c.start_of-start.result ≤ c.index.result.now = b.0 in
    let m : c.index.result.now ≤ length c.deref-2.result.now = (let y = b.1 in omega (arith, y, d)) in search rules

pub returns : goal.returns
returns c =
    let i = c.self.inside in
    let e : c.index.result.now ≡ get_or i.ends.items c.args.number c.index.result.now = search rules in
    columns_operands i.may_go.items i.is_inside.items i.around.items i.ends.items i.operands.items c.self.invariant c.args.self.now c.self.view_is c.args.number c.requires c.deref.result.now c.start_of-start.result c.index.result.now c.deref.ensures.value c.start_of-start.ensures e c.deref-2.result.now c.deref-2.ensures.value
