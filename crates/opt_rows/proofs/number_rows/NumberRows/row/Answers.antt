use Rattle.std.proofs.Common.{rules, ◌≡◌, ◌≤◌, ℕ, List, length, get_or, ap, arith}
use Rattle.opt_rows.proofs.Rows.{as_many, row_bounds, row_found}
use Rattle.opt_rows.proofs.number_rows.NumberRows.row.Goals as goal

pub start_of-start-requires : goal.start_of-start-requires
start_of-start-requires c =
    let m = as_many 0 c.self.inside.ends.items c.self.inside.numbers.items in
    let v = ap (λ (rs : List (List ℕ)). length rs) c.self.view_is in
    let h = c.requires in
    let d = ap (λ (xs : List ℕ). length xs) c.deref.ensures.value in omega (arith, m, v, h, d)

pub index-requires : goal.index-requires
index-requires c =
    let m = as_many 0 c.self.inside.ends.items c.self.inside.numbers.items in
    let v = ap (λ (rs : List (List ℕ)). length rs) c.self.view_is in
    let h = c.requires in
    let d = ap (λ (xs : List ℕ). length xs) c.deref.ensures.value in
    let l = c.deref.ensures.len in omega (arith, m, v, h, d, l)

pub offset_bounds-deref-start : goal.offset_bounds-deref-start
offset_bounds-deref-start c =
    let e : c.index.result.now ≡ get_or c.self.inside.ends.items c.args.index c.index.result.now = search rules in
    let b = row_bounds c.args.self.now c.self.inside.ends.items c.deref.result.now c.self.inside.numbers.items c.args.index c.start_of-start.result c.index.result.now c.self.view_is c.requires c.self.invariant c.deref.ensures.value c.start_of-start.ensures e in
    let l = b.0 in let m = b.1 in let d = ap (λ (xs : List ℕ). length xs) c.deref-2.ensures.value in let t = c.deref-2.type_inv.1 in omega (arith, l, m, d, t)

pub slice_bounds-result-count : goal.slice_bounds-result-count
slice_bounds-result-count c =
    let e : c.index.result.now ≡ get_or c.self.inside.ends.items c.args.index c.index.result.now = search rules in
    (row_bounds c.args.self.now c.self.inside.ends.items c.deref.result.now c.self.inside.numbers.items c.args.index c.start_of-start.result c.index.result.now c.self.view_is c.requires c.self.invariant c.deref.ensures.value c.start_of-start.ensures e).0

pub slice_bounds-result-start : goal.slice_bounds-result-start
slice_bounds-result-start c =
    let e : c.index.result.now ≡ get_or c.self.inside.ends.items c.args.index c.index.result.now = search rules in
    let b = row_bounds c.args.self.now c.self.inside.ends.items c.deref.result.now c.self.inside.numbers.items c.args.index c.start_of-start.result c.index.result.now c.self.view_is c.requires c.self.invariant c.deref.ensures.value c.start_of-start.ensures e in
    let d = ap (λ (xs : List ℕ). length xs) c.deref-2.ensures.value in
    let l : c.start_of-start.result ≤ length c.deref-2.result.now = (let x = b.0 in let y = b.1 in omega (arith, x, y, d)) in search rules

pub slice_bounds-result-end : goal.slice_bounds-result-end
slice_bounds-result-end c =
    let e : c.index.result.now ≡ get_or c.self.inside.ends.items c.args.index c.index.result.now = search rules in
    let b = row_bounds c.args.self.now c.self.inside.ends.items c.deref.result.now c.self.inside.numbers.items c.args.index c.start_of-start.result c.index.result.now c.self.view_is c.requires c.self.invariant c.deref.ensures.value c.start_of-start.ensures e in
    let d = ap (λ (xs : List ℕ). length xs) c.deref-2.ensures.value in
    let l : c.start_of-start.result ≤ c.index.result.now = b.0 in
    let m : c.index.result.now ≤ length c.deref-2.result.now = (let y = b.1 in omega (arith, y, d)) in search rules

pub returns : goal.returns
returns c =
    let e : c.index.result.now ≡ get_or c.self.inside.ends.items c.args.index c.index.result.now = search rules in
    row_found c.args.self.now c.self.inside.ends.items c.deref.result.now c.self.inside.numbers.items c.deref-2.result.now c.args.index c.start_of-start.result c.index.result.now c.self.view_is c.requires c.deref.ensures.value c.start_of-start.ensures e c.deref-2.ensures.value
