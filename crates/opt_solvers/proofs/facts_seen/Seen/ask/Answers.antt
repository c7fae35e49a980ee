use Rattle.std.proofs.Common.{rules, ◌≡◌, ◌≤◌, Some, length, get_or, refl, sym, ap, ◌∙◌, arith}
use Rattle.opt_rows.specs.Rows.{row_at}
use Rattle.opt_solvers.specs.FactsSeen.{seen_facts}
use Rattle.opt_rows.proofs.Rows.{as_many, read_there, row_bounds, row_found}
use Rattle.opt_solvers.proofs.FactsSeeing.{asked_all, asked_none, constants_len, row_constants, row_undetermined}
use Rattle.opt_solvers.proofs.facts_seen.Seen.ask.Goals as goal

pub returns-then-index-gt0 : goal.returns-then-index-gt0
returns-then-index-gt0 g c =
    let i = c.self.inside in
    let u = row_undetermined c.args.self.now i.ends.items (seen_facts i.found.items i.constants.items) i.constants.items i.missing.items c.args.row c.self.view_is c.self.invariant.1 c.requires in
    let m = read_there i.missing.items c.args.row c.index.result.now u.0 c.index.ensures in
    asked_none (row_at c.args.self.now c.args.row) (λ e. let h = c.if-index-gt0.true in let n = u.1 in absurd (omega (arith, m, h, n, e)))

pub start_of-start-requires : goal.start_of-start-requires
start_of-start-requires g c =
    let m = as_many 0 c.self.inside.ends.items (seen_facts c.self.inside.found.items c.self.inside.constants.items) in let v = ap length c.self.view_is in let h = c.requires in
    let d = ap length c.deref.ensures.value in omega (arith, m, v, h, d)

pub index-requires-2 : goal.index-requires-2
index-requires-2 g c =
    let m = as_many 0 c.self.inside.ends.items (seen_facts c.self.inside.found.items c.self.inside.constants.items) in let v = ap length c.self.view_is in let h = c.requires in
    let d = ap length c.deref.ensures.value in let l = c.deref.ensures.len in omega (arith, m, v, h, d, l)

pub offset_bounds-deref-start : goal.offset_bounds-deref-start
offset_bounds-deref-start g c =
    let e : c.index-2.result.now ≡ get_or c.self.inside.ends.items c.args.row c.index-2.result.now = search rules in
    let b = row_bounds c.args.self.now c.self.inside.ends.items c.deref.result.now (seen_facts c.self.inside.found.items c.self.inside.constants.items) c.args.row c.start_of-start.result c.index-2.result.now c.self.view_is c.requires c.self.invariant.1.are_ends c.deref.ensures.value c.start_of-start.ensures e in
    let m = constants_len c.self.inside.ends.items (seen_facts c.self.inside.found.items c.self.inside.constants.items) c.self.inside.constants.items c.self.inside.missing.items c.self.invariant.1 in
    let d = ap length c.deref-2.ensures.value in
    let l : c.start_of-start.result ≤ length c.deref-2.result.now = (let x = b.0 in let y = b.1 in omega (arith, x, y, m, d)) in search rules

pub slice_bounds-result-count : goal.slice_bounds-result-count
slice_bounds-result-count g c =
    let e : c.index-2.result.now ≡ get_or c.self.inside.ends.items c.args.row c.index-2.result.now = search rules in
    (row_bounds c.args.self.now c.self.inside.ends.items c.deref.result.now (seen_facts c.self.inside.found.items c.self.inside.constants.items) c.args.row c.start_of-start.result c.index-2.result.now c.self.view_is c.requires c.self.invariant.1.are_ends c.deref.ensures.value c.start_of-start.ensures e).0

pub slice_bounds-result-start : goal.slice_bounds-result-start
slice_bounds-result-start g c =
    let e : c.index-2.result.now ≡ get_or c.self.inside.ends.items c.args.row c.index-2.result.now = search rules in
    let b = row_bounds c.args.self.now c.self.inside.ends.items c.deref.result.now (seen_facts c.self.inside.found.items c.self.inside.constants.items) c.args.row c.start_of-start.result c.index-2.result.now c.self.view_is c.requires c.self.invariant.1.are_ends c.deref.ensures.value c.start_of-start.ensures e in
    let m = constants_len c.self.inside.ends.items (seen_facts c.self.inside.found.items c.self.inside.constants.items) c.self.inside.constants.items c.self.inside.missing.items c.self.invariant.1 in
    let d = ap length c.deref-2.ensures.value in
    let l : c.start_of-start.result ≤ length c.deref-2.result.now = (let x = b.0 in let y = b.1 in omega (arith, x, y, m, d)) in search rules

pub slice_bounds-result-end : goal.slice_bounds-result-end
slice_bounds-result-end g c =
    let e : c.index-2.result.now ≡ get_or c.self.inside.ends.items c.args.row c.index-2.result.now = search rules in
    let b = row_bounds c.args.self.now c.self.inside.ends.items c.deref.result.now (seen_facts c.self.inside.found.items c.self.inside.constants.items) c.args.row c.start_of-start.result c.index-2.result.now c.self.view_is c.requires c.self.invariant.1.are_ends c.deref.ensures.value c.start_of-start.ensures e in
    let m = constants_len c.self.inside.ends.items (seen_facts c.self.inside.found.items c.self.inside.constants.items) c.self.inside.constants.items c.self.inside.missing.items c.self.invariant.1 in
    let d = ap length c.deref-2.ensures.value in
    let l : c.start_of-start.result ≤ c.index-2.result.now = b.0 in
    let n : c.index-2.result.now ≤ length c.deref-2.result.now = (let y = b.1 in omega (arith, y, m, d)) in search rules

pub returns : goal.returns
returns g c =
    let i = c.self.inside in
    let e : c.index-2.result.now ≡ get_or c.self.inside.ends.items c.args.row c.index-2.result.now = search rules in
    let u = row_undetermined c.args.self.now i.ends.items (seen_facts i.found.items i.constants.items) i.constants.items i.missing.items c.args.row c.self.view_is c.self.invariant.1 c.requires in
    let m = read_there i.missing.items c.args.row c.index.result.now u.0 c.index.ensures in
    let f = row_found c.args.self.now i.ends.items c.deref.result.now (seen_facts i.found.items i.constants.items) (seen_facts i.found.items i.constants.items) c.args.row c.start_of-start.result c.index-2.result.now c.self.view_is c.requires c.deref.ensures.value c.start_of-start.ensures e refl in
    asked_all (row_at c.args.self.now c.args.row) (let z = c.if-index-gt0.false in let n = u.1 in omega (arith, m, z, n))
    ∙ ap (λ xs. Some xs) (sym (row_constants c.args.self.now i.ends.items (seen_facts i.found.items i.constants.items) i.constants.items c.deref-2.result.now c.args.row c.start_of-start.result c.index-2.result.now c.self.invariant.1.are_constants c.deref-2.ensures.value f))
