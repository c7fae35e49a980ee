use Rattle.std.proofs.Common.{rules, ◌<◌, ◌+◌, ◌-◌, List, length, ap, ◌∙◌, arith}
use Rattle.std.proofs.Math.ListN.{set}
use Rattle.opt_rows.specs.declared.known.Known.{Known}
use Rattle.opt_solvers.specs.FactsSeen.{seen_facts}
use Rattle.opt_rows.specs.Rows.{rows_from, row_at}
use Rattle.opt_rows.proofs.Rows.{as_many, read_there, stands_at}
use Rattle.opt_solvers.proofs.FactsSeeing.{one_at_most, row_missing, place_constant, place_found, lacked_enough, missing_small, rows_saw, facts_saw, saw_all, facts_len}
use Rattle.opt_solvers.proofs.facts_seen.Seen.see.Goals as goal

pub start_of-requires : goal.start_of-requires
start_of-requires g c =
    let m = as_many 0 c.self.inside.ends.items (seen_facts c.self.inside.found.items c.self.inside.constants.items) in let v = ap length c.self.view_is in let h = c.requires.row in
    let d = ap length c.deref.ensures.value in omega (arith, m, v, h, d)

pub overflow_add-place : goal.overflow_add-place
overflow_add-place g c =
    let i = c.self.inside in let n = seen_facts i.found.items i.constants.items in
    let s = stands_at c.args.self.now i.ends.items c.deref.result.now n c.args.row c.args.index c.start_of.result c.self.view_is c.self.invariant.1.are_ends c.requires.row c.requires.index c.deref.ensures.value c.start_of.ensures in
    let h : c.start_of.result + c.args.index < length i.found.items = place_found i.ends.items i.found.items i.constants.items i.missing.items c.args.row c.args.index c.start_of.result c.self.invariant.0 c.self.invariant.1 s in search rules

pub index-requires : goal.index-requires
index-requires g c =
    let i = c.self.inside in let n = seen_facts i.found.items i.constants.items in
    let s = stands_at c.args.self.now i.ends.items c.deref.result.now n c.args.row c.args.index c.start_of.result c.self.view_is c.self.invariant.1.are_ends c.requires.row c.requires.index c.deref.ensures.value c.start_of.ensures in
    let h : c.args.row < length i.missing.items = row_missing i.ends.items n i.constants.items i.missing.items c.args.row c.args.index c.start_of.result c.self.invariant.1 s in search rules

pub index-requires-2 : goal.index-requires-2
index-requires-2 g c =
    let i = c.self.inside in let n = seen_facts i.found.items i.constants.items in
    let s = stands_at c.args.self.now i.ends.items c.deref.result.now n c.args.row c.args.index c.start_of.result c.self.view_is c.self.invariant.1.are_ends c.requires.row c.requires.index c.deref.ensures.value c.start_of.ensures in
    let h : c.start_of.result + c.args.index < length i.found.items = place_found i.ends.items i.found.items i.constants.items i.missing.items c.args.row c.args.index c.start_of.result c.self.invariant.0 c.self.invariant.1 s in search rules

pub overflow_sub-index : goal.overflow_sub-index
overflow_sub-index g c =
    let i = c.self.inside in let n = seen_facts i.found.items i.constants.items in
    let s = stands_at c.args.self.now i.ends.items c.deref.result.now n c.args.row c.args.index c.start_of.result c.self.view_is c.self.invariant.1.are_ends c.requires.row c.requires.index c.deref.ensures.value c.start_of.ensures in
    let e = lacked_enough i.ends.items i.found.items i.constants.items i.missing.items c.args.row c.args.index c.start_of.result c.self.invariant.0 c.self.invariant.1 s c.index-2.result.now c.index-2.ensures in
    let m = read_there i.missing.items c.args.row c.index.result.now (row_missing i.ends.items n i.constants.items i.missing.items c.args.row c.args.index c.start_of.result c.self.invariant.1 s) c.index.ensures in
    let l = c.lacking.ensures in omega (arith, e, m, l)

pub overflow_add-index : goal.overflow_add-index
overflow_add-index g c =
    let i = c.self.inside in let n = seen_facts i.found.items i.constants.items in
    let s = stands_at c.args.self.now i.ends.items c.deref.result.now n c.args.row c.args.index c.start_of.result c.self.view_is c.self.invariant.1.are_ends c.requires.row c.requires.index c.deref.ensures.value c.start_of.ensures in
    let e = missing_small i.ends.items n i.constants.items i.missing.items c.args.row c.args.index c.start_of.result c.self.invariant.1 s in
    let m = read_there i.missing.items c.args.row c.index.result.now (row_missing i.ends.items n i.constants.items i.missing.items c.args.row c.args.index c.start_of.result c.self.invariant.1 s) c.index.ensures in
    let f = facts_len i.found.items i.constants.items c.self.invariant.0 in
    let o = one_at_most c.has_found-found.result in let l = c.lacking-2.ensures in let k = i.found.ok in let z = i.found.small in omega (arith, e, m, f, o, l, k, z)

pub index_mut-requires : goal.index_mut-requires
index_mut-requires g c =
    let i = c.self.inside in let n = seen_facts i.found.items i.constants.items in
    let s = stands_at c.args.self.now i.ends.items c.deref.result.now n c.args.row c.args.index c.start_of.result c.self.view_is c.self.invariant.1.are_ends c.requires.row c.requires.index c.deref.ensures.value c.start_of.ensures in
    let h : c.args.row < length i.missing.items = row_missing i.ends.items n i.constants.items i.missing.items c.args.row c.args.index c.start_of.result c.self.invariant.1 s in search rules

pub index_mut-requires-2 : goal.index_mut-requires-2
index_mut-requires-2 g c =
    let i = c.self.inside in let n = seen_facts i.found.items i.constants.items in
    let s = stands_at c.args.self.now i.ends.items c.deref.result.now n c.args.row c.args.index c.start_of.result c.self.view_is c.self.invariant.1.are_ends c.requires.row c.requires.index c.deref.ensures.value c.start_of.ensures in
    let h : c.start_of.result + c.args.index < length i.found.items = place_found i.ends.items i.found.items i.constants.items i.missing.items c.args.row c.args.index c.start_of.result c.self.invariant.0 c.self.invariant.1 s in search rules

pub index_mut-requires-3 : goal.index_mut-requires-3
index_mut-requires-3 g c =
    let i = c.self.inside in let n = seen_facts i.found.items i.constants.items in
    let s = stands_at c.args.self.now i.ends.items c.deref.result.now n c.args.row c.args.index c.start_of.result c.self.view_is c.self.invariant.1.are_ends c.requires.row c.requires.index c.deref.ensures.value c.start_of.ensures in
    let h : c.start_of.result + c.args.index < length i.constants.items = place_constant i.ends.items n i.constants.items i.missing.items c.args.row c.args.index c.start_of.result c.self.invariant.1 s in search rules

pub invariant_of-self : goal.invariant_of-self
invariant_of-self g c =
    let i = c.self.inside in let n = seen_facts i.found.items i.constants.items in
    let s = stands_at c.args.self.now i.ends.items c.deref.result.now n c.args.row c.args.index c.start_of.result c.self.view_is c.self.invariant.1.are_ends c.requires.row c.requires.index c.deref.ensures.value c.start_of.ensures in
    let e = lacked_enough i.ends.items i.found.items i.constants.items i.missing.items c.args.row c.args.index c.start_of.result c.self.invariant.0 c.self.invariant.1 s c.index-2.result.now c.index-2.ensures in
    let m = read_there i.missing.items c.args.row c.index.result.now (row_missing i.ends.items n i.constants.items i.missing.items c.args.row c.args.index c.start_of.result c.self.invariant.1 s) c.index.ensures in
    let l = c.lacking.ensures in let k = c.lacking-2.ensures in
    saw_all i.ends.items i.found.items i.constants.items i.missing.items c.args.row c.args.index c.start_of.result c.self.invariant.0 c.self.invariant.1 s (c.index.result.now - c.lacking.result + c.lacking-2.result) c.args.fact c.index-2.result.now c.has_found-found.result c.constant.result c.index-2.ensures c.has_found-found.ensures c.constant.ensures (omega (arith, e, m, l, k))

pub returns : goal.returns
returns g c =
    let i = c.self.inside in let n = seen_facts i.found.items i.constants.items in
    let s = stands_at c.args.self.now i.ends.items c.deref.result.now n c.args.row c.args.index c.start_of.result c.self.view_is c.self.invariant.1.are_ends c.requires.row c.requires.index c.deref.ensures.value c.start_of.ensures in
    ap (rows_from 0 i.ends.items) (facts_saw i.ends.items i.found.items i.constants.items i.missing.items c.args.row c.args.index c.start_of.result c.self.invariant.0 c.self.invariant.1 s c.args.fact c.has_found-found.result c.constant.result c.has_found-found.ensures c.constant.ensures)
    ∙ (rows_saw i.ends.items n i.constants.items i.missing.items c.args.row c.args.index c.start_of.result c.self.invariant.1 s c.args.fact
    ∙ ap (λ (rows : List (List (Known g.row.K.Denot))). set rows c.args.row (set (row_at rows c.args.row) c.args.index c.args.fact)) c.self.view_is)
