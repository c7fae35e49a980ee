use Rattle.std.proofs.Common.{rules, ℕ, Bool, ◌<◌, ◌+◌, List, length, ap, arith}
use Rattle.opt_rows.proofs.Rows.{as_many, stands_at}
use Rattle.opt_rows.proofs.FactsTaking.{mark_read}
use Rattle.opt_rows.proofs.facts_taken.Taken.is_taken.Goals as goal

pub start_of-requires : goal.start_of-requires
start_of-requires c =
    let m = as_many 0 c.self.inside.ends.items c.self.inside.marks.items in let v = ap (λ (rs : List (List Bool)). length rs) c.self.view_is in let h = c.requires.row in
    let d = ap (λ (xs : List ℕ). length xs) c.deref.ensures.value in omega (arith, m, v, h, d)

pub overflow_add-place : goal.overflow_add-place
overflow_add-place c =
    let s = stands_at c.args.self.now c.self.inside.ends.items c.deref.result.now c.self.inside.marks.items c.args.row c.args.edge c.start_of.result c.self.view_is c.self.invariant c.requires.row c.requires.edge c.deref.ensures.value c.start_of.ensures in
    let h : c.start_of.result + c.args.edge < length c.self.inside.marks.items = s.inside in search rules

pub index-requires : goal.index-requires
index-requires c =
    let s = stands_at c.args.self.now c.self.inside.ends.items c.deref.result.now c.self.inside.marks.items c.args.row c.args.edge c.start_of.result c.self.view_is c.self.invariant c.requires.row c.requires.edge c.deref.ensures.value c.start_of.ensures in
    let h : c.start_of.result + c.args.edge < length c.self.inside.marks.items = s.inside in search rules

pub returns : goal.returns
returns c =
    let s = stands_at c.args.self.now c.self.inside.ends.items c.deref.result.now c.self.inside.marks.items c.args.row c.args.edge c.start_of.result c.self.view_is c.self.invariant c.requires.row c.requires.edge c.deref.ensures.value c.start_of.ensures in
    mark_read c.args.self.now c.self.inside.ends.items c.self.inside.marks.items c.args.row c.args.edge c.start_of.result c.index.result.now c.self.view_is c.self.invariant s c.index.ensures
