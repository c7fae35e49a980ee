use Rattle.std.proofs.Common.{rules, ◌≡◌, ◌<◌, ◌+◌, List, false, length, take, map, refl, sym, ap, ◌∙◌, subst, arith}
use Rattle.std.proofs.lemmas.List.{take_all}
use Rattle.opt_rows.specs.OperationRows.{Row, row_numbered}
use Rattle.opt_rows.specs.FactsTaken.{untaken}
use Rattle.opt_rows.proofs.OperationLists.{row_read}
use Rattle.opt_rows.proofs.Lists.{next_of, resized}
use Rattle.opt_rows.proofs.FactsTaking.{IsUntaken, untaken_begins, untaken_more}
use Rattle.opt_rows.proofs.facts_taken.Taken.new.Goals as goal

pub loop-number-init : goal.loop-number-init
loop-number-init c = untaken_begins _ _ c.in_ok-ends.ensures.items (search rules)

pub loop-number-preserved : goal.loop-number-preserved
loop-number-preserved c =
    let rows = c.args.rows.now in let n = c.loop-number.number in
    let h : n < length rows = omega (arith, c.loop-number-test.true, c.len-number-end.ensures) in
    let r = row_numbered rows n in
    let o : c.len-in-loop-number.result ≡ length c.loop-number.marks.items = search rules in
    let z = c.saturating_add-end.ensures in let y = c.in_ok-resize.ensures.len in let x = c.resize.new.self.small in
    let s : c.saturating_add-end.result ≡ length c.loop-number.marks.items + length r.edges = omega (arith, z, y, x, o, c.edge_count.ensures) in
    let u = resized c.loop-number.marks.items c.resize.new.self.items c.saturating_add-end.result (length c.loop-number.marks.items) (length r.edges) _ false c.in_ok-resize.ensures.items s refl (search rules) in
    let l : c.len-in-loop-number-2.result ≡ length c.resize.new.self.items = search rules in
    subst (λ (rs : List Row). IsUntaken rs c.push.new.self.items c.resize.new.self.items) (sym (next_of rows n r h (row_read rows n h)))
    (untaken_more (take n rows) r c.loop-number.ends.items c.push.new.self.items c.loop-number.marks.items c.resize.new.self.items c.len-in-loop-number-2.result
    u c.in_ok-push.ensures.items l c.loop-number.invariant)

pub returns : goal.returns
returns c = c.loop-number.invariant.rows_are ∙ ap (map untaken) (take_all c.loop-number.number c.args.rows.now (omega (arith, c.loop-number-test.false, c.len-number-end.ensures)))
