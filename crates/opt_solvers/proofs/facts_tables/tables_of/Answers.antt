use Rattle.std.proofs.Common.{◌<◌, ◌∙◌, length, subst, arith}
use Rattle.std.proofs.lemmas.List.{take_all}
use Rattle.opt_rows.specs.OperationRows.{row_numbered}
use Rattle.opt_solvers.specs.FactsTables.{HoldRows}
use Rattle.opt_rows.proofs.OperationLists.{row_read}
use Rattle.opt_solvers.proofs.FactsTabling.{no_rows, rows_more, tables_end}
use Rattle.opt_rows.proofs.Lists.{emptied}
use Rattle.opt_solvers.proofs.facts_tables.tables_of.Goals as goal

pub loop-number-init : goal.loop-number-init
loop-number-init c = no_rows c.args.problem.now _

pub put_row-requires-clause-blocks : goal.put_row-requires-clause-blocks
put_row-requires-clause-blocks c = c.loop-number.invariant.rows.len ∙ (emptied c.in_ok-tables.tables.rows (length c.args.problem.now.arguments.items) c.in_ok-tables.ensures.rows).len

pub put_row-requires-clause-readers : goal.put_row-requires-clause-readers
put_row-requires-clause-readers c = c.loop-number.invariant.readers.len ∙ (emptied c.in_ok-tables.tables.readers c.args.problem.now.values c.in_ok-tables.ensures.readers).len

pub put_row-requires-clause-slots : goal.put_row-requires-clause-slots
put_row-requires-clause-slots c = c.loop-number.invariant.slots.len ∙ (emptied c.in_ok-tables.tables.slots c.args.problem.now.values c.in_ok-tables.ensures.slots).len

pub put_row-requires-clause-in_range : goal.put_row-requires-clause-in_range
put_row-requires-clause-in_range c = omega (arith, c.loop-number-test.true, c.len-number-end.ensures)

pub loop-number-preserved : goal.loop-number-preserved
loop-number-preserved c =
    let rows = c.args.problem.now.rows in let n = c.loop-number.number in
    let h : n < length rows = omega (arith, c.loop-number-test.true, c.len-number-end.ensures) in
    rows_more c.args.problem.now _ c.loop-number.tables c.put_row.new.tables rows n (row_numbered rows n) h (row_read rows n h) c.loop-number.invariant c.in_ok-put_row.ensures

pub returns : goal.returns
returns c =
    let t = c.in_ok-tables.tables in
    let e = c.in_ok-tables.ensures in
    tables_end c.args.problem.now t c.loop-number.tables (emptied t.rows (length c.args.problem.now.arguments.items) e.rows) (emptied t.readers c.args.problem.now.values e.readers) (emptied t.slots c.args.problem.now.values e.slots)
    (subst (λ xs. HoldRows c.args.problem.now t c.loop-number.tables xs) (take_all c.loop-number.number c.args.problem.now.rows (omega (arith, c.loop-number-test.false, c.len-number-end.ensures))) c.loop-number.invariant)
