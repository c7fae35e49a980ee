use Rattle.std.proofs.Common.{◌≡◌, Some, ◌<◌, length, sym, subst}
use Rattle.std.specs.Prelude.{Contains, slice_get}
use Rattle.opt_rows.specs.OperationRows.{row_numbered}
use Rattle.opt_rows.specs.LinkedRows.{RowsGain}
use Rattle.opt_rows.proofs.OperationLists.{row_contained}
use Rattle.opt_solvers.proofs.FactsTabling.{row_put}
use Rattle.opt_solvers.proofs.facts_tables.put_row.Goals as goal

pub put-requires : goal.put-requires
put-requires c =
    let r = row_numbered c.args.problem.now.rows c.args.number in
    subst (λ n. c.block.result < n) (sym c.requires.blocks) (subst (λ n. n < length c.args.problem.now.arguments.items) (sym c.block.ensures) (c.requires.problem.rows r (row_contained c.args.problem.now.rows c.args.number c.requires.in_range)).block)

pub put_places-requires : goal.put_places-requires
put_places-requires c =
    let r = row_numbered c.args.problem.now.rows c.args.number in
    λ v s. subst (λ n. v < n) (sym c.requires.readers) ((c.requires.problem.rows r (row_contained c.args.problem.now.rows c.args.number c.requires.in_range)).operands v (subst (λ xs. Contains xs v) c.operands.ensures s))

pub returns : goal.returns
returns c =
    let r = row_numbered c.args.problem.now.rows c.args.number in
    row_put c.args.problem.now c.args.tables.now _ c.args.number r
    (subst (λ b. RowsGain (λ m i. (m ≡ b) × (i ≡ c.args.number)) c.args.tables.now.rows c.put.new.table) c.block.ensures c.in_ok-put.ensures)
    (subst (λ xs. RowsGain (λ v x. (x.row ≡ c.args.number) × (slice_get xs x.operand ≡ Some v)) c.args.tables.now.readers c.put_places.new.readers) c.operands.ensures c.in_ok-put_places.ensures)
    c.in_ok-put_edges.ensures
