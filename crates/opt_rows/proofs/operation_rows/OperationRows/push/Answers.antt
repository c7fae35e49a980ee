use Rattle.std.proofs.Common.{◌≡◌, ◌++◌, ◌∷◌, [], List, ap, ◌∙◌, rules}
use Rattle.opt_rows.specs.OperationRows.{Row}
use Rattle.opt_rows.specs.OperationColumns.{buffered, rows_in, GainRow}
use Rattle.opt_rows.proofs.OperationLists.{in_step_more, rows_more}
use Rattle.opt_rows.proofs.operation_rows.OperationRows.push.Goals as goal

pub invariant_of-self-else-is_err : goal.invariant_of-self-else-is_err
invariant_of-self-else-is_err c =
    let g : GainRow c.self.inside.columns c.push_columns-pushed.new.columns (buffered c.args.row.now) = search rules in
    in_step_more c.self.inside.columns c.push_columns-pushed.new.columns (buffered c.args.row.now) c.self.invariant g

pub returns-else-is_err-clause-ok : goal.returns-else-is_err-clause-ok
returns-else-is_err-clause-ok c =
    let g : GainRow c.self.inside.columns c.push_columns-pushed.new.columns (buffered c.args.row.now) = search rules in
    let e : rows_in c.push_columns-pushed.new.columns ≡ c.args.self.now ++ buffered c.args.row.now ∷ [] = rows_more c.self.inside.columns c.push_columns-pushed.new.columns (buffered c.args.row.now) c.self.invariant g ∙ ap (λ (rs : List Row). rs ++ buffered c.args.row.now ∷ []) c.self.view_is in
    search rules
