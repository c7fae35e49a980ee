use Rattle.std.proofs.Common.{rules, ◌≡◌, List, length, sym, ap, ◌∙◌}
use Rattle.opt_rows.specs.OperationRows.{Row}
use Rattle.opt_rows.specs.OperationColumns.{row_in}
use Rattle.opt_rows.proofs.OperationLists.{numbered_len}
use Rattle.opt_rows.proofs.operation_rows.OperationRows.len.Goals as goal

pub returns : goal.returns
returns c =
    let i = c.self.inside.columns in
    let l : c.len.result ≡ length i.blocks.items = search rules in
    l ∙ sym (numbered_len (row_in i) (length i.blocks.items)) ∙ ap (λ (rs : List Row). length rs) c.self.view_is
