use Rattle.std.proofs.Common.{ap, ◌∙◌}
use Rattle.std.specs.String.{string_bytes}
use Rattle.std.proofs.lemmas.Result.{on_ok_weaker}
use Rattle.text_printing.proofs.Owed.{separated, not_separated}
use Rattle.text_printing.proofs.RowsOwed.{next_lined}
use Rattle.text_printing.proofs.operations.print_next_line.Goals as goal
use Rattle.text_printing.proofs.operations.print_next_line.Goals.{then-not-is_first+in_ok-push_str, else-not-is_first}

pub returns : goal.returns
returns c =
    on_ok_weaker c.print_line.result (next_lined c.args.is_first c.args.indent _ _ _
    (elim c.if-not-is_first.branch [
      | then-not-is_first+in_ok-push_str w ↦ separated _ c.args.is_first _ _ w.if-not-is_first.true (ap string_bytes w.out-is ∙ w.in_ok-push_str.ensures.bytes)
      | else-not-is_first w ↦ not_separated _ c.args.is_first _ _ w.if-not-is_first.false (ap string_bytes w.out-is)
    ]))
    c.print_line.ensures
