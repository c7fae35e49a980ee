use Rattle.std.proofs.Common.{◌≡◌, ap, ◌∙◌, arith, subst}
use Rattle.std.specs.String.{string_bytes}
use Rattle.std.specs.Prelude.{Some, slice_get}
use Rattle.ir_program.specs.Program.{TypedValue, results_at, result_count, value_in}
use Rattle.text_printing.proofs.Owed.{owed_at, owed_past, separated, not_separated, found}
use Rattle.text_printing.proofs.RowsOwed.{results_row, result_printed, all_results}
use Rattle.text_printing.proofs.operations.print_results.Goals as goal
use Rattle.text_printing.proofs.operations.print_results.Goals.{then-not-is_first+in_ok-push_str, else-not-is_first}

pub loop-index-preserved : goal.loop-index-preserved
loop-index-preserved g c =
    let says = g.D.TextDialect.says in
    let types = c.args.ctx.now.types.keys in
    let ds = results_at c.args.ctx.now.program c.args.op in
    let at : value_in ds c.loop-index.index ≡ Some c.result.result =
    subst (λ p. value_in (results_at p c.args.op) c.loop-index.index ≡ Some c.result.result) c.program-program.ensures c.result.ensures.value in
    let w = found (λ (t : TypedValue). t.value) (slice_get ds c.loop-index.index) c.result.result at in
    owed_at (results_row says types) w.0 ds ds c.loop-index.index c.loop-index.is_first (string_bytes c.args.out.now)
    (string_bytes c.loop-index.out) _ _ w.1 c.loop-index.invariant
    (elim c.if-not-is_first.branch [
      | then-not-is_first+in_ok-push_str w ↦ separated _ c.loop-index.is_first _ _ w.if-not-is_first.true (ap string_bytes w.out-is ∙ w.in_ok-push_str.ensures.bytes)
      | else-not-is_first w ↦ not_separated _ c.loop-index.is_first _ _ w.if-not-is_first.false (ap string_bytes w.out-is)
    ])
    (result_printed says types w.0 _ _ _ w.2 c.in_ok-print_value.ensures)

pub returns : goal.returns
returns g c =
    let says = g.D.TextDialect.says in
    let types = c.args.ctx.now.types.keys in
    let ds = results_at c.args.ctx.now.program c.args.op in
    let count = c.result_count-count.ensures ∙ ap (λ p. result_count p c.args.op) c.program-program.ensures in
    all_results says types ds _ _ _ (omega (arith, count))
    (λ rs rest h. owed_past (results_row says types) ds ds c.loop-index.index c.loop-index.is_first (string_bytes c.args.out.now)
    (string_bytes c.loop-index.out) (omega (arith, count)) c.loop-index.invariant rs rest h)
    c.in_ok-push_str-2.ensures.bytes
