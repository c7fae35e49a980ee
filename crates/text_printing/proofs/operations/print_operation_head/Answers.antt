use Rattle.std.proofs.Common.{◌++◌, ap, ◌∙◌}
use Rattle.std.specs.String.{string_bytes}
use Rattle.std.proofs.lemmas.Result.{on_ok_weaker}
use Rattle.text_printing.proofs.Written.{written}
use Rattle.ir_program.specs.Program.{results_at}
use Rattle.text_dialect.specs.Seen.{seen}
use Rattle.text_printing.proofs.EntitiesPrinted.{operation_head_printed}
use Rattle.text_printing.proofs.operations.print_operation_head.Goals as goal

pub returns : goal.returns
returns g c =
    let d = g.D.TextDialect in
    on_ok_weaker c.push_str.result (λ e.
    operation_head_printed d.says d.formats (seen c.args.ctx.now) 0 0 (results_at c.args.ctx.now.program c.args.op)
    (d.op_kind c.args.kind).id _ _ _ c.in_ok-print_results.ensures
    (e ∙ ap (λ s. string_bytes c.print_results.new.out ++ s) c.op_name.ensures))
    (written c.push_str.result (string_bytes c.print_results.new.out) _ c.op_name.result.now c.push_str.ensures.bytes)
