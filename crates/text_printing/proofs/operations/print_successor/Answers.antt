use Rattle.std.proofs.Common.{◌≡◌, ◌++◌, drop, take, subst}
use Rattle.std.specs.Prelude.{IfSome, codes}
use Rattle.std.specs.String.{string_bytes}
use Rattle.std.proofs.lemmas.Result.{on_ok_weaker}
use Rattle.ir_program.specs.Rows.{operands_at, successors_at}
use Rattle.text_dialect.specs.Printed.{block_name, label_front}
use Rattle.text_dialect.specs.Seen.{seen}
use Rattle.text_printing.proofs.OpsPrinted.{edge_lines}
use Rattle.text_printing.proofs.Read.{label_read}
use Rattle.text_printing.proofs.Written.{written}
use Rattle.text_printing.proofs.operations.print_successor.Goals as goal

pub returns : goal.returns
returns g c =
    let block = c.get_successor.result in
    let mentioned = drop c.args.from (take c.args.to (operands_at c.args.ctx.now.program c.args.op)) in
    on_ok_weaker c.push_str-3.result (
    edge_lines g.D.TextDialect.says (seen c.args.ctx.now) (successors_at c.args.ctx.now.program c.args.op) c.args.index block mentioned
    _ _ _ _ _ _ c.get_successor.ensures.exact c.in_ok-push_str.ensures.bytes
    (λ v e. subst (λ o. IfSome o (λ label. string_bytes c.print_label.new.out ≡ string_bytes c.push_str.new.self ++ block_name (label_front label) block.key.slot block.key.version))
    (label_read c.args.ctx.now block v e) c.in_ok-print_label.ensures)
    c.in_ok-push_str-2.ensures.bytes c.in_ok-print_operands.ensures)
    (written c.push_str-3.result (string_bytes c.print_operands.new.out) _ (codes ")") c.push_str-3.ensures.bytes)
