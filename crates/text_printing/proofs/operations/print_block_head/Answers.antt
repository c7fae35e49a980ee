use Rattle.std.proofs.Common.{◌≡◌, ◌++◌, subst}
use Rattle.std.specs.Prelude.{IfSome, codes}
use Rattle.std.specs.String.{string_bytes}
use Rattle.std.proofs.lemmas.Result.{on_ok_weaker}
use Rattle.text_printing.proofs.Written.{written}
use Rattle.ir_program.specs.Program.{arguments_at}
use Rattle.text_dialect.specs.Printed.{block_name, label_front}
use Rattle.text_dialect.specs.Seen.{seen}
use Rattle.text_printing.proofs.EntitiesPrinted.{block_head_lines}
use Rattle.text_printing.proofs.Read.{label_read}
use Rattle.text_printing.proofs.operations.print_block_head.Goals as goal

pub returns : goal.returns
returns g c =
    on_ok_weaker c.push_str-3.result (
    block_head_lines g.D.TextDialect.says g.D.TextDialect.formats (seen c.args.ctx.now) 0 c.args.left c.args.block
    (arguments_at c.args.ctx.now.program c.args.block) _ _ _ _ _ _ c.in_ok-push_str.ensures.bytes
    (λ v e. subst (λ o. IfSome o (λ label. string_bytes c.print_label.new.out ≡ string_bytes c.push_str.new.self ++ block_name (label_front label) c.args.block.key.slot c.args.block.key.version))
    (label_read c.args.ctx.now c.args.block v e) c.in_ok-print_label.ensures)
    c.in_ok-push_str-2.ensures.bytes c.in_ok-print_arguments.ensures)
    (written c.push_str-3.result (string_bytes c.print_arguments.new.out) _ (codes "):") c.push_str-3.ensures.bytes)
