use Rattle.std.proofs.Common.{◌++◌, ap, ◌∙◌}
use Rattle.std.specs.String.{string_bytes}
use Rattle.ir_print.specs.Layout.{line}
use Rattle.std.proofs.lemmas.List.{append_assoc}
use Rattle.std.proofs.lemmas.Result.{on_ok_weaker}
use Rattle.text_printing.proofs.Written.{written}
use Rattle.text_printing.proofs.operations.print_sign_line.Goals as goal

pub returns : goal.returns
returns c =
    on_ok_weaker c.push_str.result (λ e. e ∙ ap (λ s. s ++ c.args.sign.now) c.in_ok-print_line.ensures ∙ append_assoc (string_bytes c.args.out.now) (line c.args.indent) c.args.sign.now)
    (written c.push_str.result (string_bytes c.print_line.new.out) _ c.args.sign.now c.push_str.ensures.bytes)
