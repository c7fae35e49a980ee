use Rattle.std.proofs.Common.{◌++◌, ◌∙◌, ap, chars, string_bytes, encode_utf8_all}
use Rattle.std.proofs.lemmas.Result.{on_ok_weaker}
use Rattle.ir_print.specs.Formats.{step_of}
use Rattle.ir_print.specs.Layout.{in_quotes}
use Rattle.text_printing.proofs.Leaves.{number_printed, unsigned_printed, width_printed, quoted_printed, mark_printed}
use Rattle.text_printing.proofs.words.print_leaf.Goals as goal

pub returns-in-Number : goal.returns-in-Number
returns-in-Number c =
    on_ok_weaker c.print_number.result
    (number_printed (step_of c.args.directive) _ _ _ c.in_ok-print_sign.ensures c.args.leaf.now c.in-Number.number c.in-Number.is)
    c.print_number.ensures

pub returns-in-Digits : goal.returns-in-Digits
returns-in-Digits c =
    on_ok_weaker c.print_unsigned.result
    (unsigned_printed (step_of c.args.directive) _ _ _ c.in_ok-print_sign.ensures c.args.leaf.now c.in-Digits.number c.in-Digits.is)
    c.print_unsigned.ensures

pub returns-in-Width : goal.returns-in-Width
returns-in-Width c =
    on_ok_weaker c.print_width.result
    (width_printed (step_of c.args.directive) _ _ _ c.in_ok-print_sign.ensures c.args.leaf.now c.in-Width.signedness c.in-Width.width c.in-Width.is)
    c.print_width.ensures

pub returns-in-Text : goal.returns-in-Text
returns-in-Text c =
    on_ok_weaker c.print_text.result
    (λ e. quoted_printed (step_of c.args.directive) _ _ _ c.in_ok-print_sign.ensures c.args.leaf.now c.in-Text.text c.in-Text.is (e ∙ ap (λ t. string_bytes c.print_sign.new.out ++ encode_utf8_all (in_quotes (chars t))) c.as_str-in-Text.ensures.value))
    c.print_text.ensures

pub returns-in-Mark : goal.returns-in-Mark
returns-in-Mark c =
    on_ok_weaker c.print_mark.result
    (mark_printed (step_of c.args.directive) _ _ _ c.in_ok-print_sign.ensures c.args.leaf.now c.in-Mark.number c.in-Mark.is)
    c.print_mark.ensures
