use Rattle.std.proofs.Common.{◌++◌, ◌∙◌, ap, sym, map-id, chars, codes, encode_utf8_all, string_bytes}
use Rattle.std.proofs.lemmas.Result.{on_ok_weaker}
use Rattle.std.proofs.lemmas.Iterator.{YieldsList-from_chars}
use Rattle.std.proofs.lemmas.Iterator.Consumers.{YieldsList-end}
use Rattle.ir_print.specs.Layout.{escaped}
use Rattle.text_printing.proofs.Quotes.{escaped_more, quoted_bytes}
use Rattle.text_printing.proofs.words.print_text.Goals as goal

pub loop-c-preserved : goal.loop-c-preserved
loop-c-preserved c = escaped_more (string_bytes c.print_quote.new.out) _ _ c.loop-c.yielded c.in-Some.c c.loop-c.invariant c.in_ok-print_escaped.ensures

pub returns : goal.returns
returns c =
    let done = YieldsList-end (YieldsList-from_chars c.args.text.now c.utf8.text cc) c.loop-c.yielded _ c.loop-c.yielded_by _ _ c.in-None.is c.next.ensures.steps in
    on_ok_weaker c.print_quote-2.result
    (λ e. quoted_bytes (string_bytes c.args.out.now) _ _ (chars c.args.text.now) (c.loop-c.invariant ∙ (ap (λ bs. bs ++ encode_utf8_all (escaped c.loop-c.yielded)) c.in_ok-print_quote.ensures ∙ ap (λ cs. (string_bytes c.args.out.now ++ codes "\"") ++ encode_utf8_all (escaped cs)) (sym (map-id c.loop-c.yielded) ∙ done.0))) e)
    c.print_quote-2.ensures
