use Rattle.std.proofs.Common.{◌∙◌, ap, chars, encode_utf8_all}
use Rattle.std.proofs.lemmas.Str.{encodes-chars}
use Rattle.ir_print.specs.Layout.{in_quotes}
use Rattle.text_writers.proofs.ReadAgain.{chars-printed}
use Rattle.text_writers.proofs.laws.quoted_is_read_again.Goals as goal

pub returns-in-Ok : goal.returns-in-Ok
returns-in-Ok c =
    let put = c.in_ok-fmt.ensures.text in
    let there = c.new-stream.ensures.text ∙ chars-printed c.args.text.now c.args.rest.now _ put.0 _ _ _ c.utf8.text c.new-printed.ensures.bytes
    (put.1 ∙ ap (λ q. encode_utf8_all (in_quotes (chars q.text.now))) c.quoted.ensures) put.2 c.in_ok-push_str.ensures.bytes c.as_str.ensures.value in
    (c.in-Ok.ensures.inverse (chars c.args.text.now) (chars c.args.rest.now) there).0 ∙ encodes-chars c.args.text.now c.utf8.text

pub returns : goal.returns
returns c =
    let put = c.in_ok-fmt.ensures.text in
    let there = c.new-stream.ensures.text ∙ chars-printed c.args.text.now c.args.rest.now _ put.0 _ _ _ c.utf8.text c.new-printed.ensures.bytes
    (put.1 ∙ ap (λ q. encode_utf8_all (in_quotes (chars q.text.now))) c.quoted.ensures) put.2 c.in_ok-push_str.ensures.bytes c.as_str.ensures.value in
    c.in-Err.ensures.inverse (chars c.args.text.now) (chars c.args.rest.now) there
