use Rattle.std.proofs.Common.{ap, sym, ◌∙◌}
use Rattle.ir_tokens.specs.Tokens.{is_digit}
use Rattle.stream_tokens.proofs.Fronts.{mark_digits_front}
use Rattle.stream_tokens.proofs.scan.Scan.mark.Goals as goal

pub returns : goal.returns
returns c = mark_digits_front c.args.self.now c.requires.empty c.take.new.self c.in_ok-take.field-0 c.take.ensures.start c.in_ok-take.ensures.taken
    c.take_digits.new.self c.in_ok-take_digits.ensures (ap is_digit (sym c.second.ensures) ∙ (sym c.is_digit.ensures ∙ c.if-not-is_digit.false)) c.requires.mark
