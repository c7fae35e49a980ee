use Rattle.std.proofs.Common.{ap, sym, ◌∙◌}
use Rattle.ir_tokens.specs.Tokens.{is_digit}
use Rattle.stream_tokens.proofs.Fronts.{minus_digits_front, arrow_taken}
use Rattle.stream_tokens.proofs.scan.Scan.minus.Goals as goal

pub returns-then-is_digit : goal.returns-then-is_digit
returns-then-is_digit c = minus_digits_front c.args.self.now c.requires.empty c.take.new.self c.in_ok-take.field-0 c.take.ensures.start c.in_ok-take.ensures.taken
    c.take_digits.new.self c.in_ok-take_digits.ensures (ap is_digit (sym c.second-second.ensures) ∙ sym c.if-is_digit.ensures) c.requires.minus

pub returns-then-second-eq62 : goal.returns-then-second-eq62
returns-then-second-eq62 c = arrow_taken c.args.self.now c.requires.empty c.take-then-second-eq62.new.self c.take-then-second-eq62-2.new.self c.in_ok-take-2.field-0 c.in_ok-take-3.field-0
    c.take-then-second-eq62.ensures.start c.in_ok-take-2.ensures.taken c.take-then-second-eq62-2.ensures.start c.in_ok-take-3.ensures.stands c.in_ok-take-3.ensures.taken
    c.requires.minus (sym c.second-second.ensures ∙ c.if-second-eq62.true)
