use Rattle.std.proofs.Common.{refl, sym, ◌∙◌, arith, ap}
use Rattle.ir_characters.specs.Texts.{codes_of}
use Rattle.ir_tokens.proofs.TokenLongest.{begins_none}
use Rattle.ir_tokens.specs.Tokens.{is_letter, is_digit, is_sign}
use Rattle.ir_tokens.proofs.scan.token_end.Goals as goal

pub returns-else-is_sign : goal.returns-else-is_sign
returns-else-is_sign c =
    let here = sym c.at-c.ensures.character in
    record {
      inside = omega arith;
      spelled = refl;
      longest = begins_none (codes_of c.args.chars) c.args.at
          (ap is_letter here ∙ sym c.is_letter.ensures ∙ c.if-is_letter.false)
          (ap is_digit here ∙ sym c.is_digit.ensures ∙ c.if-is_digit.false)
          (rw c.at-c.ensures.character at c.if-c-eq45.false)
          (rw c.at-c.ensures.character at c.if-c-eq33.false)
          (rw c.at-c.ensures.character at c.if-c-eq34.false)
          (ap is_sign here ∙ sym c.is_sign.ensures ∙ c.if-is_sign.false);
    }
