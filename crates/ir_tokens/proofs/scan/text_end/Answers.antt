use Rattle.ir_tokens.proofs.TokenLongest.{text_longest}
use Rattle.ir_tokens.proofs.scan.text_end.Goals as goal

pub returns-in-Some : goal.returns-in-Some
returns-in-Some c = record {
  inside = c.in-Some.ensures.0;
  spelled = (c.requires.quote, c.in-Some.ensures.1);
  longest = text_longest _ _ _ c.requires.quote c.in-Some.ensures.1;
}
