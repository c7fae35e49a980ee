use Rattle.stream_tokens.proofs.Fronts.{bad_front}
use Rattle.stream_tokens.proofs.scan.Scan.token.Goals as goal

pub returns : goal.returns
returns c = bad_front c.args.self.now c.requires.empty c.requires.stands c.args.first c.requires.first c.if-is_letter.ensures c.if-is_digit.ensures c.if-is_sign.ensures
    c.if-first-eq45.false c.if-first-eq33.false c.if-first-eq34.false
