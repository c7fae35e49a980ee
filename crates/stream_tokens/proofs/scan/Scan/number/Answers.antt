use Rattle.stream_tokens.proofs.Fronts.{number_front}
use Rattle.stream_tokens.proofs.scan.Scan.number.Goals as goal

pub returns : goal.returns
returns c = number_front c.args.self.now c.requires.empty c.take_digits.new.self c.in_ok-take_digits.ensures c.requires.digit
