use Rattle.ir_print.specs.Formats.{steps_of}
use Rattle.value_texts.proofs.Readings.{begins_so}
use Rattle.value_texts.proofs.deciding.begins_at.Goals as goal

pub returns : goal.returns
returns c = begins_so c.args.at c.in_ok-token.token (steps_of c.args.format.now) c.begins_with.result c.in_ok-token.ensures c.begins_with.ensures
