use Rattle.ir_print.specs.Formats.{choices_of}
use Rattle.value_texts.proofs.Readings.{chooses_so}
use Rattle.value_texts.proofs.deciding.chosen_at.Goals as goal

pub returns : goal.returns
returns c = chooses_so c.args.at c.in_ok-token.token (choices_of c.args.alternatives.now) c.chosen.result c.in_ok-token.ensures c.chosen.ensures
