use Rattle.outline_values.proofs.Places.{text_goes}
use Rattle.outline_values.proofs.texts.skip_text.Goals as goal

pub returns : goal.returns
returns c = text_goes c.args.at c.in_ok-said.said.end c.in_ok-said.said.text c.in_ok-said.ensures
