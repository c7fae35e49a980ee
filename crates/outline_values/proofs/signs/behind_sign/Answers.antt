use Rattle.outline_values.proofs.Places.{ends_sign, ends_passing}
use Rattle.outline_values.proofs.signs.behind_sign.Goals as goal

pub returns-clause-sign : goal.returns-clause-sign
returns-clause-sign c = ends_sign c.args.at c.skip_spaces.result c.args.sign c.behind_character.result c.skip_spaces.ensures c.behind_character.ensures

pub returns-clause-passes : goal.returns-clause-passes
returns-clause-passes c = ends_passing c.args.at c.skip_spaces.result c.args.sign c.behind_character.result c.skip_spaces.ensures c.behind_character.ensures
