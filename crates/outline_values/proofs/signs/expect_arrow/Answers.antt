use Rattle.outline_values.proofs.Places.{passes_more, by_one}
use Rattle.outline_values.proofs.signs.expect_arrow.Goals as goal

pub returns-then-character-eq62 : goal.returns-then-character-eq62
returns-then-character-eq62 c = passes_more c.args.at c.in-Some.dash c.in-Some-next.behind c.in-Some.ensures.passes (by_one c.in-Some.dash c.in-Some-next.behind _ c.in-Some-next.ensures)
