use Rattle.std.proofs.Common.{subst}
use Rattle.text_frames.proofs.BuildingLemmas.Stood.{HasLists, NamesLive, seen_forest, seen_named}
use Rattle.text_frames.proofs.building.laws.know_seen.Goals as goal

pub returns-clause-forest : goal.returns-clause-forest
returns-clause-forest g c =
    let lists : HasLists c.program-program.result.now = assumption c.know_lists.ensures in
    seen_forest c.args.ctx.now (subst HasLists c.program-program.ensures lists)

pub returns-clause-named : goal.returns-clause-named
returns-clause-named g c =
    let names : NamesLive c.program-program.result.now = record { stands = c.know_values.ensures.stands; operands = c.know_operands.ensures; successors = c.know_successors.ensures } in
    seen_named c.args.ctx.now (subst NamesLive c.program-program.ensures names)
