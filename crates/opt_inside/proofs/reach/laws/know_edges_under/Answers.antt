use Rattle.opt_inside.proofs.Around.{HasLists}
use Rattle.opt_inside.proofs.ReachLemmas.FromBelow.{local_from_below, fits_from_below}
use Rattle.opt_inside.proofs.reach.laws.know_edges_under.Goals as goal

pub returns-clause-local : goal.returns-clause-local
returns-clause-local g c =
    let lists : HasLists c.args.program.now = assumption c.know_lists.ensures in
    local_from_below c.args.program.now c.args._op lists g.D.Meanings.meaning.is_terminator

pub returns-clause-fits : goal.returns-clause-fits
returns-clause-fits g c =
    let lists : HasLists c.args.program.now = assumption c.know_lists.ensures in
    fits_from_below c.args.program.now c.args._op lists g.D.Meanings.meaning
