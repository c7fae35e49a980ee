use Rattle.opt_rows.proofs.Lists.{gained_one}
use Rattle.opt_solvers.proofs.facts_tables.put.Goals as goal

pub returns : goal.returns
returns g c = gained_one c.args.table.now c.put.new.self c.args.index c.args.item c.requires c.in_ok-put.ensures.ok
