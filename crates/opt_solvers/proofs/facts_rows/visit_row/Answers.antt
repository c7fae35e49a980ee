use Rattle.opt_rows.specs.OperationRows.{row_numbered}
use Rattle.opt_rows.proofs.OperationLists.{row_there}
use Rattle.std.proofs.Common.{[]}
use Rattle.opt_solvers.proofs.FactsVisiting.{started_solving, solving_falls, row_visited}
use Rattle.opt_solvers.proofs.facts_rows.visit_row.Goals as goal

pub refresh_row-requires-clause-solving : goal.refresh_row-requires-clause-solving
refresh_row-requires-clause-solving g c =
    let rows = c.args.problem.now.rows in
    let r = row_numbered rows c.args.number in
    let at = row_there rows c.args.number c.requires.in_range in
    solving_falls _ c.args.problem.now c.args.solver.now c.start_row.new.found []
    (started_solving _ c.args.problem.now (record { folds_more = g.met.F.Folding.folds_more c.args.folding.now; feasible_less = g.met.F.Folding.feasible_less c.args.folding.now }) c.args.solver.now c.args.number r c.start_row.new.found c.requires.solving at (c.requires.running r at) c.in_ok-start_row.ensures) c.requires.solving

pub returns : goal.returns
returns g c =
    let rows = c.args.problem.now.rows in
    let r = row_numbered rows c.args.number in
    let at = row_there rows c.args.number c.requires.in_range in
    row_visited _ c.args.problem.now (record { folds_more = g.met.F.Folding.folds_more c.args.folding.now; feasible_less = g.met.F.Folding.feasible_less c.args.folding.now }) c.args.solver.now c.refresh_row.new.solver c.args.number r c.start_row.new.found c.requires.solving at (c.requires.running r at) c.in_ok-start_row.ensures c.in_ok-refresh_row.ensures
