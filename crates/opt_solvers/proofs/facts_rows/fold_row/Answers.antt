use Rattle.opt_solvers.specs.FactsSolving.{FoldsBelow}
use Rattle.opt_rows.specs.FactsFound.{Meets}
use Rattle.std.specs.Prelude.{Contains}
use Rattle.opt_rows.proofs.OperationLists.{row_read, row_contained}
use Rattle.opt_rows.specs.OperationRows.{row_numbered}
use Rattle.std.proofs.Common.{◌<◌, sym, subst}
use Rattle.opt_solvers.proofs.FactsVisiting.{asks_row, row_folded, row_unknown}
use Rattle.opt_solvers.proofs.facts_rows.fold_row.Goals as goal

pub lower_results-requires-clause-asks : goal.lower_results-requires-clause-asks
lower_results-requires-clause-asks g c =
    let a = asks_row _ c.args.problem.now c.args.solver.now c.args.number (row_numbered c.args.problem.now.rows c.args.number) c.in-Some.known.now c.requires.solving c.requires.in_range (row_read c.args.problem.now.rows c.args.number c.requires.in_range) c.in-Some.ensures in
    subst (g.F.Folding.can_ask c.args.folding.now c.args.number) (sym a.len) (c.requires.asks c.args.number (row_numbered c.args.problem.now.rows c.args.number) a.at)

pub lower_results-requires-clause-results : goal.lower_results-requires-clause-results
lower_results-requires-clause-results g c = λ v t. subst (λ n. v < n) (sym c.requires.solving.values_len) ((c.requires.problem.rows (row_numbered c.args.problem.now.rows c.args.number) (row_contained c.args.problem.now.rows c.args.number c.requires.in_range)).results v (subst (λ xs. Contains xs v) c.results-results.ensures t))

pub returns-in_ok-lower_results : goal.returns-in_ok-lower_results
returns-in_ok-lower_results g c =
    let a = asks_row _ c.args.problem.now c.args.solver.now c.args.number (row_numbered c.args.problem.now.rows c.args.number) c.in-Some.known.now c.requires.solving c.requires.in_range (row_read c.args.problem.now.rows c.args.number c.requires.in_range) c.in-Some.ensures in
    row_folded _ c.args.problem.now (record { folds_more = g.met.F.Folding.folds_more c.args.folding.now; feasible_less = g.met.F.Folding.feasible_less c.args.folding.now }) c.args.solver.now c.args.number (row_numbered c.args.problem.now.rows c.args.number) c.in-Some.known.now c.lower_results.new.found
    c.requires.solving a.at (c.requires.running (row_numbered c.args.problem.now.rows c.args.number) a.at) (c.requires.role (row_numbered c.args.problem.now.rows c.args.number) a.at) a.asked_is
    (subst (λ vs. Meets (FoldsBelow (g.F.Folding.answers c.args.folding.now) c.args.number vs c.in-Some.known.now) c.args.solver.now.found c.lower_results.new.found) c.results-results.ensures c.in_ok-lower_results.ensures)

pub returns-in_default : goal.returns-in_default
returns-in_default g c = row_unknown _ c.args.problem.now c.args.solver.now c.args.number c.requires.solving c.in_default.ensures
