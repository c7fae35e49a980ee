use Rattle.std.proofs.Common.{◌<◌, sym, subst}
use Rattle.opt_rows.specs.OperationRows.{row_numbered}
use Rattle.opt_rows.proofs.OperationLists.{row_read, row_contained}
use Rattle.opt_steps.specs.FactsEdges.{TakesAllMarked}
use Rattle.opt_solvers.proofs.FactsVisiting.{asks_row, row_tested, row_unknown}
use Rattle.opt_solvers.proofs.facts_rows.test_edges.Goals as goal

pub mark_targets-requires-clause-asks : goal.mark_targets-requires-clause-asks
mark_targets-requires-clause-asks g c =
    let a = asks_row _ c.args.problem.now c.args.solver.now c.args.number (row_numbered c.args.problem.now.rows c.args.number) c.in-Some.known.now c.requires.solving c.requires.in_range (row_read c.args.problem.now.rows c.args.number c.requires.in_range) c.in-Some.ensures in
    subst (g.F.Folding.can_ask c.args.folding.now c.args.number) (sym a.len) (c.requires.asks c.args.number (row_numbered c.args.problem.now.rows c.args.number) a.at)

pub mark_targets-requires-clause-targets : goal.mark_targets-requires-clause-targets
mark_targets-requires-clause-targets g c = λ e t. subst (λ n. e.target < n) (sym c.requires.solving.marks_len) ((c.requires.problem.rows (row_numbered c.args.problem.now.rows c.args.number) (row_contained c.args.problem.now.rows c.args.number c.requires.in_range)).targets e t)

pub take_marked-requires-clause-taken : goal.take_marked-requires-clause-taken
take_marked-requires-clause-taken g c = subst (λ n. c.args.number < n) (sym c.requires.solving.taken_len) c.requires.in_range

pub take_marked-requires-clause-edges : goal.take_marked-requires-clause-edges
take_marked-requires-clause-edges g c =
    let r = row_numbered c.args.problem.now.rows c.args.number in
    let a = asks_row _ c.args.problem.now c.args.solver.now c.args.number r c.in-Some.known.now c.requires.solving c.requires.in_range (row_read c.args.problem.now.rows c.args.number c.requires.in_range) c.in-Some.ensures in
    c.requires.solving.edges_len c.args.number r a.at

pub returns-in_ok-take_marked : goal.returns-in_ok-take_marked
returns-in_ok-take_marked g c =
    let r = row_numbered c.args.problem.now.rows c.args.number in
    let a = asks_row _ c.args.problem.now c.args.solver.now c.args.number r c.in-Some.known.now c.requires.solving c.requires.in_range (row_read c.args.problem.now.rows c.args.number c.requires.in_range) c.in-Some.ensures in
    row_tested _ c.args.problem.now (record { folds_more = g.met.F.Folding.folds_more c.args.folding.now; feasible_less = g.met.F.Folding.feasible_less c.args.folding.now }) c.args.solver.now c.args.number r c.in-Some.known.now c.take_marked.new.found c.take_marked.new.taken c.mark_targets.new.marks
    c.requires.solving a.at (c.requires.running r a.at) (c.requires.role r a.at) a.asked_is c.mark_targets.ensures
    (subst (λ ms. TakesAllMarked c.args.problem.now c.args.number r ms c.args.solver.now.taken c.take_marked.new.taken c.args.solver.now.found c.take_marked.new.found) c.deref.ensures.value c.in_ok-take_marked.ensures)

pub returns-in_default : goal.returns-in_default
returns-in_default g c = row_unknown _ c.args.problem.now c.args.solver.now c.args.number c.requires.solving c.in_default.ensures
