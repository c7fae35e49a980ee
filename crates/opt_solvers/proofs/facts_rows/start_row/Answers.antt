use Rattle.std.proofs.Common.{◌<◌, sym, subst, ◌∙◌}
use Rattle.std.specs.Prelude.{Contains}
use Rattle.opt_rows.specs.OperationRows.{row_numbered}
use Rattle.opt_rows.specs.FactsFound.{Meets}
use Rattle.opt_solvers.specs.FactsSolving.{AnyResults}
use Rattle.opt_rows.proofs.OperationLists.{row_contained}
use Rattle.opt_solvers.proofs.FactsVisiting.{row_started}
use Rattle.opt_solvers.proofs.facts_rows.start_row.Goals as goal

pub give_up_results-requires-clause-results : goal.give_up_results-requires-clause-results
give_up_results-requires-clause-results g c = λ v t. subst (λ n. v < n) (sym c.requires.values) ((c.requires.problem.rows (row_numbered c.args.problem.now.rows c.args.number) (row_contained c.args.problem.now.rows c.args.number c.requires.in_range)).results v (subst (λ xs. Contains xs v) c.results-results.ensures t))

pub enter_all-requires-clause-in_range : goal.enter_all-requires-clause-in_range
enter_all-requires-clause-in_range g c = λ b t. subst (λ n. b < n) (sym (c.in_ok-give_up_results.ensures.steps.blocks_len ∙ c.requires.blocks)) ((c.requires.problem.rows (row_numbered c.args.problem.now.rows c.args.number) (row_contained c.args.problem.now.rows c.args.number c.requires.in_range)).entries b (subst (λ xs. Contains xs b) c.entries.ensures t))

pub enter_all-requires-clause-arguments : goal.enter_all-requires-clause-arguments
enter_all-requires-clause-arguments g c = λ b v t. subst (λ n. v < n) (sym (c.in_ok-give_up_results.ensures.steps.values_len ∙ c.requires.values)) (c.requires.problem.arguments b v t)

pub returns : goal.returns
returns g c =
    let r = row_numbered c.args.problem.now.rows c.args.number in
    row_started c.args.problem.now r c.entries.result.now c.args.found.now c.give_up_results.new.found c.enter_all.new.self c.entries.ensures
    (subst (λ role. Meets (AnyResults r.results role) c.args.found.now c.give_up_results.new.found) c.role.ensures
    (subst (λ xs. Meets (AnyResults xs c.role.result) c.args.found.now c.give_up_results.new.found) c.results-results.ensures c.in_ok-give_up_results.ensures)) c.in_ok-enter_all.ensures
