use Rattle.std.proofs.Common.{◌≡◌, sym, ap, ◌∙◌, subst}
use Rattle.std.specs.Prelude.{Contains}
use Rattle.std.proofs.lemmas.Option.{slice_get_within, same_Some}
use Rattle.opt_rows.specs.OperationRows.{Row}
use Rattle.opt_rows.specs.FactsFound.{facts_of}
use Rattle.opt_rows.specs.Rows.{row_at}
use Rattle.opt_rows.proofs.Lists.{next_within, next_done, all_done}
use Rattle.opt_solvers.proofs.FactsVisiting.{visited_none, visited_more, visited_as}
use Rattle.opt_solvers.proofs.facts_rows.visit_block.Goals as goal

pub loop-number-init : goal.loop-number-init
loop-number-init g c = (visited_none _ c.args.problem.now c.args.solver.now c.requires.solving, c.into_iter-number-iterator.ensures.into_iter_gives ∙ c.row-number-items.ensures)

pub visit_row-requires-clause-in_range : goal.visit_row-requires-clause-in_range
visit_row-requires-clause-in_range g c =
    let n = c.in-Some.number in
    let w = c.requires.tables.rows.only c.args.block n (next_within c.loop-number.yielded c.loop-number.number-iterator _ (row_at c.args.tables.now.rows c.args.block) n c.in-Some.ensures.steps c.loop-number.invariant.1) in
    slice_get_within c.args.problem.now.rows n w.row w.there

pub visit_row-requires-clause-running : goal.visit_row-requires-clause-running
visit_row-requires-clause-running g c =
    let n = c.in-Some.number in
    let w = c.requires.tables.rows.only c.args.block n (next_within c.loop-number.yielded c.loop-number.number-iterator _ (row_at c.args.tables.now.rows c.args.block) n c.in-Some.ensures.steps c.loop-number.invariant.1) in
    λ r a. ap (facts_of c.loop-number.solver.found).runs (ap (λ (x : Row). x.block) (same_Some r w.row (sym a ∙ w.there)) ∙ w.block) ∙ c.loop-number.invariant.0.steps.found.falls.fewer c.args.block c.requires.running

pub loop-number-preserved : goal.loop-number-preserved
loop-number-preserved g c = (
  visited_more _ c.args.problem.now c.args.solver.now c.loop-number.solver c.visit_row.new.solver c.loop-number.yielded c.in-Some.number c.loop-number.invariant.0 c.in_ok-visit_row.ensures,
  next_done c.loop-number.yielded c.loop-number.number-iterator _ (row_at c.args.tables.now.rows c.args.block) c.in-Some.number c.in-Some.ensures.steps c.loop-number.invariant.1,
)

pub returns : goal.returns
returns g c =
    visited_as _ c.args.problem.now c.args.solver.now c.loop-number.solver _ (λ i r. r.block ≡ c.args.block)
    (λ i r a q. subst (λ xs. Contains xs i) (sym (all_done c.loop-number.yielded c.loop-number.number-iterator (row_at c.args.tables.now.rows c.args.block) c.in-None.ensures.steps.0 c.loop-number.invariant.1)) (c.requires.tables.rows.has c.args.block i (record { row = r; there = a; block = q }))) c.loop-number.invariant.0
