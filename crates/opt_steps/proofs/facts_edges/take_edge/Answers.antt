use Rattle.std.proofs.Common.{◌≡◌, ◌<◌, true, length, sym, ap, ◌∙◌, subst, rules}
use Rattle.std.specs.Prelude.{Contains}
use Rattle.opt_rows.specs.OperationRows.{row_numbered, edge_numbered}
use Rattle.opt_rows.specs.Facts.{arguments_of}
use Rattle.opt_rows.specs.FactsFound.{Meets}
use Rattle.opt_rows.proofs.OperationLists.{row_contained, edge_contained}
use Rattle.opt_rows.proofs.FactsEntering.{row_at}
use Rattle.opt_steps.proofs.FactsEdging.{edge_taken, target_below}
use Rattle.opt_steps.proofs.facts_edges.take_edge.Goals as goal

pub run-requires : goal.run-requires
run-requires g c = subst (λ n. c.target-target.result < n) (sym c.requires.blocks) (target_below c.args.problem.now c.args.number c.args.edge c.target-target.result c.requires.problem c.requires.in_range c.requires.edge c.target-target.ensures)

pub index-requires : goal.index-requires
index-requires g c = let h = target_below c.args.problem.now c.args.number c.args.edge c.target-target.result c.requires.problem c.requires.in_range c.requires.edge c.target-target.ensures in search rules

pub forward_all-requires-clause-arguments : goal.forward_all-requires-clause-arguments
forward_all-requires-clause-arguments g c =
    let h = target_below c.args.problem.now c.args.number c.args.edge c.target-target.result c.requires.problem c.requires.in_range c.requires.edge c.target-target.ensures in
    let e : c.deref.result.now ≡ arguments_of c.args.problem.now c.target-target.result = c.deref.ensures.value ∙ sym (row_at c.args.problem.now.arguments.items c.target-target.result c.index.result.now h c.index.ensures) in
    λ v s. subst (λ n. v < n) (sym (c.in_ok-run.ensures.steps.values_len ∙ c.requires.values)) (c.requires.problem.arguments c.target-target.result v (subst (λ xs. Contains xs v) e s))

pub forward_all-requires-clause-forwards : goal.forward_all-requires-clause-forwards
forward_all-requires-clause-forwards g c =
    let r = row_numbered c.args.problem.now.rows c.args.number in
    λ i s. subst (λ n. i < n) (sym (ap length c.operands.ensures)) ((c.requires.problem.rows r (row_contained c.args.problem.now.rows c.args.number c.requires.in_range)).forwards (edge_numbered r.edges c.args.edge) i (edge_contained r.edges c.args.edge c.requires.edge) (subst (λ xs. Contains xs i) c.forwards.ensures s))

pub forward_all-requires-clause-operands : goal.forward_all-requires-clause-operands
forward_all-requires-clause-operands g c =
    let r = row_numbered c.args.problem.now.rows c.args.number in
    λ v s. subst (λ n. v < n) (sym (c.in_ok-run.ensures.steps.values_len ∙ c.requires.values)) ((c.requires.problem.rows r (row_contained c.args.problem.now.rows c.args.number c.requires.in_range)).operands v (subst (λ xs. Contains xs v) c.operands.ensures s))

pub returns : goal.returns
returns g c =
    let r = row_numbered c.args.problem.now.rows c.args.number in
    let h = target_below c.args.problem.now c.args.number c.args.edge c.target-target.result c.requires.problem c.requires.in_range c.requires.edge c.target-target.ensures in
    let e : c.deref.result.now ≡ arguments_of c.args.problem.now c.target-target.result = c.deref.ensures.value ∙ sym (row_at c.args.problem.now.arguments.items c.target-target.result c.index.result.now h c.index.ensures) in
    edge_taken c.args.problem.now r (edge_numbered r.edges c.args.edge) c.deref.result.now c.forwards.result.now c.operands.result.now c.args.found.now c.run.new.self c.forward_all.new.found (e ∙ ap (arguments_of c.args.problem.now) c.target-target.ensures) c.forwards.ensures c.operands.ensures
    (subst (λ n. Meets (λ l. l.runs n ≡ true) c.args.found.now c.run.new.self) c.target-target.ensures c.in_ok-run.ensures) c.in_ok-forward_all.ensures
