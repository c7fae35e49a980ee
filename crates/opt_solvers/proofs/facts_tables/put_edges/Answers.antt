use Rattle.std.proofs.Common.{◌≡◌, ◌<◌, length, sym, ap, ◌∙◌, subst, arith, rules}
use Rattle.std.specs.Prelude.{Contains}
use Rattle.std.proofs.lemmas.List.{take_all}
use Rattle.opt_rows.specs.OperationRows.{no_edge, row_numbered, edge_numbered}
use Rattle.opt_rows.specs.Facts.{arguments_of}
use Rattle.opt_rows.specs.LinkedRows.{RowsGain}
use Rattle.opt_steps.specs.FactsEdges.{ForwardsToArgument}
use Rattle.opt_solvers.specs.FactsTables.{ForwardsAlong}
use Rattle.opt_rows.proofs.OperationLists.{row_contained, edge_contained, numbered_read}
use Rattle.opt_rows.proofs.FactsEntering.{row_at}
use Rattle.opt_steps.proofs.FactsEdging.{target_below}
use Rattle.opt_solvers.proofs.FactsTabling.{edges_more}
use Rattle.opt_solvers.proofs.facts_tables.put_edges.Goals as goal

pub index-arguments-requires : goal.index-arguments-requires
index-arguments-requires c =
    let l : c.loop-index.index < length (row_numbered c.args.problem.now.rows c.args.number).edges = omega (arith, c.loop-index-test.true, c.edge_count-index-end.ensures) in
    let k = target_below c.args.problem.now c.args.number c.loop-index.index c.target.result c.requires.problem c.requires.in_range l c.target.ensures in search rules

pub put_forwards-requires-clause-operands : goal.put_forwards-requires-clause-operands
put_forwards-requires-clause-operands c =
    let r = row_numbered c.args.problem.now.rows c.args.number in
    λ v s. subst (λ n. v < n) (sym (c.loop-index.invariant.len ∙ c.requires.values)) ((c.requires.problem.rows r (row_contained c.args.problem.now.rows c.args.number c.requires.in_range)).operands v (subst (λ xs. Contains xs v) c.operands-operands.ensures s))

pub put_forwards-requires-clause-forwards : goal.put_forwards-requires-clause-forwards
put_forwards-requires-clause-forwards c =
    let r = row_numbered c.args.problem.now.rows c.args.number in
    let l : c.loop-index.index < length r.edges = omega (arith, c.loop-index-test.true, c.edge_count-index-end.ensures) in
    λ i s. subst (λ n. i < n) (sym (ap length c.operands-operands.ensures)) ((c.requires.problem.rows r (row_contained c.args.problem.now.rows c.args.number c.requires.in_range)).forwards (edge_numbered r.edges c.loop-index.index) i (edge_contained r.edges c.loop-index.index l) (subst (λ xs. Contains xs i) c.forwards-forwards.ensures s))

pub loop-index-preserved : goal.loop-index-preserved
loop-index-preserved c =
    let r = row_numbered c.args.problem.now.rows c.args.number in
    let l : c.loop-index.index < length r.edges = omega (arith, c.loop-index-test.true, c.edge_count-index-end.ensures) in
    let e = edge_numbered r.edges c.loop-index.index in
    let k = target_below c.args.problem.now c.args.number c.loop-index.index c.target.result c.requires.problem c.requires.in_range l c.target.ensures in
    let a : c.deref.result.now ≡ arguments_of c.args.problem.now e.target = c.deref.ensures.value ∙ (sym (row_at c.args.problem.now.arguments.items c.target.result c.index-arguments.result.now k c.index-arguments.ensures) ∙ ap (arguments_of c.args.problem.now) c.target.ensures) in
    edges_more c.args.problem.now c.args.slots.now c.loop-index.slots c.put_forwards.new.slots c.args.number r.edges r.operands c.loop-index.index e l (numbered_read r.edges c.loop-index.index no_edge l) c.loop-index.invariant
    (subst (λ xs. RowsGain (λ u x. (x.row ≡ c.args.number) × (x.edge ≡ c.loop-index.index) × ForwardsToArgument xs e.forwards r.operands u x.argument) c.loop-index.slots c.put_forwards.new.slots) a
    (subst (λ xs. RowsGain (λ u x. (x.row ≡ c.args.number) × (x.edge ≡ c.loop-index.index) × ForwardsToArgument c.deref.result.now xs r.operands u x.argument) c.loop-index.slots c.put_forwards.new.slots) c.forwards-forwards.ensures
    (subst (λ xs. RowsGain (λ u x. (x.row ≡ c.args.number) × (x.edge ≡ c.loop-index.index) × ForwardsToArgument c.deref.result.now c.forwards-forwards.result.now xs u x.argument) c.loop-index.slots c.put_forwards.new.slots) c.operands-operands.ensures c.in_ok-put_forwards.ensures)))

pub returns : goal.returns
returns c =
    let r = row_numbered c.args.problem.now.rows c.args.number in
    subst (λ xs. RowsGain (λ v x. (x.row ≡ c.args.number) × ForwardsAlong c.args.problem.now xs r.operands v x.edge x.argument) c.args.slots.now c.loop-index.slots) (take_all c.loop-index.index r.edges (omega (arith, c.loop-index-test.false, c.edge_count-index-end.ensures))) c.loop-index.invariant
