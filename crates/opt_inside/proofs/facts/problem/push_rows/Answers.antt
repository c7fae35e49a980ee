use Rattle.std.proofs.Common.{subst}
use Rattle.ir_program.specs.declared.handles.Ptr.{Ptr}
use Rattle.ir_program.specs.declared.handles.Operation.{Operation}
use Rattle.opt_inside.specs.Numbered.{numbers_of}
use Rattle.opt_rows.specs.OperationRows.{Row}
use Rattle.opt_rows.specs.OperationColumns.{buffered}
use Rattle.opt_inside.specs.facts.Problem.{IsRowOfOperation, PairsByIndex}
use Rattle.opt_inside.proofs.FactsLemmas.Lists.{at_index, paired_none, paired_next, paired_all}
use Rattle.opt_inside.proofs.facts.problem.push_rows.Goals as goal

pub row_of-requires-clause-live : goal.row_of-requires-clause-live
row_of-requires-clause-live g c = (c.requires.linked _ (c.loop-op.op-index, at_index _ _ c.loop-op.op-index _ c.as_slice-op-items.ensures.keys c.loop-op-test.true)).1.operation

pub row_of-requires-clause-linked : goal.row_of-requires-clause-linked
row_of-requires-clause-linked g c = c.requires.linked _ (c.loop-op.op-index, at_index _ _ c.loop-op.op-index _ c.as_slice-op-items.ensures.keys c.loop-op-test.true)

pub loop-op-init : goal.loop-op-init
loop-op-init g c = paired_none (λ i (p : Ptr Operation) (row : Row). IsRowOfOperation g.D.Meanings.meaning c.args.program.now (numbers_of c.args.inside.now) p row) c.as_slice-op-items.result.now c.args.rows.now c.requires.none

pub loop-op-preserved : goal.loop-op-preserved
loop-op-preserved g c = paired_next (λ i (p : Ptr Operation) (row : Row). IsRowOfOperation g.D.Meanings.meaning c.args.program.now (numbers_of c.args.inside.now) p row) _ c.loop-op.rows c.push.new.self c.loop-op.op-index _ (buffered c.row_of.new.row)
    (at_index _ _ c.loop-op.op-index _ (λ i. c.as_slice-op-items.result.now) c.loop-op-test.true) c.in_ok-row_of.ensures c.in_ok-push.ensures.ok c.loop-op.invariant

pub returns : goal.returns
returns g c =
    let P = λ (i : _) (p : Ptr Operation) (row : Row). IsRowOfOperation g.D.Meanings.meaning c.args.program.now (numbers_of c.args.inside.now) p row in
    subst (λ keys. PairsByIndex P keys c.loop-op.rows) c.as_slice-op-items.ensures.keys
    (paired_all P c.as_slice-op-items.result.now c.loop-op.rows c.loop-op.op-index c.loop-op-test.false c.loop-op.invariant)
