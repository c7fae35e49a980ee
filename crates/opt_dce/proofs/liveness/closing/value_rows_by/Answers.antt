use Rattle.opt_inside.specs.Numbered.{numbers_of}
use Rattle.opt_dce.specs.liveness.Problems.{TakesRow}
use Rattle.opt_dce.proofs.LivenessLemmas.Partway.{pushed_len, item_is, item_at, rows_step}
use Rattle.opt_dce.proofs.liveness.closing.value_rows_by.Goals as goal

pub value_row-requires-clause-inside : goal.value_row-requires-clause-inside
value_row-requires-clause-inside c b e = c.requires.definers _ b (c.loop-value.value-index, item_at c.as_slice-value-items.result.now c.args.inside.now.values.keys c.loop-value.value-index _ c.as_slice-value-items.ensures.keys c.loop-value-test.true) e

pub loop-value-preserved : goal.loop-value-preserved
loop-value-preserved c = record {
  len = pushed_len c.loop-value.rows.items c.push.new.self.items c.value_row.result c.loop-value.value-index c.in_ok-push.ensures.items c.loop-value.invariant.len;
  rows = rows_step (TakesRow (numbers_of c.args.inside.now) c.args.blocks.now) c.args.inside.now.values.keys c.loop-value.rows.items c.push.new.self.items c.loop-value.value-index _ c.value_row.result c.in_ok-push.ensures.items c.loop-value.invariant.len c.loop-value.invariant.rows
      (λ v h. item_is c.as_slice-value-items.result.now c.args.inside.now.values.keys c.loop-value.value-index _ v c.as_slice-value-items.ensures.keys h)
      c.value_row.ensures;
}

pub returns-clause-rows : goal.returns-clause-rows
returns-clause-rows c k v row h r = c.loop-value.invariant.rows k row r v h
