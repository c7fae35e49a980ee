use Rattle.opt_inside.specs.Numbered.{numbers_of}
use Rattle.opt_dce.specs.liveness.Problems.{IsBlockRow}
use Rattle.opt_dce.proofs.LivenessLemmas.Partway.{pushed_len, item_is, item_at, rows_step}
use Rattle.opt_dce.proofs.liveness.closing.block_rows.Goals as goal

pub block_row-requires : goal.block_row-requires
block_row-requires g c = c.requires _ (c.loop-block.block-index, item_at c.as_slice-block-items.result.now c.args.inside.now.blocks.keys c.loop-block.block-index _ c.as_slice-block-items.ensures.keys c.loop-block-test.true)

pub loop-block-preserved : goal.loop-block-preserved
loop-block-preserved g c = record {
  len = pushed_len c.loop-block.rows.items c.push.new.self.items c.block_row.result c.loop-block.block-index c.in_ok-push.ensures.items c.loop-block.invariant.len;
  rows = rows_step (IsBlockRow g.D.Meanings.meaning c.args.program.now (numbers_of c.args.inside.now)) c.args.inside.now.blocks.keys c.loop-block.rows.items c.push.new.self.items c.loop-block.block-index _ c.block_row.result c.in_ok-push.ensures.items c.loop-block.invariant.len c.loop-block.invariant.rows
      (λ b h. item_is c.as_slice-block-items.result.now c.args.inside.now.blocks.keys c.loop-block.block-index _ b c.as_slice-block-items.ensures.keys h) c.block_row.ensures;
}

pub returns-clause-rows : goal.returns-clause-rows
returns-clause-rows g c k b row h r = c.loop-block.invariant.rows k row r b h
