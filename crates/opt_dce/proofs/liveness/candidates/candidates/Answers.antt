use Rattle.opt_inside.specs.Numbered.{numbers_of}
use Rattle.opt_dce.specs.liveness.Problems.{IsCandidate}
use Rattle.opt_dce.proofs.LivenessLemmas.Partway.{pushed_len, item_is, item_at, rows_step}
use Rattle.opt_dce.proofs.liveness.candidates.candidates.Goals as goal

pub push_candidate-requires : goal.push_candidate-requires
push_candidate-requires g c = c.requires.operations _ (c.loop-op.op-index, item_at c.as_slice-op-items.result.now c.args.inside.now.operations.keys c.loop-op.op-index _ c.as_slice-op-items.ensures.keys c.loop-op-test.true)

pub loop-op-preserved : goal.loop-op-preserved
loop-op-preserved g c =
    let pushed = c.in_ok-push_candidate.ensures in record {
      len = pushed_len c.loop-op.rows c.push_candidate.new.rows pushed.0 c.loop-op.op-index pushed.1 c.loop-op.invariant.len;
      rows = rows_step (IsCandidate g.D.Meanings.meaning c.args.program.now (numbers_of c.args.inside.now)) c.args.inside.now.operations.keys c.loop-op.rows c.push_candidate.new.rows c.loop-op.op-index _ pushed.0 pushed.1 c.loop-op.invariant.len c.loop-op.invariant.rows
          (λ p h. item_is c.as_slice-op-items.result.now c.args.inside.now.operations.keys c.loop-op.op-index _ p c.as_slice-op-items.ensures.keys h) pushed.2;
    }

pub returns-clause-rows : goal.returns-clause-rows
returns-clause-rows g c i p row h r = c.loop-op.invariant.rows i row r p h
