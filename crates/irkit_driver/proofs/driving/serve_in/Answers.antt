use Rattle.std.proofs.Common.{List, subst}
use Rattle.kit_ops.specs.declared.pass.KitPass.{KitPass}
use Rattle.irkit_running.specs.Outcomes.{EndsRun}
use Rattle.irkit_driver.proofs.driving.serve_in.Goals as goal

pub returns-in-Optimise : goal.returns-in-Optimise
returns-in-Optimise g c = rw c.in-Optimise.is (record {
  outcome = c.run_in-outcome.result;
  does = subst (λ (ps : List KitPass). EndsRun g.R.Read.remaining g.W.Write.contents c.args.input.now
      c.run_in-outcome.new.reader c.args.output.now c.run_in-outcome.new.writer ps c.run_in-outcome.result)
      c.as_slice.ensures.value c.run_in-outcome.ensures;
  tells = c.status-in-Optimise.ensures.tells;
  ends = c.status-in-Optimise.ensures.status;
})
