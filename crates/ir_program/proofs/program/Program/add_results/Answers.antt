use Rattle.std.proofs.Common.{subst}
use Rattle.std.proofs.lemmas.Option.{slice_get-get_or}
use Rattle.ir_program.specs.Adds.{AddsResults}
use Rattle.ir_program.proofs.made.AddSteps.{some-came, take-next, results-next, results-still}
use Rattle.ir_program.proofs.program.Program.add_results.Goals as goal

pub returns-in_err-push_result-clause-err : goal.returns-in_err-push_result-clause-err
returns-in_err-push_result-clause-err g c = some-came _ _ (AddsResults c.args.self.now c.push_result.new.self c.args.op) c.loop-ty.ty-index c.loop-ty-test.true (results-still _ _ _ c.args.op _ c.in_err-push_result.ensures.err c.in_err-push_result.ensures.err_types c.loop-ty.invariant)

pub loop-ty-preserved : goal.loop-ty-preserved
loop-ty-preserved g c = subst (AddsResults c.args.self.now c.push_result.new.self c.args.op) (take-next _ _ _ (slice_get-get_or _ _ _ c.loop-ty-test.true)) (results-next _ _ _ c.args.op _ _ _ c.loop-ty.invariant c.in_ok-push_result.ensures.value c.in_ok-push_result.ensures.defined c.in_ok-push_result.ensures.counter c.in_ok-push_result.ensures.pushed)
