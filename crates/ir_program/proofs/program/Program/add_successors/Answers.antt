use Rattle.std.proofs.Common.{subst}
use Rattle.std.proofs.lemmas.Option.{slice_get-get_or}
use Rattle.ir_program.specs.Adds.{AddsSuccessors}
use Rattle.ir_program.proofs.made.AddSteps.{some-came, take-next, successors-next, successors-still}
use Rattle.ir_program.proofs.program.Program.add_successors.Goals as goal

pub returns-in_err-push_successor-clause-err : goal.returns-in_err-push_successor-clause-err
returns-in_err-push_successor-clause-err g c = some-came _ _ (AddsSuccessors c.args.self.now c.push_successor.new.self c.args.op) c.loop-block.block-index c.loop-block-test.true (successors-still _ _ _ c.args.op _ c.in_err-push_successor.ensures.err c.push_successor.ensures.values.types c.loop-block.invariant)

pub loop-block-preserved : goal.loop-block-preserved
loop-block-preserved g c = subst (AddsSuccessors c.args.self.now c.push_successor.new.self c.args.op) (take-next _ _ _ (slice_get-get_or _ _ _ c.loop-block-test.true)) (successors-next _ _ _ c.args.op _ _ c.loop-block.invariant c.in_ok-push_successor.ensures.pushed c.push_successor.ensures.values.types c.push_successor.ensures.values.counter)
