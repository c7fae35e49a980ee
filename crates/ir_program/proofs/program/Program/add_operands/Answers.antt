use Rattle.std.proofs.Common.{subst}
use Rattle.std.proofs.lemmas.Option.{slice_get-get_or}
use Rattle.ir_program.specs.Adds.{AddsOperands}
use Rattle.ir_program.proofs.made.AddSteps.{some-came, take-next, operands-next, operands-still}
use Rattle.ir_program.proofs.program.Program.add_operands.Goals as goal

pub returns-in_err-push_operand-clause-err : goal.returns-in_err-push_operand-clause-err
returns-in_err-push_operand-clause-err g c = some-came _ _ (AddsOperands c.args.self.now c.push_operand.new.self c.args.op) c.loop-value.value-index c.loop-value-test.true (operands-still _ _ _ c.args.op _ c.in_err-push_operand.ensures.err c.push_operand.ensures.values.types c.loop-value.invariant)

pub loop-value-preserved : goal.loop-value-preserved
loop-value-preserved g c = subst (AddsOperands c.args.self.now c.push_operand.new.self c.args.op) (take-next _ _ _ (slice_get-get_or _ _ _ c.loop-value-test.true)) (operands-next _ _ _ c.args.op _ _ c.loop-value.invariant c.in_ok-push_operand.ensures.pushed c.push_operand.ensures.values.types c.push_operand.ensures.values.counter)
