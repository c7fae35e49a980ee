use Rattle.std.proofs.Common.{subst}
use Rattle.std.proofs.lemmas.Option.{slice_get-get_or}
use Rattle.ir_program.specs.Adds.{AddsArguments}
use Rattle.ir_program.proofs.made.AddSteps.{some-came, take-next, arguments-next, arguments-still}
use Rattle.ir_program.proofs.program.Program.add_arguments.Goals as goal

pub returns-in_err-push_argument-clause-err : goal.returns-in_err-push_argument-clause-err
returns-in_err-push_argument-clause-err g c = some-came _ _ (AddsArguments c.args.self.now c.push_argument.new.self c.args.block) c.loop-ty.ty-index c.loop-ty-test.true (arguments-still _ _ _ c.args.block _ c.in_err-push_argument.ensures.err c.in_err-push_argument.ensures.err_types c.loop-ty.invariant)

pub loop-ty-preserved : goal.loop-ty-preserved
loop-ty-preserved g c = subst (AddsArguments c.args.self.now c.push_argument.new.self c.args.block) (take-next _ _ _ (slice_get-get_or _ _ _ c.loop-ty-test.true)) (arguments-next _ _ _ c.args.block _ _ _ c.loop-ty.invariant c.in_ok-push_argument.ensures.value c.in_ok-push_argument.ensures.defined c.in_ok-push_argument.ensures.counter c.in_ok-push_argument.ensures.pushed)
