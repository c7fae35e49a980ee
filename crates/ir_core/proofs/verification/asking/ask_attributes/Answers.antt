use Rattle.std.proofs.Common.{ap, ◌∙◌}
use Rattle.ir_core.specs.verification.Tests.{tests_of_attributes, of_attr}
use Rattle.ir_core.proofs.VerificationLemmas.Asked.{accepted-of, refused-of, answered-of, answers-err, handed-on}
use Rattle.ir_core.proofs.VerificationLemmas.Passed.{passed-first, passed-next, passed-over, fault-next}
use Rattle.ir_core.proofs.verification.asking.ask_attributes.Goals as goal

pub loop-name-init : goal.loop-name-init
loop-name-init g c = passed-first (g.V.Verifiers.accepts c.args.verifiers.now c.args.ctx.now) (tests_of_attributes c.args.attributes.now) (tests_of_attributes c.into_iter-name-iterator.result) (ap tests_of_attributes (c.into_iter-name-iterator.ensures.into_iter_gives ∙ c.iter-name-items.ensures.left))

pub loop-name-preserved : goal.loop-name-preserved
loop-name-preserved g c =
    passed-next (g.V.Verifiers.accepts c.args.verifiers.now c.args.ctx.now) (tests_of_attributes c.args.attributes.now) (tests_of_attributes c.loop-name._name-iterator) (tests_of_attributes c.next.new.self) (of_attr c.in-Some.attr.now) (ap tests_of_attributes c.in-Some.ensures.steps)
    (accepted-of (g.V.Verifiers.accepts c.args.verifiers.now c.args.ctx.now) (g.V.Verifiers.answers c.args.verifiers.now c.args.ctx.now) (of_attr c.in-Some.attr.now) c.verify_attr.result c.in_ok-verify_attr.field-0 c.in_ok-verify_attr.was c.verify_attr.ensures.accepted)
    c.loop-name.invariant

pub returns-in_err-verify_attr : goal.returns-in_err-verify_attr
returns-in_err-verify_attr g c =
    answers-err (g.V.Verifiers.accepts c.args.verifiers.now c.args.ctx.now) (g.V.Verifiers.answers c.args.verifiers.now c.args.ctx.now) (tests_of_attributes c.args.attributes.now) c.from_residual.result c.in_err-verify_attr.field-0.0 (handed-on c.from_residual.result c.in_err-verify_attr.field-0.0 c.from_residual.ensures.1)
    (fault-next (g.V.Verifiers.accepts c.args.verifiers.now c.args.ctx.now) (g.V.Verifiers.answers c.args.verifiers.now c.args.ctx.now) (tests_of_attributes c.args.attributes.now) (tests_of_attributes c.loop-name._name-iterator) (tests_of_attributes c.next.new.self) (of_attr c.in-Some.attr.now) c.in_err-verify_attr.field-0.0 (ap tests_of_attributes c.in-Some.ensures.steps) c.loop-name.invariant
    (refused-of (g.V.Verifiers.accepts c.args.verifiers.now c.args.ctx.now) (g.V.Verifiers.answers c.args.verifiers.now c.args.ctx.now) (of_attr c.in-Some.attr.now) c.verify_attr.result c.in_err-verify_attr.field-0.0 c.in_err-verify_attr.was c.verify_attr.ensures.accepted)
    (answered-of (g.V.Verifiers.accepts c.args.verifiers.now c.args.ctx.now) (g.V.Verifiers.answers c.args.verifiers.now c.args.ctx.now) (of_attr c.in-Some.attr.now) c.verify_attr.result c.in_err-verify_attr.field-0.0 c.in_err-verify_attr.was c.verify_attr.ensures.fault))

pub returns : goal.returns
returns g c = passed-over (g.V.Verifiers.accepts c.args.verifiers.now c.args.ctx.now) (tests_of_attributes c.args.attributes.now) (tests_of_attributes c.loop-name._name-iterator) (ap tests_of_attributes c.in-None.ensures.steps.0) c.loop-name.invariant
