use Rattle.std.proofs.Common.{◌∷◌, [], sym, subst}
use Rattle.ir_core.specs.verification.Tests.{of_attr}
use Rattle.ir_core.specs.verification.Verified.{AnswersOwn}
use Rattle.ir_core.proofs.VerificationLemmas.Asked.{one-test}
use Rattle.ir_core.proofs.VerificationLemmas.Answered.{own-answers, own-ok}
use Rattle.ir_core.proofs.verification.verify.verify_attr.Goals as goal

pub returns-clause-accepted : goal.returns-clause-accepted
returns-clause-accepted g c =
    rw c.own.ensures (own-ok (g.V.Verifiers.accepts c.args.verifiers.now c.args.ctx.now (of_attr c.args.attr.now)) c.verify_attr.result c.verify_attr.ensures.accepted)

pub returns-clause-answer : goal.returns-clause-answer
returns-clause-answer g c =
    subst (AnswersOwn (g.V.Verifiers.accepts c.args.verifiers.now c.args.ctx.now) (g.V.Verifiers.answers c.args.verifiers.now c.args.ctx.now) (of_attr c.args.attr.now ∷ [])) (sym c.own.ensures)
    (own-answers (g.V.Verifiers.accepts c.args.verifiers.now c.args.ctx.now) (g.V.Verifiers.answers c.args.verifiers.now c.args.ctx.now) (of_attr c.args.attr.now ∷ []) c.verify_attr.result (one-test (g.V.Verifiers.accepts c.args.verifiers.now c.args.ctx.now) (g.V.Verifiers.answers c.args.verifiers.now c.args.ctx.now) (of_attr c.args.attr.now) c.verify_attr.result c.verify_attr.ensures.accepted c.verify_attr.ensures.fault))
