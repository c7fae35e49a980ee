use Rattle.std.proofs.Common.{sym, subst}
use Rattle.ir_core.specs.verification.Tests.{operation_tests_of, of_op}
use Rattle.ir_core.specs.verification.Verified.{AnswersTests}
use Rattle.ir_core.proofs.VerificationLemmas.Asked.{one-test}
use Rattle.ir_core.proofs.verification.asking.ask_if_operation.Goals as goal

pub returns-in-Operation : goal.returns-in-Operation
returns-in-Operation g c there =
    subst (λ node. AnswersTests (g.V.Verifiers.accepts c.args.verifiers.now c.args.ctx.now) (g.V.Verifiers.answers c.args.verifiers.now c.args.ctx.now) (operation_tests_of c.args.ctx.now.program node) c.verify_op.result) (sym c.in-Operation.is)
    (one-test (g.V.Verifiers.accepts c.args.verifiers.now c.args.ctx.now) (g.V.Verifiers.answers c.args.verifiers.now c.args.ctx.now) (of_op c.in-Operation.op) c.verify_op.result c.verify_op.ensures.accepted c.verify_op.ensures.fault)
