use Rattle.std.proofs.Common.{sym, subst}
use Rattle.ir_program.specs.declared.handles.IRNode.TheVariants.{Operation as OperationNode}
use Rattle.ir_core.specs.verification.Tests.{operation_tests_inside}
use Rattle.ir_core.specs.verification.Verified.{AnswersOwn}
use Rattle.ir_core.proofs.VerificationLemmas.Answered.{own-answers, ops-accepted}
use Rattle.ir_core.proofs.verification.verify.verify_op.Goals as goal

pub returns-clause-accepted : goal.returns-clause-accepted
returns-clause-accepted g c =
    rw c.own.ensures (ops-accepted g.D.DialectTables.op_has (g.V.Verifiers.accepts c.args.verifiers.now c.args.ctx.now) (g.V.Verifiers.answers c.args.verifiers.now c.args.ctx.now) c.args.ctx.now.program (OperationNode c.args.op) c.know_inside.ensures c.ask_operations_inside.result c.ask_operations_inside.ensures)

pub returns-clause-first : goal.returns-clause-first
returns-clause-first g c =
    subst (AnswersOwn (g.V.Verifiers.accepts c.args.verifiers.now c.args.ctx.now) (g.V.Verifiers.answers c.args.verifiers.now c.args.ctx.now) (operation_tests_inside c.args.ctx.now.program (OperationNode c.args.op))) (sym c.own.ensures)
    (own-answers (g.V.Verifiers.accepts c.args.verifiers.now c.args.ctx.now) (g.V.Verifiers.answers c.args.verifiers.now c.args.ctx.now) (operation_tests_inside c.args.ctx.now.program (OperationNode c.args.op)) c.ask_operations_inside.result c.ask_operations_inside.ensures)
