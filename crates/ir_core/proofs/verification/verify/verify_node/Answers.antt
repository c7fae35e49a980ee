use Rattle.std.proofs.Common.{sym, subst}
use Rattle.std.proofs.lemmas.Bool.{both_ways}
use Rattle.ir_core.specs.verification.Verified.{AnswersVerify, own_answer}
use Rattle.ir_core.proofs.VerificationLemmas.Answered.{ends-well, verified-answer, answer-accepted}
use Rattle.ir_core.proofs.verification.verify.verify_node.Goals as goal

pub returns-clause-accepted : goal.returns-clause-accepted
returns-clause-accepted g c =
    rw c.own.ensures
    (answer-accepted g.D.DialectTables.op_has (g.V.Verifiers.accepts c.args.verifiers.now c.args.ctx.now) (g.V.Verifiers.answers c.args.verifiers.now c.args.ctx.now) c.args.ctx.now.program c.args.node c.know_inside.ensures (own_answer c.ask_inside.result)
    (verified-answer g.D.DialectTables.op_has (g.V.Verifiers.accepts c.args.verifiers.now c.args.ctx.now) (g.V.Verifiers.answers c.args.verifiers.now c.args.ctx.now) c.args.ctx.now.program c.args.node c.know_inside.ensures (ends-well g.D.DialectTables.op_has (g.V.Verifiers.accepts c.args.verifiers.now c.args.ctx.now) (g.V.Verifiers.answers c.args.verifiers.now c.args.ctx.now) c.args.ctx.now.program c.args.node c.know_inside.ensures (λ s. both_ways c.some_has_flaw.result c.if-some_has_flaw.false (c.some_has_flaw.ensures.1 s)) (λ s. both_ways c.some_has_flaw-2.result c.if-some_has_flaw-2.false (c.some_has_flaw-2.ensures.1 s))) c.ask_inside.result c.ask_inside.ensures))

pub returns-clause-answer : goal.returns-clause-answer
returns-clause-answer g c =
    subst (AnswersVerify g.D.DialectTables.op_has (g.V.Verifiers.accepts c.args.verifiers.now c.args.ctx.now) (g.V.Verifiers.answers c.args.verifiers.now c.args.ctx.now) c.args.ctx.now.program c.args.node) (sym c.own.ensures)
    (verified-answer g.D.DialectTables.op_has (g.V.Verifiers.accepts c.args.verifiers.now c.args.ctx.now) (g.V.Verifiers.answers c.args.verifiers.now c.args.ctx.now) c.args.ctx.now.program c.args.node c.know_inside.ensures (ends-well g.D.DialectTables.op_has (g.V.Verifiers.accepts c.args.verifiers.now c.args.ctx.now) (g.V.Verifiers.answers c.args.verifiers.now c.args.ctx.now) c.args.ctx.now.program c.args.node c.know_inside.ensures (λ s. both_ways c.some_has_flaw.result c.if-some_has_flaw.false (c.some_has_flaw.ensures.1 s)) (λ s. both_ways c.some_has_flaw-2.result c.if-some_has_flaw-2.false (c.some_has_flaw-2.ensures.1 s))) c.ask_inside.result c.ask_inside.ensures)
