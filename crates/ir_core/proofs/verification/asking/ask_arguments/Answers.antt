use Rattle.std.proofs.Common.{◌∙◌, sym, ◌≡◌, length, arith, ◌≤◌}
use Rattle.std.proofs.lemmas.List.{length-map}
use Rattle.ir_program.specs.Program.{arguments_at}
use Rattle.ir_core.specs.verification.Tests.{tests_of_types}
use Rattle.ir_core.proofs.VerificationLemmas.Asked.{type-tested, type_test, below-next, below-all, accepted-of, refused-of, answered-of, answers-err, handed-on}
use Rattle.ir_core.proofs.VerificationLemmas.Passed.{fault-at}
use Rattle.ir_core.proofs.verification.asking.ask_arguments.Goals as goal

pub returns-in_err-verify_type : goal.returns-in_err-verify_type
returns-in_err-verify_type g c =
    let here = type-tested c.args.ctx.now.program (arguments_at c.args.ctx.now.program c.args.block) c.loop-i.i c.get_argument.result c.get_argument.ensures.value c.get_argument.ensures.typed {Attr = g.row.D-Attr.Denot} c.get_type-ty.result c.get_type-ty.ensures.exact in
    answers-err (g.V.Verifiers.accepts c.args.verifiers.now c.args.ctx.now) (g.V.Verifiers.answers c.args.verifiers.now c.args.ctx.now) (tests_of_types (arguments_at c.args.ctx.now.program c.args.block)) c.from_residual.result c.in_err-verify_type.field-0.0 (handed-on c.from_residual.result c.in_err-verify_type.field-0.0 c.from_residual.ensures.1)
    (fault-at (g.V.Verifiers.accepts c.args.verifiers.now c.args.ctx.now) (g.V.Verifiers.answers c.args.verifiers.now c.args.ctx.now) (tests_of_types (arguments_at c.args.ctx.now.program c.args.block)) c.loop-i.i (type_test c.get_type-ty.result) c.in_err-verify_type.field-0.0 here c.loop-i.invariant
    (refused-of (g.V.Verifiers.accepts c.args.verifiers.now c.args.ctx.now) (g.V.Verifiers.answers c.args.verifiers.now c.args.ctx.now) (type_test c.get_type-ty.result) c.verify_type.result c.in_err-verify_type.field-0.0 c.in_err-verify_type.was c.verify_type.ensures.accepted)
    (answered-of (g.V.Verifiers.accepts c.args.verifiers.now c.args.ctx.now) (g.V.Verifiers.answers c.args.verifiers.now c.args.ctx.now) (type_test c.get_type-ty.result) c.verify_type.result c.in_err-verify_type.field-0.0 c.in_err-verify_type.was c.verify_type.ensures.fault))

pub loop-i-preserved : goal.loop-i-preserved
loop-i-preserved g c =
    let here = type-tested c.args.ctx.now.program (arguments_at c.args.ctx.now.program c.args.block) c.loop-i.i c.get_argument.result c.get_argument.ensures.value c.get_argument.ensures.typed {Attr = g.row.D-Attr.Denot} c.get_type-ty.result c.get_type-ty.ensures.exact in
    below-next (g.V.Verifiers.accepts c.args.verifiers.now c.args.ctx.now) (tests_of_types (arguments_at c.args.ctx.now.program c.args.block)) c.loop-i.i (type_test c.get_type-ty.result) here
    (accepted-of (g.V.Verifiers.accepts c.args.verifiers.now c.args.ctx.now) (g.V.Verifiers.answers c.args.verifiers.now c.args.ctx.now) (type_test c.get_type-ty.result) c.verify_type.result c.in_ok-verify_type.field-0 c.in_ok-verify_type.was c.verify_type.ensures.accepted)
    c.loop-i.invariant

pub returns : goal.returns
returns g c =
    let many : length (tests_of_types {Attr = g.row.D-Attr.Denot} (arguments_at c.args.ctx.now.program c.args.block)) ≡ c.get_num_arguments-i-end.result = length-map _ _ ∙ sym c.get_num_arguments-i-end.ensures in
    let past : c.get_num_arguments-i-end.result ≤ c.loop-i.i = c.loop-i-test.false in
    below-all (g.V.Verifiers.accepts c.args.verifiers.now c.args.ctx.now) (tests_of_types (arguments_at c.args.ctx.now.program c.args.block)) c.loop-i.i (omega (arith, many, past)) c.loop-i.invariant
