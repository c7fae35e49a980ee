use Rattle.std.proofs.Common.{[], ◌∷◌, ◌++◌, ap, unwrap_or, option_map, refl}
use Rattle.ir_program.specs.Program.{results_at}
use Rattle.ir_context.specs.Kept.{notes_at}
use Rattle.ir_context.specs.declared.notes.OperationNotes.{OperationNotes}
use Rattle.ir_core.specs.verification.Tests.{tests_of_attributes, tests_of_types, of_op}
use Rattle.ir_core.proofs.VerificationLemmas.Asked.{first-refuses, second-answers, one-test}
use Rattle.ir_core.proofs.verification.asking.ask_operation.Goals as goal

pub returns-in_err-verify_op : goal.returns-in_err-verify_op
returns-in_err-verify_op g c =
    first-refuses (g.V.Verifiers.accepts c.args.verifiers.now c.args.ctx.now) (g.V.Verifiers.answers c.args.verifiers.now c.args.ctx.now) (of_op c.args.op ∷ []) (of_op c.args.op ∷ []) ((tests_of_attributes (unwrap_or (option_map (λ (n : OperationNotes _ _ _ _ _ _ _ _ _). n.attributes) (notes_at c.args.ctx.now.program c.args.op)) [])) ++ (tests_of_types (results_at c.args.ctx.now.program c.args.op))) c.verify_op.result c.from_residual.result c.in_err-verify_op.field-0.0 refl c.in_err-verify_op.was
    (one-test (g.V.Verifiers.accepts c.args.verifiers.now c.args.ctx.now) (g.V.Verifiers.answers c.args.verifiers.now c.args.ctx.now) (of_op c.args.op) c.verify_op.result c.verify_op.ensures.accepted c.verify_op.ensures.fault) c.from_residual.ensures.1

pub returns-in_err-ask_attributes : goal.returns-in_err-ask_attributes
returns-in_err-ask_attributes g c =
    second-answers (g.V.Verifiers.accepts c.args.verifiers.now c.args.ctx.now) (g.V.Verifiers.answers c.args.verifiers.now c.args.ctx.now) (of_op c.args.op ∷ []) (of_op c.args.op ∷ []) ((tests_of_attributes (unwrap_or (option_map (λ (n : OperationNotes _ _ _ _ _ _ _ _ _). n.attributes) (notes_at c.args.ctx.now.program c.args.op)) [])) ++ (tests_of_types (results_at c.args.ctx.now.program c.args.op))) c.verify_op.result c.from_residual-in_err-ask_attributes.result c.in_ok-verify_op.field-0 refl c.in_ok-verify_op.was
    (one-test (g.V.Verifiers.accepts c.args.verifiers.now c.args.ctx.now) (g.V.Verifiers.answers c.args.verifiers.now c.args.ctx.now) (of_op c.args.op) c.verify_op.result c.verify_op.ensures.accepted c.verify_op.ensures.fault)
    (first-refuses (g.V.Verifiers.accepts c.args.verifiers.now c.args.ctx.now) (g.V.Verifiers.answers c.args.verifiers.now c.args.ctx.now) (tests_of_attributes (unwrap_or (option_map (λ (n : OperationNotes _ _ _ _ _ _ _ _ _). n.attributes) (notes_at c.args.ctx.now.program c.args.op)) [])) (tests_of_attributes c.deref-notes.result.now.attributes) (tests_of_types (results_at c.args.ctx.now.program c.args.op)) c.ask_attributes.result c.from_residual-in_err-ask_attributes.result c.in_err-ask_attributes.field-0.0 (ap (λ o. tests_of_attributes (unwrap_or (option_map (λ (n : OperationNotes _ _ _ _ _ _ _ _ _). n.attributes) o) [])) c.deref-notes.ensures) c.in_err-ask_attributes.was c.ask_attributes.ensures c.from_residual-in_err-ask_attributes.ensures.1)

pub returns : goal.returns
returns g c =
    second-answers (g.V.Verifiers.accepts c.args.verifiers.now c.args.ctx.now) (g.V.Verifiers.answers c.args.verifiers.now c.args.ctx.now) (of_op c.args.op ∷ []) (of_op c.args.op ∷ []) ((tests_of_attributes (unwrap_or (option_map (λ (n : OperationNotes _ _ _ _ _ _ _ _ _). n.attributes) (notes_at c.args.ctx.now.program c.args.op)) [])) ++ (tests_of_types (results_at c.args.ctx.now.program c.args.op))) c.verify_op.result c.ask_results.result c.in_ok-verify_op.field-0 refl c.in_ok-verify_op.was
    (one-test (g.V.Verifiers.accepts c.args.verifiers.now c.args.ctx.now) (g.V.Verifiers.answers c.args.verifiers.now c.args.ctx.now) (of_op c.args.op) c.verify_op.result c.verify_op.ensures.accepted c.verify_op.ensures.fault)
    (second-answers (g.V.Verifiers.accepts c.args.verifiers.now c.args.ctx.now) (g.V.Verifiers.answers c.args.verifiers.now c.args.ctx.now) (tests_of_attributes (unwrap_or (option_map (λ (n : OperationNotes _ _ _ _ _ _ _ _ _). n.attributes) (notes_at c.args.ctx.now.program c.args.op)) [])) (tests_of_attributes c.deref-notes.result.now.attributes) (tests_of_types (results_at c.args.ctx.now.program c.args.op)) c.ask_attributes.result c.ask_results.result c.in_ok-ask_attributes.field-0 (ap (λ o. tests_of_attributes (unwrap_or (option_map (λ (n : OperationNotes _ _ _ _ _ _ _ _ _). n.attributes) o) [])) c.deref-notes.ensures) c.in_ok-ask_attributes.was c.ask_attributes.ensures c.ask_results.ensures)
