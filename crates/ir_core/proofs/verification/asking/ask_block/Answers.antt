use Rattle.std.proofs.Common.{[], ap, unwrap_or, option_map}
use Rattle.ir_program.specs.Program.{arguments_at}
use Rattle.ir_program.specs.Lent.{block_payload_at}
use Rattle.ir_context.specs.declared.notes.BlockNotes.{BlockNotes}
use Rattle.ir_core.specs.verification.Tests.{tests_of_attributes, tests_of_types}
use Rattle.ir_core.proofs.VerificationLemmas.Asked.{first-refuses, second-answers}
use Rattle.ir_core.proofs.verification.asking.ask_block.Goals as goal

pub returns-in_err-ask_attributes : goal.returns-in_err-ask_attributes
returns-in_err-ask_attributes g c =
    first-refuses (g.V.Verifiers.accepts c.args.verifiers.now c.args.ctx.now) (g.V.Verifiers.answers c.args.verifiers.now c.args.ctx.now) (tests_of_attributes (unwrap_or (option_map (λ (n : BlockNotes _ _ _ _ _ _ _ _ _). n.attributes) (block_payload_at c.args.ctx.now.program c.args.block)) [])) (tests_of_attributes c.deref-notes.result.now.attributes) (tests_of_types (arguments_at c.args.ctx.now.program c.args.block)) c.ask_attributes.result c.from_residual.result c.in_err-ask_attributes.field-0.0 (ap (λ o. tests_of_attributes (unwrap_or (option_map (λ (n : BlockNotes _ _ _ _ _ _ _ _ _). n.attributes) o) [])) c.deref-notes.ensures) c.in_err-ask_attributes.was c.ask_attributes.ensures c.from_residual.ensures.1

pub returns : goal.returns
returns g c = second-answers (g.V.Verifiers.accepts c.args.verifiers.now c.args.ctx.now) (g.V.Verifiers.answers c.args.verifiers.now c.args.ctx.now) (tests_of_attributes (unwrap_or (option_map (λ (n : BlockNotes _ _ _ _ _ _ _ _ _). n.attributes) (block_payload_at c.args.ctx.now.program c.args.block)) [])) (tests_of_attributes c.deref-notes.result.now.attributes) (tests_of_types (arguments_at c.args.ctx.now.program c.args.block)) c.ask_attributes.result c.ask_arguments.result c.in_ok-ask_attributes.field-0 (ap (λ o. tests_of_attributes (unwrap_or (option_map (λ (n : BlockNotes _ _ _ _ _ _ _ _ _). n.attributes) o) [])) c.deref-notes.ensures) c.in_ok-ask_attributes.was c.ask_attributes.ensures c.ask_arguments.ensures
