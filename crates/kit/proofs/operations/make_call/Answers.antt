use Rattle.std.proofs.Common.{sym, ap, ◌∙◌}
use Rattle.std.proofs.lemmas.Result.{IfOk-from_err}
use Rattle.ir_names.specs.Dictionary.{with_attribute}
use Rattle.kit_ops.specs.declared.attributes.KitAttr.TheVariants as attrs
use Rattle.kit_ops.specs.Keys.{callee_type}
use Rattle.kit.specs.Forms.{Called}
use Rattle.kit.specs.Making.{RefusesForm}
use Rattle.kit.proofs.Drafted.{drafted, call_made, call_refused}
use Rattle.kit.proofs.Made.{refused_at, memory_refuses_none}
use Rattle.kit.proofs.operations.make_call.Goals as goal

pub returns-clause-made : goal.returns-clause-made
returns-clause-made c =
    let types = c.args.ctx.now.types.keys in
    drafted Called c.args.parts.now types types _ _ _ _ (call_made c.args.parts.now c.in-Some.name.now c.in_ok-try_clone.field-0 c.in-Some.ty types (sym c.in-Some.ensures) c.in_ok-try_clone.ensures)
    (c.draft.ensures.attributes ∙ (c.in_ok-add_entry.ensures ∙ ap (λ entries. with_attribute entries callee_type (attrs.«Type» c.in-Some.ty)) c.in_ok-attributes.ensures))
    (ap (λ v. v.items) c.draft.ensures.types ∙ c.in_ok-result_types.ensures)

pub returns-clause-refused : goal.returns-clause-refused
returns-clause-refused c = λ i e. cc

pub returns-in_default-clause-refused : goal.returns-in_default-clause-refused
returns-in_default-clause-refused c = λ i e. refused_at (λ j. RefusesForm Called c.args.parts.now c.args.ctx.now.types.keys j) 0 (call_refused c.args.parts.now c.args.ctx.now.types.keys (sym c.in_default.ensures)) i e

pub returns-in_err-attributes-clause-refused : goal.returns-in_err-attributes-clause-refused
returns-in_err-attributes-clause-refused c = λ i e. memory_refuses_none c.from_residual-in_err-attributes.result c.from_residual-in_err-attributes.ensures.1 i e

pub returns-in_err-attributes-clause-made : goal.returns-in_err-attributes-clause-made
returns-in_err-attributes-clause-made c = IfOk-from_err _ _ c.from_residual-in_err-attributes.ensures.0

pub returns-in_err-add_entry-clause-refused : goal.returns-in_err-add_entry-clause-refused
returns-in_err-add_entry-clause-refused c = λ i e. memory_refuses_none c.from_residual-in_err-add_entry.result c.from_residual-in_err-add_entry.ensures.1 i e

pub returns-in_err-add_entry-clause-made : goal.returns-in_err-add_entry-clause-made
returns-in_err-add_entry-clause-made c = IfOk-from_err _ _ c.from_residual-in_err-add_entry.ensures.0

pub returns-in_err-result_types-clause-refused : goal.returns-in_err-result_types-clause-refused
returns-in_err-result_types-clause-refused c = λ i e. memory_refuses_none c.from_residual-in_err-result_types.result c.from_residual-in_err-result_types.ensures.1 i e

pub returns-in_err-result_types-clause-made : goal.returns-in_err-result_types-clause-made
returns-in_err-result_types-clause-made c = IfOk-from_err _ _ c.from_residual-in_err-result_types.ensures.0

pub returns-in_err-try_clone-clause-refused : goal.returns-in_err-try_clone-clause-refused
returns-in_err-try_clone-clause-refused c = λ i e. memory_refuses_none c.from_residual.result c.from_residual.ensures.1 i e

pub returns-in_err-try_clone-clause-made : goal.returns-in_err-try_clone-clause-made
returns-in_err-try_clone-clause-made c = IfOk-from_err _ _ c.from_residual.ensures.0
