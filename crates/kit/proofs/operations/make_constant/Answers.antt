use Rattle.kit.specs.Making.{RefusesForm}
use Rattle.std.proofs.lemmas.Result.{IfOk-from_err}
use Rattle.kit.proofs.Made.{refused_at, memory_refuses_none}
use Rattle.std.proofs.Common.{sym, ap, ◌∙◌, refl}
use Rattle.kit.specs.Forms.{Value}
use Rattle.kit.proofs.Drafted.{drafted, constant_made, constant_refused}
use Rattle.kit.proofs.operations.make_constant.Goals as goal

pub returns-clause-made : goal.returns-clause-made
returns-clause-made c =
    drafted Value c.args.parts.now c.args.ctx.now.types.keys c.type_of_integer.new.ctx.types.keys _ _ _ _ (constant_made c.args.parts.now c.in-Some.integer c.args.ctx.now.types.keys c.type_of_integer.new.ctx.types.keys c.in_ok-ty.ty (sym c.in-Some.ensures) c.in_ok-ty.ensures.handle (λ ty k e. (c.type_of_integer.ensures.types ty k e).0))
    (c.draft.ensures.attributes ∙ c.in_ok-attributes.ensures) (ap (λ v. v.items) c.draft.ensures.types ∙ c.in_ok-result_types.ensures.items)

pub returns-clause-types : goal.returns-clause-types
returns-clause-types c = c.type_of_integer.ensures.types

pub returns-clause-program : goal.returns-clause-program
returns-clause-program c = c.type_of_integer.ensures.program

pub returns-clause-refused : goal.returns-clause-refused
returns-clause-refused c = λ i e. cc

pub returns-in_err-ty-clause-types : goal.returns-in_err-ty-clause-types
returns-in_err-ty-clause-types c = c.type_of_integer.ensures.types

pub returns-in_err-ty-clause-program : goal.returns-in_err-ty-clause-program
returns-in_err-ty-clause-program c = c.type_of_integer.ensures.program

pub returns-in_err-ty-clause-refused : goal.returns-in_err-ty-clause-refused
returns-in_err-ty-clause-refused c = λ i e. memory_refuses_none c.from_residual.result c.from_residual.ensures.1 i e

pub returns-in_err-ty-clause-made : goal.returns-in_err-ty-clause-made
returns-in_err-ty-clause-made c = IfOk-from_err _ _ c.from_residual.ensures.0

pub returns-in_err-result_types-clause-types : goal.returns-in_err-result_types-clause-types
returns-in_err-result_types-clause-types c = c.type_of_integer.ensures.types

pub returns-in_err-result_types-clause-program : goal.returns-in_err-result_types-clause-program
returns-in_err-result_types-clause-program c = c.type_of_integer.ensures.program

pub returns-in_err-result_types-clause-refused : goal.returns-in_err-result_types-clause-refused
returns-in_err-result_types-clause-refused c = λ i e. memory_refuses_none c.from_residual-in_err-result_types.result c.from_residual-in_err-result_types.ensures.1 i e

pub returns-in_err-result_types-clause-made : goal.returns-in_err-result_types-clause-made
returns-in_err-result_types-clause-made c = IfOk-from_err _ _ c.from_residual-in_err-result_types.ensures.0

pub returns-in_err-attributes-clause-types : goal.returns-in_err-attributes-clause-types
returns-in_err-attributes-clause-types c = c.type_of_integer.ensures.types

pub returns-in_err-attributes-clause-program : goal.returns-in_err-attributes-clause-program
returns-in_err-attributes-clause-program c = c.type_of_integer.ensures.program

pub returns-in_err-attributes-clause-refused : goal.returns-in_err-attributes-clause-refused
returns-in_err-attributes-clause-refused c = λ i e. memory_refuses_none c.from_residual-in_err-attributes.result c.from_residual-in_err-attributes.ensures.1 i e

pub returns-in_err-attributes-clause-made : goal.returns-in_err-attributes-clause-made
returns-in_err-attributes-clause-made c = IfOk-from_err _ _ c.from_residual-in_err-attributes.ensures.0

pub returns-in_default-clause-types : goal.returns-in_default-clause-types
returns-in_default-clause-types c = λ ty key e. (e, refl)

pub returns-in_default-clause-refused : goal.returns-in_default-clause-refused
returns-in_default-clause-refused c = λ i e. refused_at (λ j. RefusesForm Value c.args.parts.now c.args.ctx.now.types.keys j) 0 (constant_refused c.args.parts.now c.args.ctx.now.types.keys (sym c.in_default.ensures)) i e

pub returns-in_default-clause-program : goal.returns-in_default-clause-program
returns-in_default-clause-program c = refl

pub returns-in_default-clause-made : goal.returns-in_default-clause-made
returns-in_default-clause-made c = tt
