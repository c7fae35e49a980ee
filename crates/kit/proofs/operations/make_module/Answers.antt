use Rattle.kit.specs.Making.{RefusesForm}
use Rattle.std.proofs.lemmas.Result.{IfOk-from_err}
use Rattle.kit.proofs.Made.{refused_at, memory_refuses_none}
use Rattle.std.proofs.Common.{sym, ap, ◌∙◌}
use Rattle.kit.specs.Forms.{NamedRegion}
use Rattle.kit.proofs.Drafted.{drafted, module_made, module_refused}
use Rattle.kit.proofs.operations.make_module.Goals as goal

pub returns-clause-made : goal.returns-clause-made
returns-clause-made c = λ types. drafted NamedRegion c.args.parts.now types types _ _ _ _ (module_made c.args.parts.now c.in-Some.name.now c.in_ok-try_clone.field-0 types (sym c.in-Some.ensures) c.in_ok-try_clone.ensures)
    (c.draft.ensures.attributes ∙ c.in_ok-attributes.ensures) (ap (λ v. v.items) c.draft.ensures.types ∙ c.new.ensures.items)

pub returns-clause-refused : goal.returns-clause-refused
returns-clause-refused c = λ i e types. cc

pub returns-in_default-clause-refused : goal.returns-in_default-clause-refused
returns-in_default-clause-refused c = λ i e types. refused_at (λ j. RefusesForm NamedRegion c.args.parts.now types j) 0 (module_refused c.args.parts.now types (sym c.in_default.ensures)) i e

pub returns-in_err-attributes-clause-refused : goal.returns-in_err-attributes-clause-refused
returns-in_err-attributes-clause-refused c = λ i e. memory_refuses_none c.from_residual-in_err-attributes.result c.from_residual-in_err-attributes.ensures.1 i e

pub returns-in_err-attributes-clause-made : goal.returns-in_err-attributes-clause-made
returns-in_err-attributes-clause-made c = IfOk-from_err _ _ c.from_residual-in_err-attributes.ensures.0

pub returns-in_err-try_clone-clause-refused : goal.returns-in_err-try_clone-clause-refused
returns-in_err-try_clone-clause-refused c = λ i e. memory_refuses_none c.from_residual.result c.from_residual.ensures.1 i e

pub returns-in_err-try_clone-clause-made : goal.returns-in_err-try_clone-clause-made
returns-in_err-try_clone-clause-made c = IfOk-from_err _ _ c.from_residual.ensures.0
