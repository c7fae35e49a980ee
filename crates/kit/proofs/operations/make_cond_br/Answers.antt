use Rattle.std.proofs.Common.{sym, ap, ◌∙◌}
use Rattle.std.proofs.lemmas.Result.{IfOk-from_err}
use Rattle.kit.specs.Forms.{ConditionEdges}
use Rattle.kit.specs.Making.{RefusesForm}
use Rattle.kit.proofs.Drafted.{drafted, edges_made, edges_refused}
use Rattle.kit.proofs.Made.{refused_at, memory_refuses_none}
use Rattle.kit.proofs.operations.make_cond_br.Goals as goal

pub returns-clause-made : goal.returns-clause-made
returns-clause-made c = λ types. drafted ConditionEdges c.args.parts.now types types _ _ _ _
    (edges_made c.args.parts.now c.in-Some.first c.in-Some.second c.in_ok-sizes.sizes types (sym c.in-Some.ensures) c.in_ok-sizes.ensures)
    (c.draft.ensures.attributes ∙ c.in_ok-attributes.ensures) (ap (λ v. v.items) c.draft.ensures.types ∙ c.new.ensures.items)

pub returns-clause-refused : goal.returns-clause-refused
returns-clause-refused c = λ i e types. cc

pub returns-in_default-clause-refused : goal.returns-in_default-clause-refused
returns-in_default-clause-refused c = λ i e types. refused_at (λ j. RefusesForm ConditionEdges c.args.parts.now types j) 0 (edges_refused c.args.parts.now types (sym c.in_default.ensures)) i e

pub returns-in_err-sizes-clause-refused : goal.returns-in_err-sizes-clause-refused
returns-in_err-sizes-clause-refused c = λ i e. memory_refuses_none c.from_residual.result c.from_residual.ensures.1 i e

pub returns-in_err-sizes-clause-made : goal.returns-in_err-sizes-clause-made
returns-in_err-sizes-clause-made c = IfOk-from_err _ _ c.from_residual.ensures.0

pub returns-in_err-attributes-clause-refused : goal.returns-in_err-attributes-clause-refused
returns-in_err-attributes-clause-refused c = λ i e. memory_refuses_none c.from_residual-in_err-attributes.result c.from_residual-in_err-attributes.ensures.1 i e

pub returns-in_err-attributes-clause-made : goal.returns-in_err-attributes-clause-made
returns-in_err-attributes-clause-made c = IfOk-from_err _ _ c.from_residual-in_err-attributes.ensures.0
