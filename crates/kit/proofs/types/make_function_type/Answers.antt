use Rattle.std.proofs.lemmas.Result.{IfOk-from_err}
use Rattle.std.proofs.Common.{◌≡◌, Some, None, option_map, sym, ap, ◌∙◌, subst, inl, inr}
use Rattle.kit_ops.specs.declared.types.KitType.TheVariants as keys
use Rattle.kit.specs.Making.{each_type, MakesTypeOfKind, RefusesTypeOfKind}
use Rattle.kit.proofs.Made.{no_value, function_type_made, function_type_refused, refused_at, two_items, memory_refuses_none}
use Rattle.kit.proofs.types.make_function_type.Goals as goal

pub returns-in_default-2-clause-refused : goal.returns-in_default-2-clause-refused
returns-in_default-2-clause-refused c =
    let two = two_items c.args.parts.now c.first-item.result c.second-item.result c.in-len2.len_at_least c.in-len2.len_below c.first-item.is c.second-item.is in
    let none : each_type c.in-Some.inputs.now.items ≡ None = ap each_type (sym c.deref.ensures.value) ∙ (sym c.in_ok-inputs.ensures ∙ ap (option_map (λ v. v.items)) c.in_default-2.is) in
    refused_at (RefusesTypeOfKind 1 c.args.parts.now) 0 (subst (λ ps. RefusesTypeOfKind 1 ps 0) (sym two) (function_type_refused _ _ (inl (λ ms e. let f = c.in-Some.ensures in let same : ms ≡ c.in-Some.inputs.now = cc in ap (λ ns. each_type ns.items) same ∙ none))))

pub returns-in_default-3-clause-refused : goal.returns-in_default-3-clause-refused
returns-in_default-3-clause-refused c =
    let two = two_items c.args.parts.now c.first-item.result c.second-item.result c.in-len2.len_at_least c.in-len2.len_below c.first-item.is c.second-item.is in
    let none : each_type c.in-Some-list_in.results.now.items ≡ None = ap each_type (sym c.deref-2.ensures.value) ∙ (sym c.in_ok-results.ensures ∙ ap (option_map (λ v. v.items)) c.in_default-3.is) in
    refused_at (RefusesTypeOfKind 1 c.args.parts.now) 0 (subst (λ ps. RefusesTypeOfKind 1 ps 0) (sym two) (function_type_refused _ _ (inr (λ ms e. let f = c.in-Some-list_in.ensures in let same : ms ≡ c.in-Some-list_in.results.now = cc in ap (λ ns. each_type ns.items) same ∙ none))))

pub returns-clause-made : goal.returns-clause-made
returns-clause-made c =
    let two = two_items c.args.parts.now c.first-item.result c.second-item.result c.in-len2.len_at_least c.in-len2.len_below c.first-item.is c.second-item.is in
    let inputs : each_type c.in-Some.inputs.now.items ≡ Some c.in-Some-2.inputs.items = ap each_type (sym c.deref.ensures.value) ∙ (sym c.in_ok-inputs.ensures ∙ ap (option_map (λ v. v.items)) c.in-Some-2.is) in
    let results : each_type c.in-Some-list_in.results.now.items ≡ Some c.in-Some-3.results.items = ap each_type (sym c.deref-2.ensures.value) ∙ (sym c.in_ok-results.ensures ∙ ap (option_map (λ v. v.items)) c.in-Some-3.is) in
    subst (λ ps. MakesTypeOfKind 1 ps (keys.Function (record { inputs = c.in-Some-2.inputs; results = c.in-Some-3.results }))) (sym two) (function_type_made _ _ _ _ c.in-Some-2.inputs c.in-Some-3.results (sym c.in-Some.ensures) (sym c.in-Some-list_in.ensures) inputs results)

pub returns-in_default-clause-made : goal.returns-in_default-clause-made
returns-in_default-clause-made c = tt

pub returns-in_default-2-clause-made : goal.returns-in_default-2-clause-made
returns-in_default-2-clause-made c = tt

pub returns-in_default-3-clause-made : goal.returns-in_default-3-clause-made
returns-in_default-3-clause-made c = tt

pub returns-in_default-list_in-clause-made : goal.returns-in_default-list_in-clause-made
returns-in_default-list_in-clause-made c = tt

pub returns-clause-refused : goal.returns-clause-refused
returns-clause-refused c = λ i e. cc

pub returns-in_err-inputs-clause-refused : goal.returns-in_err-inputs-clause-refused
returns-in_err-inputs-clause-refused c = λ i e. memory_refuses_none c.from_residual.result c.from_residual.ensures.1 i e

pub returns-in_err-inputs-clause-made : goal.returns-in_err-inputs-clause-made
returns-in_err-inputs-clause-made c = IfOk-from_err _ _ c.from_residual.ensures.0

pub returns-in_err-results-clause-refused : goal.returns-in_err-results-clause-refused
returns-in_err-results-clause-refused c = λ i e. memory_refuses_none c.from_residual-in_err-results.result c.from_residual-in_err-results.ensures.1 i e

pub returns-in_err-results-clause-made : goal.returns-in_err-results-clause-made
returns-in_err-results-clause-made c = IfOk-from_err _ _ c.from_residual-in_err-results.ensures.0

pub returns-in_default-list_in-clause-refused : goal.returns-in_default-list_in-clause-refused
returns-in_default-list_in-clause-refused c =
    let two = two_items c.args.parts.now c.first-item.result c.second-item.result c.in-len2.len_at_least c.in-len2.len_below c.first-item.is c.second-item.is in
    refused_at (RefusesTypeOfKind 1 c.args.parts.now) 0 (subst (λ ps. RefusesTypeOfKind 1 ps 0) (sym two) (function_type_refused _ _ (inl (λ ms e. no_value _ c.in_default-list_in.ensures e))))
