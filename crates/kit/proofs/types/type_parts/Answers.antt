use Rattle.std.proofs.Common.{sym, subst}
use Rattle.ir_print.specs.Shown.{ShowsParts, ShowsKey}
use Rattle.kit.specs.Parts.{IsTypeList}
use Rattle.kit.specs.Says.{says}
use Rattle.kit.proofs.Parted.{function_type_parted}
use Rattle.kit.proofs.types.type_parts.Goals as goal

pub returns-in_ok-vec-in-Function : goal.returns-in_ok-vec-in-Function
returns-in_ok-vec-in-Function c = λ types n ps h.
    let inputs = subst (λ tys. IsTypeList tys c.in_ok-inputs-in-Function.inputs) c.deref.ensures.value c.in_ok-inputs-in-Function.ensures in
    let results = subst (λ tys. IsTypeList tys c.in_ok-results-in-Function.results) c.deref-in-Function.ensures.value c.in_ok-results-in-Function.ensures in
    subst (λ parts. ShowsParts says types parts ps) (sym c.in_ok-vec-in-Function.ensures.items)
    (function_type_parted types c.in-Function.function c.in_ok-inputs-in-Function.inputs c.in_ok-results-in-Function.results n ps inputs results (subst (λ key. ShowsKey says types key n ps) c.in-Function.is h))
