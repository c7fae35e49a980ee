use Rattle.std.proofs.Common.{◌≡◌, true, sym, ◌∙◌, subst}
use Rattle.kit_ops.specs.declared.types.FunctionType.{FunctionType}
use Rattle.kit_ops.specs.declared.types.KitType.{KitType}
use Rattle.kit_ops.specs.declared.types.KitType.TheVariants.{Function}
use Rattle.kit_ops.specs.contracts.types.KitTypePartialEq.TheImpl as of_types
use Rattle.kit.proofs.Equal.{functions_equal}
use Rattle.kit.proofs.dialect.KitDialectTables.clone_type_key.Goals as goal

pub returns-in_ok-from_slice-in-Function-2 : goal.returns-in_ok-from_slice-in-Function-2
returns-in_ok-from_slice-in-Function-2 c =
    let copy : FunctionType = record {
      inputs = c.in_ok-from_slice-in-Function.field-0;
      results = c.in_ok-from_slice-in-Function-2.field-0;
    } in
    subst (λ (t : KitType). of_types.eq-value.it (Function copy) t ≡ true) (sym c.in-Function.is)
    (functions_equal copy c.in-Function.function
    (c.in_ok-from_slice-in-Function.ensures.items ∙ c.deref.ensures.value)
    (c.in_ok-from_slice-in-Function-2.ensures.items ∙ c.deref-in-Function.ensures.value))
