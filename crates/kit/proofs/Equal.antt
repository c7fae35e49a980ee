-- Function types with the same inputs and results compare equal.
use Rattle.std.proofs.Common.{◌≡◌, Bool, true, List, subst}
use Rattle.std.specs.Prelude.{◌&&◌}
use Rattle.std.specs.Cmp.Lexicographic.{pointwise}
use Rattle.ir_base.specs.declared.types.TypeHandle.{TypeHandle}
use Rattle.ir_base.specs.contracts.types.TypeHandlePartialEq.TheImpl as of_handles
use Rattle.kit_ops.specs.declared.types.FunctionType.{FunctionType}
use Rattle.kit_ops.specs.declared.types.KitType.TheVariants.{Function}
use Rattle.kit_ops.specs.contracts.types.FunctionTypeEq.TheImpl.Laws as function_laws
use Rattle.kit_ops.specs.contracts.types.KitTypePartialEq.TheImpl as of_types

-- the lists have the same handles
abbrev same : List TypeHandle → List TypeHandle → Bool
same = pointwise of_handles.eq-value.it

pub functions_equal : (a b : FunctionType) → a.inputs.items ≡ b.inputs.items → a.results.items ≡ b.results.items
    → of_types.eq-value.it (Function a) (Function b) ≡ true
functions_equal a b e f =
    subst (λ (xs : List TypeHandle). (same a.inputs.items xs && same a.results.items b.results.items) ≡ true) e
    (subst (λ (xs : List TypeHandle). (same a.inputs.items a.inputs.items && same a.results.items xs) ≡ true) f
    (function_laws.laws-law.refl a))
