-- The types of what a function takes.
use Rattle.std.proofs.Common.{◌≡◌, ℕ, List, Option, Some, None, IfSome, option_map, subst}
use Rattle.std.proofs.lemmas.Option.{none-some, same_Some}
use Rattle.ir_base.specs.declared.types.TypeHandle.{TypeHandle}
use Rattle.ir_context.specs.Known.{AreKnownIn}

-- where a signature's inputs are types of the context, so are the inputs that a call gave
pub inputs_known : (n : ℕ) (signature : Option (List TypeHandle × List TypeHandle)) (inputs : List TypeHandle)
    → IfSome signature (λ sides. AreKnownIn n sides.0) → option_map (λ sides. sides.0) signature ≡ Some inputs → AreKnownIn n inputs
inputs_known n None inputs known e = absurd (none-some inputs e)
inputs_known n (Some sides) inputs known e = subst (AreKnownIn n) (same_Some sides.0 inputs e) known
