-- Which kinds of operations are isolated from above.
use Rattle.std.specs.Prelude.{Bool}
use Rattle.ir_names.specs.declared.interfaces.OpInterface.{OpInterface}
use Rattle.ir_names.specs.declared.interfaces.OpInterface.TheVariants.{IsolatedFromAbove}

-- given the interfaces that kinds implement: those that implement this one
abbrev pub is_isolated : {K : Type 0} → (K → OpInterface → Bool) → K → Bool
is_isolated has kind = has kind IsolatedFromAbove
