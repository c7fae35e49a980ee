-- The first operation with a name.
use Rattle.std.specs.Prelude.{ℕ, Bool, false, List, [], ◌∷◌, Option, Some, None, cond, bytes_eq}
use Rattle.std.specs.Option.{option_map_or}
use Rattle.ir_program.specs.Program.{Program}
use Rattle.ir_program.specs.declared.handles.Operation.{Operation}
use Rattle.ir_program.specs.declared.handles.Ptr.{Ptr}
use Rattle.ir_symbols.specs.Symbols.{name_at}

module _ {O B : Type 0} (name_in : O → Option (List ℕ)) (c : Program O B) (name : List ℕ) where
  -- whether the operation has the name
  abbrev pub has_name : Ptr Operation → Bool
  has_name p = option_map_or (bytes_eq name) (name_at name_in c p) false

  -- the first of these operations that has the name
  abbrev pub first_named : List (Ptr Operation) → Option (Ptr Operation)
  first_named [] = None
  first_named (p ∷ ps) = cond (has_name p) (Some p) (first_named ps)
