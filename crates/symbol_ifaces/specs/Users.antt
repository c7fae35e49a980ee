-- Whether the symbol that an operation uses is there.
use Rattle.std.specs.Prelude.{◌≡◌, ℕ, Bool, List, Option, Some, None}
use Rattle.ir_program.specs.Program.{Program}
use Rattle.ir_program.specs.declared.handles.Ptr.{Ptr}
use Rattle.ir_program.specs.declared.handles.Operation.{Operation}
use Rattle.ir_symbols.specs.Lookups.{IsFoundInNearest}

-- `name_in` and `holds_table` say of what operations carry which names they have, and whether they hold tables; `uses` says of an operation which name it uses
module _ {O B : Type 0} (name_in : O → Option (List ℕ)) (holds_table : O → Bool) (uses : Ptr Operation → Option (List ℕ)) (c : Program O B) (op : Ptr Operation) where
  -- if it uses a name, the nearest table around it has a symbol of that name
  abbrev pub FindsItsSymbol : Type 0
  FindsItsSymbol = (name : List ℕ) → uses op ≡ Some name → (found : Ptr Operation) × IsFoundInNearest name_in holds_table c op name (Some found)

  -- it uses a name, and the nearest table has no symbol of that name, or no table is around it
  abbrev pub UsesUnknownSymbol : Type 0
  UsesUnknownSymbol = (name : List ℕ) × (uses op ≡ Some name) × IsFoundInNearest name_in holds_table c op name None
