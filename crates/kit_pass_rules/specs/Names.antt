-- Other handles of operations.
use Rattle.ir_program.specs.declared.handles.Operation.{Operation}
use Rattle.ir_program.specs.declared.handles.Ptr.{Ptr}
use Rattle.ir_trees.specs.Renames.{Maps}
use Rattle.ir_trees.specs.Stands.{by_handle}

-- other handles of operations alone
abbrev pub maps_of : (Ptr Operation → Ptr Operation) → Maps by_handle by_handle
maps_of names = record { operation = names; block = λ b. b; value = λ v. v }
