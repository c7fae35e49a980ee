-- The rows of an operation whose types interfaces speak of.
use Rattle.std.specs.Prelude.{ℕ, Bool, false, Option, length, slice_get, option_and_then}
use Rattle.std.specs.Option.{option_map_or}
use Rattle.ir_base.specs.declared.types.TypeHandle.{TypeHandle}
use Rattle.ir_program.specs.Program.{Program, type_at, results_at, type_in}
use Rattle.ir_program.specs.Rows.{operands_at}
use Rattle.ir_program.specs.declared.handles.Ptr.{Ptr}
use Rattle.ir_program.specs.declared.handles.Operation.{Operation}
use Rattle.op_ifaces.specs.declared.rows.Row.{Row}
use Rattle.op_ifaces.specs.declared.rows.Row.TheVariants.{Operands, Results}

module _ {O B : Type 0} (c : Program O B) (op : Ptr Operation) where
  -- how many values are in the row
  abbrev pub row_length : Row → ℕ
  row_length Operands = length (operands_at c op)
  row_length Results = length (results_at c op)

  -- the type of the value at an index of the row
  abbrev pub row_type : Row → ℕ → Option TypeHandle
  row_type Operands k = option_and_then (type_at c) (slice_get (operands_at c op) k)
  row_type Results k = type_in (results_at c op) k

-- there is a type, and it passes the test
abbrev pub passes_test : (TypeHandle → Bool) → Option TypeHandle → Bool
passes_test test ty = option_map_or test ty false
