-- Operations of a kind, or of kinds with an interface.
use Rattle.std.specs.Prelude.{Bool, false, option_map, unwrap_or}
use Rattle.ir_context.specs.Kept.{kind_at}
use Rattle.ir_context.specs.declared.notes.OperationData.{OperationData}
use Rattle.ir_program.specs.Program.{Program}
use Rattle.ir_program.specs.declared.handles.Operation.{Operation}
use Rattle.ir_program.specs.declared.handles.Ptr.{Ptr}

-- a dialect and its types; `passes` is a test of kinds of operations
module _ {D TypeKind AttrKind TypeBody Saved Location OpKind Attr TypeKey B : Type 0} (passes : OpKind → Bool) where
  -- the operation is of a kind that passes
  abbrev pub is_of_kind : Program (OperationData D TypeKind AttrKind TypeBody Saved Location OpKind Attr TypeKey) B
      → Ptr Operation → Bool
  is_of_kind c op = unwrap_or (option_map passes (kind_at c op)) false
