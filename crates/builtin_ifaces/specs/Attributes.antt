-- What the attributes of an operation hold.
use Rattle.std.specs.Prelude.{ℕ, List, Option, option_and_then}
use Rattle.ir_names.specs.Dictionary.{attribute_at}
use Rattle.ir_program.specs.Program.{Program}
use Rattle.ir_program.specs.declared.handles.Ptr.{Ptr}
use Rattle.ir_program.specs.declared.handles.Operation.{Operation}
use Rattle.ir_context.specs.Kept.{notes_at}
use Rattle.ir_context.specs.declared.notes.OperationData.{OperationData}

-- a dialect and its types
module _ {D TypeKind AttrKind TypeBody Saved Location OpKind Attr TypeKey B : Type 0} (c : Program (OperationData D TypeKind AttrKind TypeBody Saved Location OpKind Attr TypeKey) B) (op : Ptr Operation) where
  -- the attribute of the operation under a key
  abbrev pub attribute_under : List ℕ → Option Attr
  attribute_under key = option_and_then (λ notes. attribute_at notes.attributes key) (notes_at c op)

  -- what this attribute holds; `held` says it of each attribute, None where one holds something else
  abbrev pub held_under : {X : Type 0} → (Attr → Option X) → List ℕ → Option X
  held_under held key = option_and_then held (attribute_under key)
