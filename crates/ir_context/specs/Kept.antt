-- What contracts say of the kinds of operations, and of the notes of operations and blocks.
use Rattle.std.specs.Prelude.{Option, option_map}
use Rattle.ir_program.specs.Program.{Program}
use Rattle.ir_program.specs.Lent.{payload_at, block_payload_at}
use Rattle.ir_program.specs.declared.handles.Ptr.{Ptr}
use Rattle.ir_program.specs.declared.handles.Operation.{Operation}
use Rattle.ir_program.specs.declared.handles.BasicBlock.{BasicBlock}
use Rattle.ir_names.specs.declared.identifier.Identifier.{Identifier}
use Rattle.ir_context.specs.declared.notes.OperationData.{OperationData}
use Rattle.ir_context.specs.declared.notes.OperationNotes.{OperationNotes}
use Rattle.ir_context.specs.declared.notes.BlockNotes.{BlockNotes}

-- a dialect and its types
module _ {D TypeKind AttrKind TypeBody Saved Location OpKind Attr TypeKey : Type 0} where
  module _ {B : Type 0} where
    -- the kind of an operation
    abbrev pub kind_at : Program (OperationData D TypeKind AttrKind TypeBody Saved Location OpKind Attr TypeKey) B → Ptr Operation → Option OpKind
    kind_at c p = option_map (λ d. d.kind) (payload_at c p)

    -- the notes of an operation
    abbrev pub notes_at : Program (OperationData D TypeKind AttrKind TypeBody Saved Location OpKind Attr TypeKey) B → Ptr Operation → Option (OperationNotes D TypeKind AttrKind TypeBody Saved Location OpKind Attr TypeKey)
    notes_at c p = option_map (λ d. d.notes) (payload_at c p)

    -- where an operation comes from
    abbrev pub location_at : Program (OperationData D TypeKind AttrKind TypeBody Saved Location OpKind Attr TypeKey) B → Ptr Operation → Option Location
    location_at c p = option_map (λ d. d.notes.loc) (payload_at c p)

  module _ {O : Type 0} where
    -- where a block comes from
    abbrev pub block_location_at : Program O (BlockNotes D TypeKind AttrKind TypeBody Saved Location OpKind Attr TypeKey) → Ptr BasicBlock → Option Location
    block_location_at c p = option_map (λ n. n.loc) (block_payload_at c p)

    -- the label of a block
    abbrev pub label_at : Program O (BlockNotes D TypeKind AttrKind TypeBody Saved Location OpKind Attr TypeKey) → Ptr BasicBlock → Option (Option Identifier)
    label_at c p = option_map (λ n. n.label) (block_payload_at c p)
