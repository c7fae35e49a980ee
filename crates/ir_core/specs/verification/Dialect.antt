-- What a context of a dialect looks like to contracts.
use Rattle.ir_context.specs.Views.{ContextView}
use Rattle.ir_types.specs.Views.{TypesView}
use Rattle.ir_context.specs.declared.notes.OperationData.{OperationData}
use Rattle.ir_context.specs.declared.notes.BlockNotes.{BlockNotes}
use Rattle.ir_program.specs.Program.{Program}

module _ (D TypeKind AttrKind TypeBody Saved Location OpKind Attr TypeKey : Type 0) where
  -- the program of a context of the dialect
  abbrev pub DialectProgram : Type 0
  DialectProgram = Program (OperationData D TypeKind AttrKind TypeBody Saved Location OpKind Attr TypeKey) (BlockNotes D TypeKind AttrKind TypeBody Saved Location OpKind Attr TypeKey)

  -- a context of the dialect
  abbrev pub DialectContext : Type 0
  DialectContext = ContextView (OperationData D TypeKind AttrKind TypeBody Saved Location OpKind Attr TypeKey) (BlockNotes D TypeKind AttrKind TypeBody Saved Location OpKind Attr TypeKey) (TypesView TypeKey TypeBody Saved)
