-- Locations that are put in the place of others.
use Rattle.std.specs.Prelude.{◌≡◌}
use Rattle.ir_context.specs.declared.notes.BlockNotes.{BlockNotes}
use Rattle.ir_context.specs.declared.notes.OperationData.{OperationData}
use Rattle.ir_program.specs.Lists.{StandsInside}
use Rattle.ir_program.specs.Program.{Program}
use Rattle.ir_program.specs.declared.handles.IRNode.{IRNode}
use Rattle.ir_walks.specs.declared.turns.Cursor.{Cursor}
use Rattle.location_erasing.specs.Chosen.{EditsChosen, EditsOnArriving}

-- a dialect and its types
module _ {D TypeKind AttrKind TypeBody Saved Location OpKind Attr TypeKey : Type 0} where
  -- what an operation carries, with this location: its kind and its attributes stay
  abbrev pub located : Location → OperationData D TypeKind AttrKind TypeBody Saved Location OpKind Attr TypeKey → OperationData D TypeKind AttrKind TypeBody Saved Location OpKind Attr TypeKey
  located loc d = record d { notes = record d.notes { loc = loc } }

  -- what a block carries, with this location: its attributes and its label stay
  abbrev pub block_located : Location → BlockNotes D TypeKind AttrKind TypeBody Saved Location OpKind Attr TypeKey → BlockNotes D TypeKind AttrKind TypeBody Saved Location OpKind Attr TypeKey
  block_located loc n = record n { loc = loc }

  -- each operation and each block that x is or that stands inside x, however far down, has this location; nothing else changes
  abbrev pub LocatesInside : (old new : Program (OperationData D TypeKind AttrKind TypeBody Saved Location OpKind Attr TypeKey) (BlockNotes D TypeKind AttrKind TypeBody Saved Location OpKind Attr TypeKey)) → IRNode → Location → Type 0
  LocatesInside old new x loc = EditsChosen old new (StandsInside old x) (located loc) (block_located loc)

  -- so of one node alone
  abbrev pub LocatesAt : (old new : Program (OperationData D TypeKind AttrKind TypeBody Saved Location OpKind Attr TypeKey) (BlockNotes D TypeKind AttrKind TypeBody Saved Location OpKind Attr TypeKey)) → IRNode → Location → Type 0
  LocatesAt old new x loc = EditsChosen old new (λ e. x ≡ e) (located loc) (block_located loc)

  -- so of the node at which a walk arrives; where it leaves one, all stays
  abbrev pub LocatesOnArriving : (old new : Program (OperationData D TypeKind AttrKind TypeBody Saved Location OpKind Attr TypeKey) (BlockNotes D TypeKind AttrKind TypeBody Saved Location OpKind Attr TypeKey)) → Cursor → Location → Type 0
  LocatesOnArriving old new at loc = EditsOnArriving old new at (located loc) (block_located loc)
