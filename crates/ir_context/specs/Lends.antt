-- What a context ends as, where a `&mut` to a payload is returned.
use Rattle.std.specs.Borrow.{Lends, LendsIfOk, Fml, RattleType, MutBor}
use Rattle.std.specs.Prelude.{Option}
use Rattle.std.specs.contracts.option.Option as option
use Rattle.std.specs.declared.cmp.PartialEq as eq
use Rattle.std.specs.declared.hash.Hash as hash
use Rattle.std.specs.declared.result.Result.{Result}
use Rattle.ir_base.specs.declared.types.TypeHandle.{TypeHandle}
use Rattle.ir_types.specs.declared.dialect.DialectTables as tables
use Rattle.ir_types.specs.contracts.types.Types.{the_row as the_types_row}
use Rattle.ir_types.specs.Lends.{with_body}
use Rattle.ir_types.specs.Views.{TypesView}
use Rattle.ir_program.specs.Lent.{with_payload, with_block_payload}
use Rattle.ir_program.specs.declared.handles.Ptr.{Ptr}
use Rattle.ir_program.specs.declared.handles.Operation.{Operation}
use Rattle.ir_program.specs.declared.handles.BasicBlock.{BasicBlock}
use Rattle.ir_context.specs.Views.{ContextView}
use Rattle.ir_context.specs.declared.type_table.TypeTable as table
use Rattle.ir_context.specs.declared.errors.DanglingPtrDerefError.{DanglingPtrDerefError}
use Rattle.ir_context.specs.contracts.context.TypedProgram.{the_row}
use Rattle.ir_context.specs.contracts.notes.OperationData.{the_row as the_data_row}
use Rattle.ir_context.specs.contracts.notes.BlockNotes.{the_row as the_notes_row}

module _ {O B T : Type 0} where
  -- the context with w as the payload of an operation
  abbrev pub carrying : ContextView O B T → Ptr Operation → O → ContextView O B T
  carrying s p w = record s { program = with_payload s.program p w }

  -- the context with w as the payload of a block
  abbrev pub block_carrying : ContextView O B T → Ptr BasicBlock → B → ContextView O B T
  block_carrying s p w = record s { program = with_block_payload s.program p w }

-- the payloads, the table of types, and what its trait says of it
module _ (O B T : RattleType) (own : table.Ghosts T.Denot) where
  -- the last payload written through r is that of block p
  abbrev pub lends_block_payload : MutBor (ContextView O.Denot B.Denot T.Denot) → Ptr BasicBlock → MutBor B.Denot → Fml
  lends_block_payload s p r = Lends (the_row O B T own) B s r (block_carrying s.now p)

  -- the last payload written through r is that of operation p
  abbrev pub lends_payload : MutBor (ContextView O.Denot B.Denot T.Denot) → Ptr Operation → MutBor O.Denot → Fml
  lends_payload s p r = Lends (the_row O B T own) O s r (carrying s.now p)

  -- the same of a payload that is only lent where there is block p; else all stays
  abbrev pub may_lend_block_payload : MutBor (ContextView O.Denot B.Denot T.Denot) → Ptr BasicBlock → Result (MutBor B.Denot) DanglingPtrDerefError → Fml
  may_lend_block_payload s p r = LendsIfOk (the_row O B T own) B s r (block_carrying s.now p) s.now

  -- the same of a payload that is only lent where there is operation p; else all stays
  abbrev pub may_lend_payload : MutBor (ContextView O.Denot B.Denot T.Denot) → Ptr Operation → Result (MutBor O.Denot) DanglingPtrDerefError → Fml
  may_lend_payload s p r = LendsIfOk (the_row O B T own) O s r (carrying s.now p) s.now

-- the context with w as the body of a type
abbrev pub with_type_body : {O B K T S : Type 0} → ContextView O B (TypesView K T S) → TypeHandle → Option T → ContextView O B (TypesView K T S)
with_type_body s ty w = record s { types = with_body s.types ty w }

-- a dialect, its types, and what its traits say of them
module _ (D TypeKind AttrKind TypeBody Saved Location OpKind Attr TypeKey : RattleType)
    (own : tables.Ghosts D.Denot TypeKind.Denot AttrKind.Denot TypeBody.Denot Saved.Denot Location.Denot OpKind.Denot Attr.Denot TypeKey.Denot)
    (op_eq : eq.Ghosts OpKind.Denot)
    (attr_eq : eq.Ghosts Attr.Denot) (attr_hash : hash.Ghosts Attr.Denot)
    (key_eq : eq.Ghosts TypeKey.Denot) (key_hash : hash.Ghosts TypeKey.Denot)
    (type_kind_eq : eq.Ghosts TypeKind.Denot) (attr_kind_eq : eq.Ghosts AttrKind.Denot)
    (saved_eq : eq.Ghosts Saved.Denot) (saved_hash : hash.Ghosts Saved.Denot)
    (location_eq : eq.Ghosts Location.Denot)
    (in_table : table.Ghosts (TypesView TypeKey.Denot TypeBody.Denot Saved.Denot)) where
  -- the dialect's contexts, as the logic holds them
  abbrev pub context_row : RattleType
  context_row = the_row
      (the_data_row D TypeKind AttrKind TypeBody Saved Location OpKind Attr TypeKey op_eq attr_eq attr_hash key_eq key_hash)
      (the_notes_row D TypeKind AttrKind TypeBody Saved Location OpKind Attr TypeKey op_eq attr_eq attr_hash key_eq key_hash)
      (the_types_row D TypeKind AttrKind TypeBody Saved Location OpKind Attr TypeKey own op_eq attr_eq attr_hash key_eq key_hash
      type_kind_eq attr_kind_eq saved_eq saved_hash location_eq)
      in_table

  -- the type ends with the last body written through r, and all else stays
  abbrev pub lends_type_body : MutBor context_row.Denot → TypeHandle → MutBor (Option TypeBody.Denot) → Fml
  lends_type_body s ty r = Lends context_row (option.the_row TypeBody) s r (with_type_body s.now ty)
