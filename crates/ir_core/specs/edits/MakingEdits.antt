-- What edits that make operations and blocks do and answer.
use Rattle.std.specs.Prelude.{◌≡◌, ℕ, ◌+◌, ◌^◌, ◌≤◌, List, [], Option, Some, IsSome, Result, option_map, length}
use Rattle.ir_names.specs.Identifier.{text_of}
use Rattle.ir_names.specs.declared.identifier.Identifier.{Identifier}
use Rattle.ir_base.specs.declared.types.TypeHandle.{TypeHandle}
use Rattle.ir_program.specs.Program.{block_at, IsLiveValue}
use Rattle.ir_program.specs.Made.{BuildsOperation, BuildsBlock}
use Rattle.ir_program.specs.declared.handles.Ptr.{Ptr}
use Rattle.ir_program.specs.declared.handles.Operation.{Operation}
use Rattle.ir_program.specs.declared.handles.BasicBlock.{BasicBlock}
use Rattle.ir_program.specs.declared.handles.Value.{Value}
use Rattle.ir_context.specs.Known.{AreKnownIn}
use Rattle.ir_context.specs.Views.{ContextView}
use Rattle.ir_types.specs.Views.{TypesView}
use Rattle.ir_context.specs.declared.errors.CoreError.{CoreError}
use Rattle.ir_context.specs.declared.notes.OperationData.{OperationData}
use Rattle.ir_context.specs.declared.notes.BlockNotes.{BlockNotes}
use Rattle.ir_core.specs.declared.edits.edit.Entity.{Entity}
use Rattle.ir_core.specs.declared.edits.edit.Entity.TheVariants.{Operation as OperationEntity, Block as BlockEntity}
use Rattle.ir_core.specs.declared.edits.edit.At.{At}
use Rattle.ir_core.specs.declared.edits.edit.ValueAt.{ValueAt}
use Rattle.ir_core.specs.edits.Naming.{value_named, block_named, NameEach, AreNamed}
use Rattle.ir_core.specs.edits.Answered.{Answered}
use Rattle.ir_core.specs.edits.Same.{IsSame}

-- a dialect and its types
module _ {D TypeKind AttrKind TypeBody Saved Location OpKind Attr TypeKey K T S : Type 0} where
  -- an operation of a kind that comes from no source and has no attributes, with results of these types, these operands and successors, and so many regions
  abbrev pub BuildsNewOperation : Location
      → ContextView (OperationData D TypeKind AttrKind TypeBody Saved Location OpKind Attr TypeKey) (BlockNotes D TypeKind AttrKind TypeBody Saved Location OpKind Attr TypeKey) (TypesView K T S)
      → List (Option Entity) → OpKind → List TypeHandle → List ValueAt → List (At (Ptr BasicBlock)) → ℕ
      → ContextView (OperationData D TypeKind AttrKind TypeBody Saved Location OpKind Attr TypeKey) (BlockNotes D TypeKind AttrKind TypeBody Saved Location OpKind Attr TypeKey) (TypesView K T S)
      → Result (Option Entity) CoreError → Type 0
  BuildsNewOperation nowhere c made kind tys operands successors count n r =
      Answered (AreKnownIn (length c.types.keys) tys × NameEach (value_named c.program made) (IsLiveValue c.program) operands × NameEach (block_named made) (λ b. IsSome (block_at c.program b)) successors) (Unit {0})
      (2 ^ 64 ≤ c.program.counter + length tys)
      (λ e. (p : Ptr Operation) × (vs : List Value) × (bs : List (Ptr BasicBlock)) × (e ≡ Some (OperationEntity p)) × AreNamed (value_named c.program made) operands vs × AreNamed (block_named made) successors bs
      × BuildsOperation c.program n.program p (record { kind = kind; notes = record { attributes = []; loc = nowhere } }) tys vs bs count × (n.types ≡ c.types))
      (IsSame c n) r

  -- a block that comes from no source and has no attributes, with a label of this text and arguments of these types
  abbrev pub BuildsNewBlock : Location
      → ContextView (OperationData D TypeKind AttrKind TypeBody Saved Location OpKind Attr TypeKey) (BlockNotes D TypeKind AttrKind TypeBody Saved Location OpKind Attr TypeKey) (TypesView K T S)
      → Option Identifier → List TypeHandle
      → ContextView (OperationData D TypeKind AttrKind TypeBody Saved Location OpKind Attr TypeKey) (BlockNotes D TypeKind AttrKind TypeBody Saved Location OpKind Attr TypeKey) (TypesView K T S)
      → Result (Option Entity) CoreError → Type 0
  BuildsNewBlock nowhere c label tys n r =
      Answered (AreKnownIn (length c.types.keys) tys) (Unit {0})
      (2 ^ 64 ≤ c.program.counter + length tys)
      (λ e. (b : Ptr BasicBlock) × (copy : Option Identifier) × (e ≡ Some (BlockEntity b)) × (option_map text_of copy ≡ option_map text_of label)
      × BuildsBlock c.program n.program b (record { attributes = []; loc = nowhere; label = copy }) tys × (n.types ≡ c.types))
      (IsSame c n) r
