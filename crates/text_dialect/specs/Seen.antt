-- What texts need of a context: what each handle leads to, and the keys of types. Kinds, attributes and types are those of
-- any dialect; locations have no text, and of the attributes of a block only their number matters, since a text shows none.
use Rattle.std.specs.Prelude.{ℕ, List, Option, option_map, map, length}
use Rattle.ir_base.specs.declared.types.TypeHandle.{TypeHandle}
use Rattle.ir_names.specs.declared.identifier.Identifier.{Identifier}
use Rattle.ir_types.specs.Views.{TypesView}
use Rattle.ir_program.specs.Program.{TypedValue, OperationView, BlockView, operation_at, block_at, region_at}
use Rattle.ir_program.specs.declared.handles.Ptr.{Ptr}
use Rattle.ir_program.specs.declared.handles.Operation.{Operation}
use Rattle.ir_program.specs.declared.handles.Region.{Region}
use Rattle.ir_program.specs.declared.handles.BasicBlock.{BasicBlock}
use Rattle.ir_program.specs.declared.handles.Value.{Value}
use Rattle.ir_context.specs.Views.{ContextView}
use Rattle.ir_context.specs.declared.notes.OperationData.{OperationData}
use Rattle.ir_context.specs.declared.notes.BlockNotes.{BlockNotes}

-- an operation: its kind, its attributes by name, its results with their types, its operands, the blocks that it may go on
-- to, and its regions
pub record SeenOperation (K A : Type 0) : Type 0 where
  pub kind : K
  pub attributes : List (List ℕ × A)
  pub results : List TypedValue
  pub operands : List Value
  pub successors : List (Ptr BasicBlock)
  pub regions : List (Ptr Region)

-- a block: its label, how many attributes it has, its arguments with their types, and its operations in order
pub record SeenBlock : Type 0 where
  pub label : Option Identifier
  pub attributes : ℕ
  pub arguments : List TypedValue
  pub operations : List (Ptr Operation)

-- a context: each operation, block and region by its handle, a region by its blocks in order, and the keys of types by the
-- numbers of their handles
pub record Seen (K A T : Type 0) : Type 0 where
  pub operation : Ptr Operation → Option (SeenOperation K A)
  pub block : Ptr BasicBlock → Option SeenBlock
  pub region : Ptr Region → Option (List (Ptr BasicBlock))
  pub types : List T

-- the types of values
abbrev pub types_of : List TypedValue → List TypeHandle
types_of vs = map (λ v. v.ty) vs

-- a dialect and its types
module _ {D TypeKind AttrKind TypeBody Saved Location OpKind Attr TypeKey : Type 0} where
  abbrev pub seen_operation : OperationView (OperationData D TypeKind AttrKind TypeBody Saved Location OpKind Attr TypeKey) →
      SeenOperation OpKind Attr
  seen_operation o = record {
    kind = o.payload.kind;
    attributes = o.payload.notes.attributes;
    results = o.results;
    operands = o.operands;
    successors = o.successors;
    regions = o.regions;
  }

  abbrev pub seen_block : BlockView (BlockNotes D TypeKind AttrKind TypeBody Saved Location OpKind Attr TypeKey) → SeenBlock
  seen_block b = record {
    label = b.payload.label;
    attributes = length b.payload.attributes;
    arguments = b.arguments;
    operations = b.operations;
  }

  -- what texts need of a context
  abbrev pub seen : ContextView (OperationData D TypeKind AttrKind TypeBody Saved Location OpKind Attr TypeKey)
      (BlockNotes D TypeKind AttrKind TypeBody Saved Location OpKind Attr TypeKey) (TypesView TypeKey TypeBody Saved) →
      Seen OpKind Attr TypeKey
  seen c = record {
    operation = λ p. option_map seen_operation (operation_at c.program p);
    block = λ p. option_map seen_block (block_at c.program p);
    region = λ p. option_map (λ r. r.blocks) (region_at c.program p);
    types = c.types.keys;
  }
