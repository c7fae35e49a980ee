-- What the rules read at the operations, blocks, types and values of a tree.
use Rattle.std.specs.Prelude.{ℕ, List, Option}
use Rattle.ir_base.specs.declared.types.TypeHandle.{TypeHandle}
use Rattle.ir_program.specs.declared.handles.Value.{Value}
use Rattle.ir_program.specs.Program.{type_at}
use Rattle.ir_types.specs.Interned.{key_at}
use Rattle.ir_types.specs.Views.{TypesView}
use Rattle.ir_context.specs.Views.{ContextView}
use Rattle.ir_context.specs.declared.notes.OperationData.{OperationData}
use Rattle.ir_context.specs.declared.notes.BlockNotes.{BlockNotes}
use Rattle.kit_ops.specs.declared.attributes.KitAttr.{KitAttr}
use Rattle.kit_ops.specs.declared.kinds.KitOp.{KitOp}
use Rattle.kit_ops.specs.declared.types.KitType.{KitType}

-- attributes under their names, each name as its bytes
abbrev pub Attributes : Type 0
Attributes = List (List ℕ × KitAttr)

-- how what operations carry (O) and blocks carry (B) is read, and what types and values are
pub record World (O B : Type 0) : Type 0 where
  -- the kind of an operation, and its attributes
  pub kind : O → KitOp
  pub attributes : O → Attributes
  -- the attributes of a block
  pub block_attributes : B → Attributes
  -- the type that a handle leads to, if it leads to one; equal types have one handle
  pub type_key : TypeHandle → Option KitType
  -- the type of a value at the operation or block that defines it, if there is such a value
  pub value_type : Value → Option TypeHandle

-- a dialect whose kinds, attributes and types are those of `kit`
module _ (D TypeKind AttrKind TypeBody Saved Location : Type 0) where
  -- what its operations and its blocks carry
  abbrev pub OperationOfDialect : Type 0
  OperationOfDialect = OperationData D TypeKind AttrKind TypeBody Saved Location KitOp KitAttr KitType

  abbrev pub BlockOfDialect : Type 0
  BlockOfDialect = BlockNotes D TypeKind AttrKind TypeBody Saved Location KitOp KitAttr KitType

-- the world that a context of such a dialect is
abbrev pub world_of : {D TypeKind AttrKind TypeBody Saved Location : Type 0} →
    ContextView (OperationOfDialect D TypeKind AttrKind TypeBody Saved Location) (BlockOfDialect D TypeKind AttrKind TypeBody Saved Location) (TypesView KitType TypeBody Saved) →
    World (OperationOfDialect D TypeKind AttrKind TypeBody Saved Location) (BlockOfDialect D TypeKind AttrKind TypeBody Saved Location)
world_of c = record {
  kind = λ o. o.kind;
  attributes = λ o. o.notes.attributes;
  block_attributes = λ b. b.attributes;
  type_key = key_at c.types;
  value_type = type_at c.program;
}
