-- What the constructors make.
use Rattle.std.specs.Prelude.{◌≡◌, ℕ, List, [], ◌∷◌, Option, Some, None}
use Rattle.ir_base.specs.declared.types.TypeHandle.{TypeHandle}
use Rattle.ir_program.specs.Made.{BuildsOperation}
use Rattle.ir_program.specs.Program.{Program}
use Rattle.ir_program.specs.declared.handles.Ptr.{Ptr}
use Rattle.ir_program.specs.declared.handles.Operation.{Operation}
use Rattle.ir_context.specs.declared.notes.OperationData.{OperationData}
use Rattle.ir_context.specs.declared.notes.BlockNotes.{BlockNotes}
use Rattle.builtin_tables.specs.Keys.{symbol_name}
use Rattle.builtin_ops.specs.Built.{BuildsWithBlock}
use Rattle.builtin_ops.specs.Keys.{constant_value, function_type}

module _ {Attr : Type 0} (held_identifier : Attr → Option (List ℕ)) where
  -- one attribute under the key for names of symbols, which holds the name
  pub record HoldName (attributes : List (List ℕ × Attr)) (name : List ℕ) : Type 0 where
    pub attr : Attr
    pub holds : held_identifier attr ≡ Some name
    pub are : attributes ≡ (symbol_name, attr) ∷ []

  -- two attributes: the name, and under the key for types of functions one that holds the type
  pub record HoldNameAndType (held_type : Attr → Option TypeHandle) (attributes : List (List ℕ × Attr)) (name : List ℕ) (ty : TypeHandle) : Type 0 where
    pub name_attr : Attr
    pub type_attr : Attr
    pub holds_name : held_identifier name_attr ≡ Some name
    pub holds_type : held_type type_attr ≡ Some ty
    pub are : attributes ≡ (symbol_name, name_attr) ∷ (function_type, type_attr) ∷ []

-- a dialect and its types, and the location of what comes from no source
module _ {D TypeKind AttrKind TypeBody Saved Location OpKind Attr TypeKey : Type 0} (nowhere : Location) where
  -- what a new operation carries: its kind, these attributes, and no location
  abbrev pub carrying : OpKind → List (List ℕ × Attr) → OperationData D TypeKind AttrKind TypeBody Saved Location OpKind Attr TypeKey
  carrying kind attributes = record { kind = kind; notes = record { attributes = attributes; loc = nowhere } }

  -- what a new block carries: no attribute, no location and no label
  abbrev pub bare_notes : BlockNotes D TypeKind AttrKind TypeBody Saved Location OpKind Attr TypeKey
  bare_notes = record { attributes = []; loc = nowhere; label = None }

  -- p is a new operation of the kind that stands in no block and has the name, no results, operands and successors, and one region with
  -- one block without arguments and operations; all else is as it was
  pub record MakesModule (kind : OpKind) (held_identifier : Attr → Option (List ℕ))
      (old new : Program (OperationData D TypeKind AttrKind TypeBody Saved Location OpKind Attr TypeKey) (BlockNotes D TypeKind AttrKind TypeBody Saved Location OpKind Attr TypeKey))
      (p : Ptr Operation) (name : List ℕ) : Type 0 where
    pub attributes : List (List ℕ × Attr)
    pub named : HoldName held_identifier attributes name
    pub builds : BuildsWithBlock old new p (carrying kind attributes) bare_notes []

  -- the same of a function: it has the name and the type, and its block has an argument of each of these types in order
  pub record MakesFunction (kind : OpKind) (held_identifier : Attr → Option (List ℕ)) (held_type : Attr → Option TypeHandle)
      (old new : Program (OperationData D TypeKind AttrKind TypeBody Saved Location OpKind Attr TypeKey) (BlockNotes D TypeKind AttrKind TypeBody Saved Location OpKind Attr TypeKey))
      (p : Ptr Operation) (name : List ℕ) (ty : TypeHandle) (inputs : List TypeHandle) : Type 0 where
    pub attributes : List (List ℕ × Attr)
    pub held : HoldNameAndType held_identifier held_type attributes name ty
    pub builds : BuildsWithBlock old new p (carrying kind attributes) bare_notes inputs

  -- p is a new operation of the kind that stands in no block, has one result of the type, no operands, successors and regions, and one
  -- attribute, its value; all else is as it was
  abbrev pub MakesConstant : OpKind → Program (OperationData D TypeKind AttrKind TypeBody Saved Location OpKind Attr TypeKey) (BlockNotes D TypeKind AttrKind TypeBody Saved Location OpKind Attr TypeKey)
      → Program (OperationData D TypeKind AttrKind TypeBody Saved Location OpKind Attr TypeKey) (BlockNotes D TypeKind AttrKind TypeBody Saved Location OpKind Attr TypeKey)
      → Ptr Operation → Attr → TypeHandle → Type 0
  MakesConstant kind old new p value ty = BuildsOperation old new p (carrying kind ((constant_value, value) ∷ [])) (ty ∷ []) [] [] 0

  -- p is a new operation of the kind that stands in no block, has one result of the type, and nothing else; all else is as it was
  abbrev pub MakesForwardRef : OpKind → Program (OperationData D TypeKind AttrKind TypeBody Saved Location OpKind Attr TypeKey) (BlockNotes D TypeKind AttrKind TypeBody Saved Location OpKind Attr TypeKey)
      → Program (OperationData D TypeKind AttrKind TypeBody Saved Location OpKind Attr TypeKey) (BlockNotes D TypeKind AttrKind TypeBody Saved Location OpKind Attr TypeKey)
      → Ptr Operation → TypeHandle → Type 0
  MakesForwardRef kind old new p ty = BuildsOperation old new p (carrying kind []) (ty ∷ []) [] [] 0
