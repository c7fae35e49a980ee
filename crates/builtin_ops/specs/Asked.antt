-- What getters and verifiers of these operations ask.
use Rattle.std.specs.Prelude.{◌≡◌, ℕ, Bool, true, List, Option, Some, option_and_then, slice_get}
use Rattle.ir_base.specs.declared.types.TypeHandle.{TypeHandle}
use Rattle.ir_names.specs.Dictionary.{attribute_at}
use Rattle.ir_names.specs.declared.interfaces.TypeInterface.{TypeInterface}
use Rattle.ir_names.specs.declared.interfaces.TypeInterface.TheVariants.{FunctionType}
use Rattle.ir_program.specs.Lists.{blocks_in, regions_in}
use Rattle.ir_program.specs.Program.{Program, results_at, type_in}
use Rattle.ir_program.specs.declared.handles.Ptr.{Ptr}
use Rattle.ir_program.specs.declared.handles.Operation.{Operation}
use Rattle.ir_program.specs.declared.handles.BasicBlock.{BasicBlock}
use Rattle.ir_types.specs.Interned.{key_at, passes}
use Rattle.ir_types.specs.Views.{TypesView}
use Rattle.ir_context.specs.Kept.{notes_at}
use Rattle.ir_context.specs.declared.notes.OperationData.{OperationData}
use Rattle.builtin_ops.specs.Keys.{constant_value, function_type}

module _ {K B S : Type 0} (types : TypesView K B S) where
  -- the type is that of a function; `has` says which interfaces a type implements
  abbrev pub IsFunctionType : (K → TypeInterface → Bool) → TypeHandle → Type 0
  IsFunctionType has ty = passes (λ key. has key FunctionType) types ty ≡ true

  -- the types of what a function of this type takes, and of what it gives back; `signature` says them of each type, None where it is
  -- no function's
  abbrev pub signature_at : (K → Option (List TypeHandle × List TypeHandle)) → TypeHandle → Option (List TypeHandle × List TypeHandle)
  signature_at signature ty = option_and_then signature (key_at types ty)

-- the first block of the operation's first region
abbrev pub entry_block : {O B : Type 0} → Program O B → Ptr Operation → Option (Ptr BasicBlock)
entry_block c op = option_and_then (λ region. slice_get (blocks_in c region) 0) (slice_get (regions_in c op) 0)

module _ {D TypeKind AttrKind TypeBody Saved Location OpKind Attr TypeKey B : Type 0} (c : Program (OperationData D TypeKind AttrKind TypeBody Saved Location OpKind Attr TypeKey) B) (op : Ptr Operation) where
  -- the attribute of the operation under a key
  abbrev pub attribute_under : List ℕ → Option Attr
  attribute_under key = option_and_then (λ notes. attribute_at notes.attributes key) (notes_at c op)

  -- what this attribute holds; `held` says it of each attribute, None where one holds something else
  abbrev pub held_under : {X : Type 0} → (Attr → Option X) → List ℕ → Option X
  held_under held key = option_and_then held (attribute_under key)

  -- the attribute under the key for types of functions holds a type, which is that of a function
  pub record HasFunctionType (held_type : Attr → Option TypeHandle) {TypeBody' Saved' : Type 0} (types : TypesView TypeKey TypeBody' Saved') (has : TypeKey → TypeInterface → Bool) : Type 0 where
    pub ty : TypeHandle
    pub held : held_under held_type function_type ≡ Some ty
    pub is_function : IsFunctionType types has ty

  -- there is a value, it has a type, and the first result has that type
  pub record HasTypedValue (type_of_attr : Attr → Option TypeHandle) : Type 0 where
    pub value : Attr
    pub ty : TypeHandle
    pub held : attribute_under constant_value ≡ Some value
    pub typed : type_of_attr value ≡ Some ty
    pub result : type_in (results_at c op) 0 ≡ Some ty
