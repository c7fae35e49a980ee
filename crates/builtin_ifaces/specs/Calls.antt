-- What calls call.
use Rattle.std.specs.Prelude.{◌≡◌, ℕ, List, Bool, Option, Some, option_map, option_and_then, slice_get}
use Rattle.ir_base.specs.declared.types.TypeHandle.{TypeHandle}
use Rattle.ir_names.specs.Identifier.{text_of}
use Rattle.ir_names.specs.declared.interfaces.TypeInterface.{TypeInterface}
use Rattle.ir_program.specs.Program.{Program}
use Rattle.ir_program.specs.Rows.{operands_at}
use Rattle.ir_program.specs.declared.handles.Ptr.{Ptr}
use Rattle.ir_program.specs.declared.handles.Operation.{Operation}
use Rattle.ir_program.specs.declared.handles.Value.{Value}
use Rattle.ir_types.specs.Views.{TypesView}
use Rattle.ir_context.specs.Kept.{kind_at}
use Rattle.ir_context.specs.declared.notes.OperationData.{OperationData}
use Rattle.builtin_ifaces.specs.Attributes.{held_under}
use Rattle.builtin_ifaces.specs.Types.{IsFunctionType}
use Rattle.builtin_ifaces.specs.declared.callees.CallOpCallable.{CallOpCallable}
use Rattle.builtin_ifaces.specs.declared.callees.CallOpCallable.TheVariants.{Direct, Indirect}
use Rattle.builtin_tables.specs.declared.dialect.CalleePlace.{CalleePlace}
use Rattle.builtin_tables.specs.declared.dialect.CalleePlace.TheVariants.{Attribute, Operand}

-- what is called: the function with a name, or a value
pub data Callee : Type 0 where
  named : List ℕ → Callee
  value : Value → Callee

-- the callee that an answer shows
abbrev pub callee_of : CallOpCallable → Callee
callee_of (Direct name) = named (text_of name.now)
callee_of (Indirect v) = value v

module _ {D TypeKind AttrKind TypeBody Saved Location OpKind Attr TypeKey B : Type 0} (c : Program (OperationData D TypeKind AttrKind TypeBody Saved Location OpKind Attr TypeKey) B) (op : Ptr Operation) where
  -- what is called, where the callee is in this place; `held_identifier` says which identifier an attribute holds
  abbrev pub callee_in : (Attr → Option (List ℕ)) → List ℕ → CalleePlace → Option Callee
  callee_in held_identifier key Attribute = option_map named (held_under c op held_identifier key)
  callee_in held_identifier key (Operand i) = option_map value (slice_get (operands_at c op) i)

  -- what a call calls, by the place and the key that the dialect says of each kind
  abbrev pub callee_at : (Attr → Option (List ℕ)) → (OpKind → List ℕ) → (OpKind → CalleePlace) → Option Callee
  callee_at held_identifier key place = option_and_then (λ kind. callee_in held_identifier (key kind) (place kind)) (kind_at c op)

  -- the type of what a call calls, by the key that the dialect says of each kind; `held_type` says which type an attribute holds
  abbrev pub callee_type_at : (Attr → Option TypeHandle) → (OpKind → List ℕ) → Option TypeHandle
  callee_type_at held_type key = option_and_then (λ kind. held_under c op held_type (key kind)) (kind_at c op)

  -- the type of what a call calls is there, and is that of a function
  pub record HasCalleeType (held_type : Attr → Option TypeHandle) (key : OpKind → List ℕ) {TypeBody' Saved' : Type 0} (types : TypesView TypeKey TypeBody' Saved') (has : TypeKey → TypeInterface → Bool) : Type 0 where
    pub ty : TypeHandle
    pub held : callee_type_at held_type key ≡ Some ty
    pub is_function : IsFunctionType types has ty
