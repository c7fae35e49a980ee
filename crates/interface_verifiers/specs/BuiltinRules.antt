-- What operations of the dialect `builtin` ask beside their interfaces.
use Rattle.std.specs.Prelude.{◌≡◌, ℕ, List, Option, Some, codes, option_map}
use Rattle.ir_base.specs.declared.types.TypeHandle.{TypeHandle}
use Rattle.ir_program.specs.Program.{Program, results_at, type_in}
use Rattle.ir_program.specs.declared.handles.Operation.{Operation}
use Rattle.ir_program.specs.declared.handles.Ptr.{Ptr}
use Rattle.ir_types.specs.Views.{TypesView}
use Rattle.ir_context.specs.Kept.{kind_at}
use Rattle.ir_context.specs.declared.notes.OperationData.{OperationData}
use Rattle.builtin_ifaces.specs.Attributes.{attribute_under, held_under}
use Rattle.builtin_ifaces.specs.Types.{IsFunctionType}
use Rattle.interface_verifiers.specs.Summary.{DialectSummary}

-- the key of a function's type
abbrev pub function_type : List ℕ
function_type = codes "builtin_func_type"

-- the key of a constant's value
abbrev pub constant_value : List ℕ
constant_value = codes "builtin_constant_value"

-- a dialect and its types, and an operation of a program with these types
module _ {D TypeKind AttrKind TypeBody Saved Location OpKind Attr TypeKey B : Type 0} (d : DialectSummary OpKind Attr TypeKey)
    (c : Program (OperationData D TypeKind AttrKind TypeBody Saved Location OpKind Attr TypeKey) B) (types : TypesView TypeKey TypeBody Saved) (op : Ptr Operation) where
  -- the operation is of the kind of the dialect `builtin` that has this name
  abbrev pub IsBuiltin : List ℕ → Type 0
  IsBuiltin name = option_map d.names (kind_at c op) ≡ Some (codes "builtin", name)

  -- an attribute holds the type of the function, and this is a type of functions
  pub record HasFunctionType : Type 0 where
    pub ty : TypeHandle
    pub held : held_under c op d.held_type function_type ≡ Some ty
    pub is_function : IsFunctionType types d.type_implements ty

  -- an attribute is the value of the constant; it has a type, and this is the type of the result
  pub record HasTypedValue : Type 0 where
    pub value : Attr
    pub ty : TypeHandle
    pub there : attribute_under c op constant_value ≡ Some value
    pub typed : d.type_of value ≡ Some ty
    pub result : type_in (results_at c op) 0 ≡ Some ty

  -- a function has a type of functions, a constant a value of its result's type, and a forward reference is never right
  pub record MeetsBuiltinRule : Type 0 where
    pub function : IsBuiltin (codes "func") → HasFunctionType
    pub constant : IsBuiltin (codes "constant") → HasTypedValue
    pub forward_ref : IsBuiltin (codes "forward_ref") → ⊥
