-- What a fault says of an operation that isn't as wanted.
use Rattle.std.specs.Prelude.{◌≡◌, ◌≢◌, ℕ, ◌<◌, List, Option, Some, None, IfSome, codes, slice_get}
use Rattle.ir_base.specs.declared.types.TypeHandle.{TypeHandle}
use Rattle.ir_names.specs.declared.interfaces.OpInterface.{OpInterface}
use Rattle.ir_names.specs.declared.interfaces.OpInterface.TheVariants as interface
use Rattle.ir_program.specs.Program.{Program, results_at, type_in}
use Rattle.ir_program.specs.declared.handles.Operation.{Operation}
use Rattle.ir_program.specs.declared.handles.Ptr.{Ptr}
use Rattle.ir_types.specs.Views.{TypesView}
use Rattle.ir_context.specs.Kept.{kind_at}
use Rattle.ir_context.specs.declared.notes.OperationData.{OperationData}
use Rattle.ir_core.specs.verification.Tests.{Test, of_op, of_attr, of_type}
use Rattle.ir_symbols.specs.Contents.{symbol_name}
use Rattle.builtin_ifaces.specs.Attributes.{attribute_under, held_under}
use Rattle.builtin_ifaces.specs.Types.{IsFunctionType}
use Rattle.region_ifaces.specs.RegionEdges.{AreRegionEdges}
use Rattle.region_ifaces.specs.declared.region_edges.RegionEdge.{RegionEdge}
use Rattle.symbol_ifaces.specs.Symbols.{holds_table, used_symbol}
use Rattle.symbol_ifaces.specs.Tables.{IsRefusedBy}
use Rattle.interface_verifiers.specs.Summary.{DialectSummary}
use Rattle.interface_verifiers.specs.BuiltinRules.{IsBuiltin, constant_value, function_type}
use Rattle.interface_verifiers.specs.Wanted.{AsksAlone, IsAsWantedBy, MeetsItsInterfaces}
use Rattle.interface_verifiers.specs.declared.faults.BuiltinOpErr.{BuiltinOpErr}
use Rattle.interface_verifiers.specs.declared.faults.BuiltinOpErr.TheVariants.{FunctionTypeMissing, NotAFunctionType, ValueMissing, ValueNotTyped, ResultTypeMismatch, ForwardRef}
use Rattle.interface_verifiers.specs.declared.faults.InterfaceErr.{InterfaceErr}
use Rattle.interface_verifiers.specs.declared.faults.InterfaceErr.TheVariants.{Alone, SymbolTable, RegionBranch}
use Rattle.interface_verifiers.specs.declared.faults.OperationFault.{OperationFault}
use Rattle.interface_verifiers.specs.declared.faults.OperationFault.TheVariants.{Interface, Builtin}

-- a dialect and its types, and an operation of a program with these types
module _ {D TypeKind AttrKind TypeBody Saved Location OpKind Attr TypeKey B : Type 0} (d : DialectSummary OpKind Attr TypeKey)
    (c : Program (OperationData D TypeKind AttrKind TypeBody Saved Location OpKind Attr TypeKey) B) (types : TypesView TypeKey TypeBody Saved) (op : Ptr Operation) where
  -- an attribute holds the type of the function, and this is no type of functions
  pub record HasOtherType : Type 0 where
    pub ty : TypeHandle
    pub held : held_under c op d.held_type function_type ≡ Some ty
    pub no_function : IsFunctionType types d.type_implements ty → ⊥

  -- the value of the constant has no type
  pub record HasUntypedValue : Type 0 where
    pub value : Attr
    pub there : attribute_under c op constant_value ≡ Some value
    pub untyped : d.type_of value ≡ None

  -- the value of the constant has a type, and this isn't the type of the result
  pub record HasOtherResult : Type 0 where
    pub value : Attr
    pub ty : TypeHandle
    pub there : attribute_under c op constant_value ≡ Some value
    pub typed : d.type_of value ≡ Some ty
    pub other : type_in (results_at c op) 0 ≢ Some ty

  -- what a builtin operation misses
  abbrev pub IsBuiltinFault : BuiltinOpErr → Type 0
  IsBuiltinFault FunctionTypeMissing = IsBuiltin d c types op (codes "func") × (held_under c op d.held_type function_type ≡ None)
  IsBuiltinFault NotAFunctionType = IsBuiltin d c types op (codes "func") × HasOtherType
  IsBuiltinFault ValueMissing = IsBuiltin d c types op (codes "constant") × (attribute_under c op constant_value ≡ None)
  IsBuiltinFault ValueNotTyped = IsBuiltin d c types op (codes "constant") × HasUntypedValue
  IsBuiltinFault ResultTypeMismatch = IsBuiltin d c types op (codes "constant") × HasOtherResult
  IsBuiltinFault ForwardRef = IsBuiltin d c types op (codes "forward_ref")

  module _ (edges : Ptr Operation → List RegionEdge) where
    -- which interface a fault is of: where it asks the operation alone, it isn't as wanted; else the table or the edges aren't
    abbrev pub IsInterfaceFault : OpInterface → InterfaceErr → Type 0
    IsInterfaceFault i (Alone fault) = AsksAlone d edges c types op i → ⊥
    IsInterfaceFault i (SymbolTable fault) = (i ≡ interface.SymbolTable) × IsRefusedBy (symbol_name d.implements d.held_identifier) (holds_table d.implements) (used_symbol d.implements d.held_identifier d.callee_key d.callee_place c) c op fault
    IsInterfaceFault i (RegionBranch fault) = (i ≡ interface.RegionBranch) × (AreRegionEdges d.implements c op (edges op) → ⊥)

    -- the interface is the first of the list that the operation isn't as wanted by, and the fault is of this interface
    pub record IsFirstFault (interfaces : List OpInterface) (i : OpInterface) (fault : InterfaceErr) : Type 0 where
      pub index : ℕ
      pub here : slice_get interfaces index ≡ Some i
      pub before : (k : ℕ) (j : OpInterface) → k < index → slice_get interfaces k ≡ Some j → IsAsWantedBy d edges c types op j
      pub unmet : IsAsWantedBy d edges c types op i → ⊥
      pub says : IsInterfaceFault i fault

    -- the same, where a fault names its interface. No public clause speaks of it
    abbrev pub IsListedFault : List OpInterface → OperationFault → Type 0
    IsListedFault interfaces (Interface i fault) = IsFirstFault interfaces i fault
    IsListedFault interfaces (Builtin fault) = ⊥

    -- what is said of the operation: the first interface of its kind's table that doesn't accept it; where all do, what the builtin kind misses
    abbrev pub IsOperationFault : OperationFault → Type 0
    IsOperationFault (Interface i fault) = IfSome (kind_at c op) (λ kind. IsFirstFault (d.interfaces kind) i fault)
    IsOperationFault (Builtin fault) = MeetsItsInterfaces d edges c types op × IsBuiltinFault fault

-- what is said of an operation, an attribute or a type that isn't accepted; each attribute and each type is
module _ {D TypeKind AttrKind TypeBody Saved Location OpKind Attr TypeKey B : Type 0} (d : DialectSummary OpKind Attr TypeKey) (edges : Ptr Operation → List RegionEdge)
    (c : Program (OperationData D TypeKind AttrKind TypeBody Saved Location OpKind Attr TypeKey) B) (types : TypesView TypeKey TypeBody Saved) where
  abbrev pub IsFaultOf : Test Attr → OperationFault → Type 0
  IsFaultOf (of_op op) fault = IsOperationFault d c types op edges fault
  IsFaultOf (of_attr attr) fault = ⊥
  IsFaultOf (of_type ty) fault = ⊥
