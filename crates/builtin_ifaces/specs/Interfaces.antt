-- What each interface asks of an operation, and what the table of a kind asks.
use Rattle.std.specs.Prelude.{◌≡◌, ℕ, Bool, true, List, Option, Some, IsSome, IfSome, slice_get}
use Rattle.ir_base.specs.declared.types.TypeHandle.{TypeHandle}
use Rattle.ir_names.specs.declared.interfaces.OpInterface.{OpInterface}
use Rattle.ir_names.specs.declared.interfaces.OpInterface.TheVariants as interface
use Rattle.ir_names.specs.declared.interfaces.TypeInterface.{TypeInterface}
use Rattle.ir_program.specs.Program.{Program}
use Rattle.ir_program.specs.declared.handles.Ptr.{Ptr}
use Rattle.ir_program.specs.declared.handles.Operation.{Operation}
use Rattle.ir_types.specs.Interned.{passes}
use Rattle.ir_types.specs.Views.{TypesView}
use Rattle.ir_context.specs.Kept.{kind_at}
use Rattle.ir_context.specs.declared.notes.OperationData.{OperationData}
use Rattle.op_ifaces.specs.Interfaces.{Rule as RowsRule, is_told_by_rows, key_passes}
use Rattle.builtin_ifaces.specs.Attributes.{held_under}
use Rattle.builtin_ifaces.specs.Branches.{BranchFits}
use Rattle.builtin_ifaces.specs.Calls.{HasCalleeType}
use Rattle.builtin_tables.specs.Keys.{symbol_name}
use Rattle.builtin_tables.specs.Listed.{has_only_numbers}
use Rattle.builtin_ifaces.specs.Segments.{HasSegments, SegmentPasses}
use Rattle.builtin_tables.specs.declared.dialect.SuccessorLayout.{SuccessorLayout}

-- a dialect, its types, and what it says of its attributes, its kinds of operations and its types
module _ {D TypeKind AttrKind TypeBody Saved Location OpKind Attr TypeKey B : Type 0}
    (held_identifier : Attr → Option (List ℕ)) (held_type : Attr → Option TypeHandle) (held_sizes : Attr → Option (List ℕ))
    (segment_count : OpKind → List (List ℕ × Attr) → ℕ) (layout : OpKind → SuccessorLayout) (key_of_callee_type : OpKind → List ℕ)
    (id : TypeKey → List ℕ × List ℕ) (has : TypeKey → TypeInterface → Bool)
    (c : Program (OperationData D TypeKind AttrKind TypeBody Saved Location OpKind Attr TypeKey) B) (types : TypesView TypeKey TypeBody Saved) (op : Ptr Operation) where
  -- what an interface asks that can't be told by rows; most ask nothing
  abbrev pub OwnRule : OpInterface → Type 0
  OwnRule interface.OperandSegment = HasSegments held_sizes segment_count c op
  OwnRule (interface.SegmentN n test) = SegmentPasses held_sizes segment_count c op (passes (key_passes id has test) types) n
  OwnRule interface.Branch = BranchFits held_sizes segment_count c op layout
  OwnRule interface.SymbolOp = IsSome (held_under c op held_identifier symbol_name)
  OwnRule interface.CallOp = HasCalleeType c op held_type key_of_callee_type types has
  OwnRule i = Unit {0}

  -- what an interface asks. Of a symbol table, a branch into regions, an optimisation's interface and a dialect's own it is told elsewhere
  pub record Rule (i : OpInterface) : Type 0 where
    pub own : OwnRule i
    pub rows : is_told_by_rows i ≡ true → RowsRule id has c types op i

  -- the operation is as each interface of a list wants it
  abbrev pub AllRules : List OpInterface → Type 0
  AllRules interfaces = (k : ℕ) (i : OpInterface) → slice_get interfaces k ≡ Some i → Rule i

  -- it is as the table of its kind wants it
  abbrev pub MeetsTable : (OpKind → List OpInterface) → Type 0
  MeetsTable table = IfSome (kind_at c op) (λ kind. AllRules (table kind))

  -- it is as each interface wants it that its kind implements; `op_has` says which these are
  abbrev pub MeetsInterfaces : (OpKind → OpInterface → Bool) → Type 0
  MeetsInterfaces op_has = IfSome (kind_at c op) (λ kind. (i : OpInterface) → has_only_numbers i ≡ true → op_has kind i ≡ true → Rule i)
