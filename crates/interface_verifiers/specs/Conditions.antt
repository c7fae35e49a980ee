-- What the getters of an operation's interfaces ask of it.
use Rattle.std.specs.Prelude.{◌≡◌, true, List, IsSome, codes}
use Rattle.ir_names.specs.declared.interfaces.OpInterface.{OpInterface}
use Rattle.ir_names.specs.declared.interfaces.OpInterface.TheVariants as interface
use Rattle.ir_program.specs.Lists.{StandsInside}
use Rattle.ir_program.specs.Program.{Program}
use Rattle.ir_program.specs.declared.handles.IRNode.TheVariants.{Operation as OperationNode}
use Rattle.ir_program.specs.declared.handles.Operation.{Operation}
use Rattle.ir_program.specs.declared.handles.Ptr.{Ptr}
use Rattle.ir_types.specs.Views.{TypesView}
use Rattle.ir_context.specs.declared.notes.OperationData.{OperationData}
use Rattle.builtin_tables.specs.Keys.{symbol_name}
use Rattle.builtin_tables.specs.Listed.{has_only_numbers}
use Rattle.op_ifaces.specs.Interfaces.{Rule as RowsRule, is_told_by_rows}
use Rattle.builtin_ifaces.specs.Attributes.{held_under}
use Rattle.builtin_ifaces.specs.Branches.{BranchFits}
use Rattle.builtin_ifaces.specs.Calls.{HasCalleeType}
use Rattle.builtin_ifaces.specs.Segments.{HasSegments}
use Rattle.region_ifaces.specs.RegionEdges.{AreRegionEdges}
use Rattle.region_ifaces.specs.declared.region_edges.RegionEdge.{RegionEdge}
use Rattle.symbol_ifaces.specs.Symbols.{implements}
use Rattle.interface_verifiers.specs.Summary.{DialectSummary}
use Rattle.interface_verifiers.specs.BuiltinRules.{HasFunctionType, HasTypedValue, IsBuiltin}
use Rattle.interface_verifiers.specs.Wanted.{HasConsistentTable}

-- a dialect and its types, the edges that lead into the regions of each operation, and an operation of a program with these types
module _ {D TypeKind AttrKind TypeBody Saved Location OpKind Attr TypeKey B : Type 0} (d : DialectSummary OpKind Attr TypeKey) (edges : Ptr Operation → List RegionEdge)
    (c : Program (OperationData D TypeKind AttrKind TypeBody Saved Location OpKind Attr TypeKey) B) (types : TypesView TypeKey TypeBody Saved) where
  module _ (op : Ptr Operation) where
    -- the operation's kind implements the interface
    abbrev pub Implements : OpInterface → Type 0
    Implements i = implements d.implements c op i ≡ true

    -- the operation meets what the getters ask of each interface that its kind implements: what a branch forwards along each edge fits the block; operands
    -- are in segments; a symbol has a name; a call has a callee type, and that is a type of functions; a table's symbols are consistent; edges into regions
    -- hand on what is taken; and so many operands, results, successors and regions are there, of one type, as the interface says. A function has a type of
    -- functions, a constant a value of its result's type, and none is a forward reference
    pub record MeetsConditions : Type 0 where
      pub branch : Implements interface.Branch → BranchFits d.held_sizes d.segment_count c op d.layout
      pub segments : Implements interface.OperandSegment → HasSegments d.held_sizes d.segment_count c op
      pub symbol : Implements interface.SymbolOp → IsSome (held_under c op d.held_identifier symbol_name)
      pub call : Implements interface.CallOp → HasCalleeType c op d.held_type d.callee_type_key types d.type_implements
      pub table : Implements interface.SymbolTable → HasConsistentTable d edges c types op
      pub regions : Implements interface.RegionBranch → AreRegionEdges d.implements c op (edges op)
      pub rows : (i : OpInterface) → has_only_numbers i ≡ true → is_told_by_rows i ≡ true → Implements i → RowsRule d.type_names d.type_implements c types op i
      pub function : IsBuiltin d c types op (codes "func") → HasFunctionType d c types op
      pub constant : IsBuiltin d c types op (codes "constant") → HasTypedValue d c types op
      pub forward_ref : IsBuiltin d c types op (codes "forward_ref") → ⊥

  -- each operation that is this one or is in it, however far down, meets them
  abbrev pub AllMeetConditions : Ptr Operation → Type 0
  AllMeetConditions root = (op : Ptr Operation) → StandsInside c (OperationNode root) (OperationNode op) → MeetsConditions op
