-- What the interfaces of an operation want of it, those of symbol tables and of branches into regions among them, and what builtin operations ask.
use Rattle.std.specs.Prelude.{◌≡◌, ℕ, List, Option, Some, IfSome, slice_get}
use Rattle.ir_base.specs.declared.types.TypeHandle.{TypeHandle}
use Rattle.ir_names.specs.declared.interfaces.OpInterface.{OpInterface}
use Rattle.ir_names.specs.declared.interfaces.OpInterface.TheVariants as interface
use Rattle.ir_program.specs.Program.{Program}
use Rattle.ir_program.specs.declared.handles.Operation.{Operation}
use Rattle.ir_program.specs.declared.handles.Ptr.{Ptr}
use Rattle.ir_types.specs.Views.{TypesView}
use Rattle.ir_context.specs.Kept.{kind_at}
use Rattle.ir_context.specs.declared.notes.OperationData.{OperationData}
use Rattle.ir_core.specs.verification.Tests.{Test, of_op, of_attr, of_type}
use Rattle.ir_symbols.specs.Contents.{symbol_name}
use Rattle.builtin_ifaces.specs.Interfaces.{Rule}
use Rattle.region_ifaces.specs.RegionEdges.{AreRegionEdges}
use Rattle.region_ifaces.specs.declared.region_edges.RegionEdge.{RegionEdge}
use Rattle.symbol_ifaces.specs.Symbols.{holds_table, used_symbol}
use Rattle.symbol_ifaces.specs.Tables.{IsConsistent}
use Rattle.interface_verifiers.specs.Summary.{DialectSummary}
use Rattle.interface_verifiers.specs.BuiltinRules.{MeetsBuiltinRule}

-- a dialect and its types, the edges that lead into the regions of each operation, and an operation of a program with these types
module _ {D TypeKind AttrKind TypeBody Saved Location OpKind Attr TypeKey B : Type 0} (d : DialectSummary OpKind Attr TypeKey) (edges : Ptr Operation → List RegionEdge)
    (c : Program (OperationData D TypeKind AttrKind TypeBody Saved Location OpKind Attr TypeKey) B) (types : TypesView TypeKey TypeBody Saved) (op : Ptr Operation) where
  -- the symbols in it have distinct names, and what is used in it is among them, if it holds a symbol table
  abbrev pub HasConsistentTable : Type 0
  HasConsistentTable = IsConsistent (symbol_name d.implements d.held_identifier) (holds_table d.implements) (used_symbol d.implements d.held_identifier d.callee_key d.callee_place c) c op

  -- what an interface asks of the operation alone: its rows, its regions' shape, its attributes, the types and blocks that it names
  abbrev pub AsksAlone : OpInterface → Type 0
  AsksAlone i = Rule d.held_identifier d.held_type d.held_sizes d.segment_count d.layout d.callee_type_key d.type_names d.type_implements c types op i

  -- what an interface asks of what is in the operation; most ask nothing
  abbrev pub AsksInside : OpInterface → Type 0
  AsksInside interface.SymbolTable = HasConsistentTable
  AsksInside interface.RegionBranch = AreRegionEdges d.implements c op (edges op)
  AsksInside i = Unit {0}

  -- the operation is as the interface wants it
  pub record IsAsWantedBy (i : OpInterface) : Type 0 where
    pub alone : AsksAlone i
    pub inside : AsksInside i

  -- it is as each interface of a list wants it
  abbrev pub IsAsAllWant : List OpInterface → Type 0
  IsAsAllWant interfaces = (k : ℕ) (i : OpInterface) → slice_get interfaces k ≡ Some i → IsAsWantedBy i

  -- it is as each interface wants it that the table of its kind lists
  abbrev pub MeetsItsInterfaces : Type 0
  MeetsItsInterfaces = IfSome (kind_at c op) (λ kind. IsAsAllWant (d.interfaces kind))

  -- it is as its interfaces want it, and as the builtin kind wants it, if it is of one
  pub record IsAsWanted : Type 0 where
    pub interfaces : MeetsItsInterfaces
    pub builtin : MeetsBuiltinRule d c types op

-- what is accepted: operations that are as wanted, and each attribute and each type
module _ {D TypeKind AttrKind TypeBody Saved Location OpKind Attr TypeKey B : Type 0} (d : DialectSummary OpKind Attr TypeKey) (edges : Ptr Operation → List RegionEdge)
    (c : Program (OperationData D TypeKind AttrKind TypeBody Saved Location OpKind Attr TypeKey) B) (types : TypesView TypeKey TypeBody Saved) where
  abbrev pub IsAccepted : Test Attr → Type 0
  IsAccepted (of_op op) = IsAsWanted d edges c types op
  IsAccepted (of_attr attr) = Unit {0}
  IsAccepted (of_type ty) = Unit {0}
