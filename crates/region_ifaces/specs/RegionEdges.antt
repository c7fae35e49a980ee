-- Edges into the regions of an operation, between them, and out of them.
use Rattle.std.specs.Prelude.{◌≡◌, ℕ, ◌+◌, ◌<◌, ◌≤◌, Bool, List, [], Option, Some, length, option_and_then, slice_get}
use Rattle.std.specs.Option.{option_map_or}
use Rattle.ir_base.specs.declared.types.TypeHandle.{TypeHandle}
use Rattle.ir_names.specs.declared.interfaces.OpInterface.{OpInterface}
use Rattle.ir_program.specs.Lists.{blocks_in, StandsInBlock, StandsInOperation}
use Rattle.ir_program.specs.Program.{Program, TypedValue, arguments_at, results_at, type_at, type_in}
use Rattle.ir_program.specs.Rows.{operands_at}
use Rattle.ir_program.specs.declared.handles.BasicBlock.{BasicBlock}
use Rattle.ir_program.specs.declared.handles.Operation.{Operation}
use Rattle.ir_program.specs.declared.handles.Ptr.{Ptr}
use Rattle.ir_program.specs.declared.handles.Region.{Region}
use Rattle.ir_context.specs.Holders.{HasOperation}
use Rattle.ir_context.specs.declared.notes.OperationData.{OperationData}
use Rattle.ir_queries.specs.Edges.{terminator_of}
use Rattle.region_ifaces.specs.declared.region_edges.RegionBranchPoint.{RegionBranchPoint}
use Rattle.region_ifaces.specs.declared.region_edges.RegionBranchPoint.TheVariants.{Parent, Terminator}
use Rattle.region_ifaces.specs.declared.region_edges.RegionSuccessor.{RegionSuccessor}
use Rattle.region_ifaces.specs.declared.region_edges.RegionSuccessor.TheVariants.{Region as Into, After}
use Rattle.region_ifaces.specs.declared.region_edges.RegionEdge.{RegionEdge}

-- the operation whose operands are handed on from a point of an operation
abbrev pub operation_of : Ptr Operation → RegionBranchPoint → Ptr Operation
operation_of op Parent = op
operation_of op (Terminator t) = t

-- the type of the operand at an index
abbrev pub operand_type : {O B : Type 0} → Program O B → Ptr Operation → ℕ → Option TypeHandle
operand_type c op k = option_and_then (type_at c) (slice_get (operands_at c op) k)

module _ {O B : Type 0} (c : Program O B) (op : Ptr Operation) where
  -- the arguments of a region's entry block; none where it has no block
  abbrev pub entry_arguments : Ptr Region → List TypedValue
  entry_arguments region = option_map_or (arguments_at c) (slice_get (blocks_in c region) 0) []

  -- what is given a value where an edge leads: the arguments of a region's entry block, or the results of the operation
  abbrev pub receivers_of : RegionSuccessor → List TypedValue
  receivers_of (Into region) = entry_arguments region
  receivers_of After = results_at c op

  -- the edge leads to a region of the operation, or behind it
  abbrev pub IsSuccessor : RegionSuccessor → Type 0
  IsSuccessor (Into region) = StandsInOperation c region op
  IsSuccessor After = Unit {0}

  -- operands at the point of the edge are handed on, one to each of the receivers that it names, of the same type
  pub record HandsOn (edge : RegionEdge) : Type 0 where
    pub operands : edge.operands.first + edge.operands.count ≤ length (operands_at c (operation_of op edge.source))
    pub receivers : edge.receivers.first + edge.receivers.count ≤ length (receivers_of edge.target)
    pub many : edge.operands.count ≡ edge.receivers.count
    pub types : (k : ℕ) → k < edge.operands.count → operand_type c (operation_of op edge.source) (edge.operands.first + k) ≡ type_in (receivers_of edge.target) (edge.receivers.first + k)

-- a dialect and its types; `has` says which kinds implement which interfaces
module _ {D TypeKind AttrKind TypeBody Saved Location OpKind Attr TypeKey B : Type 0} (has : OpKind → OpInterface → Bool) (c : Program (OperationData D TypeKind AttrKind TypeBody Saved Location OpKind Attr TypeKey) B) (op : Ptr Operation) where
  -- the terminator of a block of a region of the operation
  pub record IsRegionTerminator (t : Ptr Operation) : Type 0 where
    pub block : Ptr BasicBlock
    pub inner : StandsInBlock c t block
    pub outer : HasOperation c block op
    pub ends : terminator_of has c block ≡ Some t

  -- the edge leads from the operation, or from a terminator in its regions
  abbrev pub IsPoint : RegionBranchPoint → Type 0
  IsPoint Parent = Unit {0}
  IsPoint (Terminator t) = IsRegionTerminator t

  -- an edge of the operation: where it leads from and to, and what it hands on
  pub record IsRegionEdge (edge : RegionEdge) : Type 0 where
    pub target : IsSuccessor c op edge.target
    pub source : IsPoint edge.source
    pub hands_on : HandsOn c op edge

  -- all of them are edges of the operation
  abbrev pub AreRegionEdges : List RegionEdge → Type 0
  AreRegionEdges edges = (i : ℕ) (edge : RegionEdge) → slice_get edges i ≡ Some edge → IsRegionEdge edge
