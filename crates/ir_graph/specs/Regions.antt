-- The blocks of a region as a graph of control flow. An edge leads from an operation to each of its successors.
use Rattle.std.specs.Prelude.{◌≡◌, Bool, ◌&&◌, eqb, List, Some, IsSome, Contains, map, unwrap_or}
use Rattle.std.specs.List.{find, list_any}
use Rattle.ir_names.specs.declared.interfaces.OpInterface.{OpInterface}
use Rattle.ir_program.specs.Program.{Program, region_at}
use Rattle.ir_program.specs.Lists.{operations_in, blocks_in, StandOnce}
use Rattle.ir_program.specs.Order.{edges_listed}
use Rattle.ir_program.specs.Rows.{successors_at}
use Rattle.ir_program.specs.Uses.{AreBlockUses}
use Rattle.ir_program.specs.declared.handles.Ptr.{Ptr}
use Rattle.ir_program.specs.declared.handles.Operation.{Operation}
use Rattle.ir_program.specs.declared.handles.Region.{Region}
use Rattle.ir_program.specs.declared.handles.BasicBlock.{BasicBlock}
use Rattle.ir_program.specs.declared.handles.Use.{Use}
use Rattle.ir_context.specs.declared.notes.OperationData.{OperationData}
use Rattle.ir_queries.specs.Edges.{terminator_of}

-- both handles are the same
abbrev pub same : {E : Type 0} → Ptr E → Ptr E → Bool
same p q = eqb p.key.slot q.key.slot && eqb p.key.version q.key.version

module _ {O B : Type 0} (c : Program O B) (region : Ptr Region) where
  -- the operation is in a block of the region
  pub record IsOperationOf (p : Ptr Operation) : Type 0 where
    pub block : Ptr BasicBlock
    pub in_region : Contains (blocks_in c region) block
    pub in_block : Contains (operations_in c block) p

  -- the successors of the operation are blocks of the region
  abbrev pub LeadsInside : Ptr Operation → Type 0
  LeadsInside p = (s : Ptr BasicBlock) → Contains (successors_at c p) s → Contains (blocks_in c region) s

  -- the operations that have the block as a successor are in blocks of the region
  abbrev pub IsEnteredInside : Ptr BasicBlock → Type 0
  IsEnteredInside s = (p : Ptr Operation) → Contains (successors_at c p) s → IsOperationOf p

  -- the block of the region in which the operation of the edge is; the block to which the edge leads, if that is in no block of the region
  abbrev pub origin_in : Use (Ptr BasicBlock) → Ptr BasicBlock
  origin_in edge = unwrap_or (find (λ (b : Ptr BasicBlock). list_any (λ (p : Ptr Operation). same edge.user_op p) (operations_in c b)) (blocks_in c region)) edge.def

  -- the blocks of the region from which edges lead to a block, one for each edge, in the order in which the program lists the edges
  abbrev pub predecessors_in : Ptr BasicBlock → List (Ptr BasicBlock)
  predecessors_in block = map origin_in (edges_listed c block)

-- a dialect and its types; `has` says which kinds of operations implement which interfaces
module _ {D TypeKind AttrKind TypeBody Saved Location OpKind Attr TypeKey B : Type 0} (has : OpKind → OpInterface → Bool)
    (c : Program (OperationData D TypeKind AttrKind TypeBody Saved Location OpKind Attr TypeKey) B) where
  -- if the operation has a successor, it is the terminator of the block: the last operation, of a kind that ends blocks
  abbrev pub IsTerminatorIfLeads : Ptr BasicBlock → Ptr Operation → Type 0
  IsTerminatorIfLeads b p = (s : Ptr BasicBlock) → Contains (successors_at c p) s → terminator_of has c b ≡ Some p

  module _ (region : Ptr Region) where
    -- in the block only the terminator has successors, and these are blocks of the region
    abbrev pub IsLeftInside : Ptr BasicBlock → Type 0
    IsLeftInside b = (p : Ptr Operation) → Contains (operations_in c b) p → IsTerminatorIfLeads b p × LeadsInside c region p

    -- the edges that leave blocks of the region are those that enter blocks of the region
    pub record HasLocalEdges : Type 0 where
      -- in the region an operation that has a successor is the terminator of its block
      pub terminators : (b : Ptr BasicBlock) (p : Ptr Operation) → Contains (blocks_in c region) b → Contains (operations_in c b) p → IsTerminatorIfLeads b p
      -- the successors of operations of the region are blocks of the region
      pub leaving : (p : Ptr Operation) → IsOperationOf c region p → LeadsInside c region p
      -- an operation, wherever it is, that has a block of the region as a successor is an operation of the region
      pub entering : (s : Ptr BasicBlock) → Contains (blocks_in c region) s → IsEnteredInside c region s

    -- the blocks of the region are a graph: the region is there, and its edges are local. The rest is so in every program: no operation
    -- and no block is in two lists, or twice in one, and the edges that the program lists of a block are those to it, each once
    pub record IsBlockGraph : Type 0 where
      pub live : IsSome (region_at c region)
      pub local : HasLocalEdges
      pub operations_once : StandOnce (operations_in c)
      pub blocks_once : StandOnce (blocks_in c)
      pub listed : (b : Ptr BasicBlock) → Contains (blocks_in c region) b → AreBlockUses c b (edges_listed c b)
