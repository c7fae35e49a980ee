-- What contracts say of the blocks that a block may go on to, and of the regions whose blocks are in no order.
use Rattle.std.specs.Prelude.{◌≡◌, ℕ, ◌-◌, Bool, true, false, cond, List, [], length, Option, Some, None, option_and_then, slice_get}
use Rattle.std.specs.Option.{option_map_or}
use Rattle.ir_names.specs.declared.interfaces.OpInterface.{OpInterface}
use Rattle.ir_names.specs.declared.interfaces.OpInterface.TheVariants.{IsTerminator, RegionKind as HasRegionKind}
use Rattle.ir_names.specs.declared.interfaces.RegionKind.{RegionKind}
use Rattle.ir_names.specs.declared.interfaces.RegionKind.TheVariants.{Graph}
use Rattle.ir_program.specs.Program.{Program}
use Rattle.ir_program.specs.Lists.{operations_in, regions_in}
use Rattle.ir_program.specs.Rows.{successors_at}
use Rattle.ir_program.specs.declared.handles.Ptr.{Ptr}
use Rattle.ir_program.specs.declared.handles.Operation.{Operation}
use Rattle.ir_program.specs.declared.handles.Region.{Region}
use Rattle.ir_program.specs.declared.handles.BasicBlock.{BasicBlock}
use Rattle.ir_context.specs.Kept.{kind_at}
use Rattle.ir_context.specs.declared.notes.OperationData.{OperationData}

-- a dialect and its types; `has` says which kinds of operations implement which interfaces
module _ {D TypeKind AttrKind TypeBody Saved Location OpKind Attr TypeKey B : Type 0} (has : OpKind → OpInterface → Bool) where
  -- the operation is of a kind that ends blocks
  abbrev pub ends_block : Program (OperationData D TypeKind AttrKind TypeBody Saved Location OpKind Attr TypeKey) B → Ptr Operation → Bool
  ends_block c p = option_map_or (λ kind. has kind IsTerminator) (kind_at c p) false

  -- the terminator of a block: its last operation, if that is of a kind that ends blocks
  abbrev pub terminator_of : Program (OperationData D TypeKind AttrKind TypeBody Saved Location OpKind Attr TypeKey) B → Ptr BasicBlock → Option (Ptr Operation)
  terminator_of c b = option_and_then (λ p. cond (ends_block c p) (Some p) None) (slice_get (operations_in c b) (length (operations_in c b) - 1))

  -- the blocks that a block may go on to: the successors of its terminator in order, none without one
  abbrev pub edges_of : Program (OperationData D TypeKind AttrKind TypeBody Saved Location OpKind Attr TypeKey) B → Ptr BasicBlock → List (Ptr BasicBlock)
  edges_of c b = option_map_or (successors_at c) (terminator_of c b) []

  -- the region is one whose blocks are in no order: its operation says which of its regions are graphs, and that this one is; `order` says how kinds order their regions
  pub record IsGraphRegion (order : OpKind → ℕ → RegionKind) (c : Program (OperationData D TypeKind AttrKind TypeBody Saved Location OpKind Attr TypeKey) B) (region : Ptr Region) : Type 0 where
    pub op : Ptr Operation
    pub index : ℕ
    pub kind : OpKind
    pub here : slice_get (regions_in c op) index ≡ Some region
    pub is : kind_at c op ≡ Some kind
    pub says : has kind HasRegionKind ≡ true
    pub graph : order kind index ≡ Graph
