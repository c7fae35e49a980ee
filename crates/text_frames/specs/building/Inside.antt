-- What is inside an operation, a region or a block, and taking it out.
use Rattle.std.specs.Prelude.{◌≡◌, ℕ, List, [], Some, None, IsSome, slice_get, option_map}
use Rattle.ir_program.specs.Erased.{definer_node}
use Rattle.ir_program.specs.Program.{Program}
use Rattle.ir_program.specs.declared.handles.Ptr.{Ptr}
use Rattle.ir_program.specs.declared.handles.Operation.{Operation}
use Rattle.ir_program.specs.declared.handles.Region.{Region}
use Rattle.ir_program.specs.declared.handles.BasicBlock.{BasicBlock}
use Rattle.ir_program.specs.declared.handles.Value.{Value}
use Rattle.ir_program.specs.declared.handles.IRNode.{IRNode}
use Rattle.ir_program.specs.declared.handles.IRNode.TheVariants.{Operation as OperationNode, Region as RegionNode, BasicBlock as BlockNode}
use Rattle.text_dialect.specs.Seen.{SeenOperation, SeenBlock, Seen}
use Rattle.text_frames.specs.building.Kept.{KeepsAllSeen, KeepsPayloadsOf}
use Rattle.text_frames.specs.building.Loose.{IsLooseOperation, IsLooseBlock}

module _ {K A T : Type 0} (s : Seen K A T) where
  -- the handle leads to an operation, a region or a block
  abbrev pub IsThere : IRNode → Type 0
  IsThere (OperationNode p) = IsSome (s.operation p)
  IsThere (RegionNode r) = IsSome (s.region r)
  IsThere (BlockNode b) = IsSome (s.block b)

  -- the handle leads nowhere
  abbrev pub IsNowhere : IRNode → Type 0
  IsNowhere (OperationNode p) = s.operation p ≡ None
  IsNowhere (RegionNode r) = s.region r ≡ None
  IsNowhere (BlockNode b) = s.block b ≡ None

  -- the inner is the outer, or is in it, however far down
  pub data IsNodeInside (outer : IRNode) : IRNode → Type 0 where
    itself : IsNodeInside outer outer
    in_block : (p : Ptr Operation) (b : Ptr BasicBlock) (v : SeenBlock) (k : ℕ) → s.block b ≡ Some v
        → slice_get v.operations k ≡ Some p → IsNodeInside outer (BlockNode b) → IsNodeInside outer (OperationNode p)
    in_region : (b : Ptr BasicBlock) (r : Ptr Region) (bs : List (Ptr BasicBlock)) (k : ℕ) → s.region r ≡ Some bs
        → slice_get bs k ≡ Some b → IsNodeInside outer (RegionNode r) → IsNodeInside outer (BlockNode b)
    in_operation : (r : Ptr Region) (p : Ptr Operation) (o : SeenOperation K A) (k : ℕ) → s.operation p ≡ Some o
        → slice_get o.regions k ≡ Some r → IsNodeInside outer (OperationNode p) → IsNodeInside outer (RegionNode r)

-- What is in a list is there, and in no other list: so it is in every context.
pub record IsSeenForest {K A T : Type 0} (s : Seen K A T) : Type 0 where
  pub operation_there : (b : Ptr BasicBlock) (v : SeenBlock) (k : ℕ) (p : Ptr Operation) → s.block b ≡ Some v
      → slice_get v.operations k ≡ Some p → IsSome (s.operation p)
  pub block_there : (r : Ptr Region) (bs : List (Ptr BasicBlock)) (k : ℕ) (b : Ptr BasicBlock)
      → s.region r ≡ Some bs → slice_get bs k ≡ Some b → IsSome (s.block b)
  pub region_there : (p : Ptr Operation) (o : SeenOperation K A) (k : ℕ) (r : Ptr Region)
      → s.operation p ≡ Some o → slice_get o.regions k ≡ Some r → IsSome (s.region r)
  pub operation_once : (b c : Ptr BasicBlock) (v w : SeenBlock) (j k : ℕ) (p : Ptr Operation)
      → s.block b ≡ Some v → s.block c ≡ Some w → slice_get v.operations j ≡ Some p
      → slice_get w.operations k ≡ Some p → b ≡ c
  pub block_once : (q r : Ptr Region) (bs cs : List (Ptr BasicBlock)) (j k : ℕ) (b : Ptr BasicBlock)
      → s.region q ≡ Some bs → s.region r ≡ Some cs → slice_get bs j ≡ Some b → slice_get cs k ≡ Some b → q ≡ r
  pub region_once : (p q : Ptr Operation) (o u : SeenOperation K A) (j k : ℕ) (r : Ptr Region)
      → s.operation p ≡ Some o → s.operation q ≡ Some u → slice_get o.regions j ≡ Some r
      → slice_get u.regions k ≡ Some r → p ≡ q

module _ {K A T : Type 0} (s : Seen K A T) where
  -- an operation that is in no block, or a block that is in no region
  abbrev pub IsLoose : IRNode → Type 0
  IsLoose (OperationNode p) = IsLooseOperation s p
  IsLoose (RegionNode r) = ⊥
  IsLoose (BlockNode b) = IsLooseBlock s b

  -- each of these is such a thing, and none comes twice
  pub record AreLoose (xs : List IRNode) : Type 0 where
    pub loose : (k : ℕ) (x : IRNode) → slice_get xs k ≡ Some x → IsLoose x
    pub once : (j k : ℕ) (x : IRNode) → slice_get xs j ≡ Some x → slice_get xs k ≡ Some x → j ≡ k

  -- the inner is inside one of these
  pub record IsInsideSome (xs : List IRNode) (inner : IRNode) : Type 0 where
    pub index : ℕ
    pub thing : IRNode
    pub here : slice_get xs index ≡ Some thing
    pub inside : IsNodeInside s thing inner

  -- each operation that takes a value of what is inside these, or goes on to a block inside these, is inside these
  pub record AreUsedInside (xs : List IRNode) : Type 0 where
    pub values : (p : Ptr Operation) (o : SeenOperation K A) (k : ℕ) (v : Value) → s.operation p ≡ Some o
        → slice_get o.operands k ≡ Some v
        → IsInsideSome xs (definer_node v.definer) → IsInsideSome xs (OperationNode p)
    pub blocks : (p : Ptr Operation) (o : SeenOperation K A) (k : ℕ) (b : Ptr BasicBlock)
        → s.operation p ≡ Some o → slice_get o.successors k ≡ Some b
        → IsInsideSome xs (BlockNode b) → IsInsideSome xs (OperationNode p)

  -- no operation takes a value of what is inside these, or goes on to a block inside these
  pub record AreUnused (xs : List IRNode) : Type 0 where
    pub values : (p : Ptr Operation) (o : SeenOperation K A) (k : ℕ) (v : Value) → s.operation p ≡ Some o
        → slice_get o.operands k ≡ Some v
        → IsInsideSome xs (definer_node v.definer) → ⊥
    pub blocks : (p : Ptr Operation) (o : SeenOperation K A) (k : ℕ) (b : Ptr BasicBlock)
        → s.operation p ≡ Some o → slice_get o.successors k ≡ Some b
        → IsInsideSome xs (BlockNode b) → ⊥

  -- each value that an operation takes has its definer there, and each block that it may go on to is there
  pub record NamesWhatIsThere : Type 0 where
    pub values : (p : Ptr Operation) (o : SeenOperation K A) (k : ℕ) (v : Value) → s.operation p ≡ Some o
        → slice_get o.operands k ≡ Some v
        → IsThere s (definer_node v.definer)
    pub blocks : (p : Ptr Operation) (o : SeenOperation K A) (k : ℕ) (b : Ptr BasicBlock)
        → s.operation p ≡ Some o → slice_get o.successors k ≡ Some b
        → IsThere s (BlockNode b)

-- the operation without operands and successors
abbrev pub without_names : {K A : Type 0} → SeenOperation K A → SeenOperation K A
without_names o = record o { operands = []; successors = [] }

module _ {K A T : Type 0} (old new : Seen K A T) where
  -- the operations inside these have no operands and no successors, and all else is as it was
  pub record DropsUsesInNodes (xs : List IRNode) : Type 0 where
    pub inside : (p : Ptr Operation) → IsInsideSome old xs (OperationNode p)
        → new.operation p ≡ option_map without_names (old.operation p)
    pub outside : (p : Ptr Operation) → (IsInsideSome old xs (OperationNode p) → ⊥) → new.operation p ≡ old.operation p
    pub blocks : (b : Ptr BasicBlock) → new.block b ≡ old.block b
    pub regions : (r : Ptr Region) → new.region r ≡ old.region r
    pub types : new.types ≡ old.types

  -- these and all that is inside them is gone, and all else is as it was
  pub record ErasesNodes (xs : List IRNode) : Type 0 where
    pub gone : (e : IRNode) → IsInsideSome old xs e → IsNowhere new e
    pub operations : (p : Ptr Operation) → (IsInsideSome old xs (OperationNode p) → ⊥)
        → new.operation p ≡ old.operation p
    pub blocks : (b : Ptr BasicBlock) → (IsInsideSome old xs (BlockNode b) → ⊥) → new.block b ≡ old.block b
    pub regions : (r : Ptr Region) → (IsInsideSome old xs (RegionNode r) → ⊥) → new.region r ≡ old.region r
    pub types : new.types ≡ old.types

-- All that was there at the start is there as it was, and inside none of these; all that came since is inside one of
-- these; and what operations named at the start was there.
pub record CameSince {K A T : Type 0} (start now : Seen K A T) (xs : List IRNode) : Type 0 where
  pub keeps : KeepsAllSeen start now
  pub named : NamesWhatIsThere start
  pub old : (e : IRNode) → IsThere start e → IsInsideSome now xs e → ⊥
  pub came : (e : IRNode) → IsNowhere start e → IsThere now e → IsInsideSome now xs e

-- what is there at the start is inside none of these
abbrev pub StartIsOutside : {K A T : Type 0} → Seen K A T → Seen K A T → List IRNode → Type 0
StartIsOutside start now xs = (e : IRNode) → IsThere start e → IsInsideSome now xs e → ⊥

-- what is inside none of these, where the old context is seen so, keeps its payload
abbrev pub KeepsPayloadsOutside : {K A T O B : Type 0} → Seen K A T → List IRNode → Program O B → Program O B → Type 0
KeepsPayloadsOutside {K} {A} {T} s xs old new = (start : Seen K A T) → StartIsOutside start s xs → KeepsPayloadsOf start old new
