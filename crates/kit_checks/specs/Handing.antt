-- Where the edges of an operation lead, and what is handed on along them, said of the program.
use Rattle.std.specs.Prelude.{◌≡◌, ℕ, suc, true, List, drop, map, take, Some, slice_get}
use Rattle.ir_program.specs.Lists.{StandsInBlock, StandsInRegion}
use Rattle.ir_program.specs.Program.{Program, TypedValue, arguments_at}
use Rattle.ir_program.specs.Rows.{operands_at, successors_at}
use Rattle.ir_program.specs.declared.handles.Ptr.{Ptr}
use Rattle.ir_program.specs.declared.handles.Operation.{Operation}
use Rattle.ir_program.specs.declared.handles.Region.{Region}
use Rattle.ir_program.specs.declared.handles.BasicBlock.{BasicBlock}
use Rattle.ir_program.specs.declared.handles.Value.{Value}
use Rattle.ir_trees.specs.Searched.{Lists}
use Rattle.ir_trees.specs.Stands.{ProgramTree}
use Rattle.kit_checks.specs.Sites.{Around, Body, Site, block_list}
use Rattle.kit_checks.specs.Words.{Every, HaveTypes, along_edge, is_branch, kind_of, segment, segment_sizes, sizes_or_none}
use Rattle.kit_checks.specs.World.{World}

-- the block is in the region that the operation is in
pub record IsBeside {O B : Type 0} (c : Program O B) (op : Ptr Operation) (block : Ptr BasicBlock) : Type 0 where
  pub own : Ptr BasicBlock
  pub region : Ptr Region
  pub in_own : StandsInBlock c op own
  pub in_region : StandsInRegion c own region
  pub beside : StandsInRegion c block region

-- the block is one of the region that is around the operation
abbrev pub IsAmongBlocks : {O B : Type 0} → Site O B → Ptr BasicBlock → Type 0
IsAmongBlocks {O} {B} s target = (a : Around O B) × (s.around ≡ Some a) × (body : Body O B) ×
    Lists (block_list a.blocks) body × (body.label.name ≡ target)

-- all successors are
abbrev pub EdgesStay : {O B : Type 0} → Site O B → Type 0
EdgesStay s = Every (IsAmongBlocks s) s.op.head.successors

-- the operands of the segment behind the first that is an edge's
abbrev pub segment_of : {X : Type 0} → List X → List ℕ → ℕ → List X
segment_of operands sizes edge = segment operands sizes (suc edge)

module _ {O B : Type 0} (w : World O B) (c : Program O B) where
  -- the values have the types of the block's arguments, in number and order
  abbrev pub FitBlockArguments : List Value → Ptr BasicBlock → Type 0
  FitBlockArguments vs block = HaveTypes w vs (map (λ (t : TypedValue). t.ty) (arguments_at c block))

  -- what is handed on along an edge fits the block that it leads to
  abbrev pub FitTargets : List (Ptr BasicBlock) → (ℕ → List Value) → Type 0
  FitTargets targets handed =
      (edge : ℕ) (target : Ptr BasicBlock) → slice_get targets edge ≡ Some target → FitBlockArguments (handed edge) target

  -- so of operands of the operation: of some in a row and one block, of all of them and each edge, of their segments
  abbrev pub RunFits : Ptr Operation → ℕ → ℕ → Ptr BasicBlock → Type 0
  RunFits op first count block = FitBlockArguments (take count (drop first (operands_at c op))) block

  abbrev pub AllFit : Ptr Operation → Type 0
  AllFit op = FitTargets (successors_at c op) (λ edge. operands_at c op)

  abbrev pub SegmentsFit : Ptr Operation → List ℕ → Type 0
  SegmentsFit op sizes = FitTargets (successors_at c op) (segment_of (operands_at c op) sizes)

  -- what a branch hands on along each edge fits
  abbrev pub EdgesHandOn : ProgramTree O B → Type 0
  EdgesHandOn u = is_branch (kind_of w u) ≡ true →
      FitTargets u.head.successors (along_edge (kind_of w u) (sizes_or_none (segment_sizes w u)) u.head.operands)
