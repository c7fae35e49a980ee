-- What is under the place where looking begins: what is inside it, the block and the region of each operation there, and
-- what is visited.
use Rattle.std.proofs.Common.{◌≡◌, ⊎_elim, ℕ, Bool, [], Some, slice_get, option_map, unwrap_or, refl, ap, ◌∙◌, subst}
use Rattle.ir_program.specs.Program.{Program, OperationView}
use Rattle.ir_program.specs.Lists.{StandsInBlock, StandsInRegion, StandsInside, itself, in_block, in_region, in_operation, regions_in}
use Rattle.ir_program.specs.Rows.{successors_at}
use Rattle.ir_program.specs.declared.handles.IRNode.{IRNode}
use Rattle.ir_program.specs.declared.handles.IRNode.TheVariants.{Operation as OperationNode, Region as RegionNode, BasicBlock as BlockNode}
use Rattle.ir_program.specs.declared.handles.Ptr.{Ptr}
use Rattle.ir_program.specs.declared.handles.Operation.{Operation}
use Rattle.ir_program.specs.declared.handles.Region.{Region}
use Rattle.ir_program.specs.declared.handles.BasicBlock.{BasicBlock}
use Rattle.ir_trees.specs.Searched.{Lists}
use Rattle.ir_trees.specs.Stands.{by_handle, in_program, ProgramTree}
use Rattle.opt_trees.specs.Dialect.{Dialect}
use Rattle.opt_trees.specs.Occurrences.{Has, Spot, occurrences_of}
use Rattle.opt_trees.specs.Simplify.{StartingRegions, IsVisited, of_place, of_inner}
use Rattle.opt_inside.specs.Occurring.{Found, IsBelowRoot, IsBlockBelow, IsSpotOf, IsOccurrence}
use Rattle.opt_inside.proofs.Around.{HasLists, inside_both, around_operation, around_block}
use Rattle.opt_inside.specs.reach.Edges.{IsNodeUnder, IsUnder, IsBlockUnder, HasLocalEdgesFrom}
use Rattle.opt_inside.specs.reach.Starts.{IsStartIn}
use Rattle.opt_inside.specs.declared.reach.starts.Start.{Start}
use Rattle.opt_inside.proofs.ReachLemmas.Begins.{begins_exactly}
use Rattle.opt_inside.proofs.ReachLemmas.Occurs.{below_block, beside_below}

module _ {O B : Type 0} (c : Program O B) where
  -- a block inside a region is in a region, and so is the block of an operation there
  region_of : (r : Ptr Region) (e : IRNode) (b : Ptr BasicBlock) → StandsInside c (RegionNode r) e → e ≡ BlockNode b → (s : Ptr Region) × StandsInRegion c b s
  region_of r _ b itself same = cc
  region_of r _ b (in_block p a s i) same = cc
  region_of r _ b (in_region a q s i) same = let e : a ≡ b = cc in (q, subst (λ z. StandsInRegion c z q) e s)
  region_of r _ b (in_operation q p s i) same = cc

  block_of : (r : Ptr Region) (e : IRNode) (p : Ptr Operation) → StandsInside c (RegionNode r) e → e ≡ OperationNode p → (b : Ptr BasicBlock) × (s : Ptr Region) × StandsInBlock c p b × StandsInRegion c b s
  block_of r _ p itself same = cc
  block_of r _ p (in_block q b s i) same = let e : q ≡ p = cc in let h = region_of r (BlockNode b) b i refl in (b, h.0, subst (λ z. StandsInBlock c z b) e s, h.1)
  block_of r _ p (in_region a q s i) same = cc
  block_of r _ p (in_operation q o s i) same = cc

module _ {O B : Type 0} (c : Program O B) (start : Start) where
  -- what is inside something under the place is so
  pub under_into : (e f : IRNode) → IsNodeUnder c start e → StandsInside c e f → IsNodeUnder c start f
  under_into e f u i = record {
    operation = u.operation;
    region = u.region;
    begins = u.begins;
    of_operation = u.of_operation;
    inside = inside_both c (RegionNode u.region) e f u.inside i;
  }

  pub under_block : (p : Ptr Operation) (b : Ptr BasicBlock) → StandsInBlock c p b → IsBlockUnder c start b → IsUnder c start p
  under_block p b s u = under_into (BlockNode b) (OperationNode p) u (in_block p b s itself)

  -- an operation under the place is in a block of a region
  pub under_home : (p : Ptr Operation) → IsUnder c start p → (b : Ptr BasicBlock) × (r : Ptr Region) × StandsInBlock c p b × StandsInRegion c b r
  under_home p u = block_of c u.region (OperationNode p) p u.inside refl

  module _ (lists : HasLists c) where
    -- the block of an operation under the place is so, and so are the other blocks of a block's region
    pub block_under : (p : Ptr Operation) (b : Ptr BasicBlock) → StandsInBlock c p b → IsUnder c start p → IsBlockUnder c start b
    block_under p b s u = record {
      operation = u.operation;
      region = u.region;
      begins = u.begins;
      of_operation = u.of_operation;
      inside = ⊎_elim (λ (e : RegionNode u.region ≡ OperationNode p). cc) (λ i. i) (around_operation c lists (RegionNode u.region) p b s u.inside);
    }

    pub beside_under : (b s : Ptr BasicBlock) (r : Ptr Region) → StandsInRegion c b r → StandsInRegion c s r → IsBlockUnder c start b → IsBlockUnder c start s
    beside_under b s r in_r s_in_r u = record {
      operation = u.operation;
      region = u.region;
      begins = u.begins;
      of_operation = u.of_operation;
      inside = in_region s r s_in_r (⊎_elim (λ (e : RegionNode u.region ≡ BlockNode b). cc) (λ i. i) (around_block c lists (RegionNode u.region) b r in_r u.inside));
    }

    -- where edges are local, what leads to a block under the place that is below a root is below it, too
    pub entering_below : (is_terminator : O → Bool) → HasLocalEdgesFrom is_terminator c start → (op p : Ptr Operation) (s : Ptr BasicBlock) → Lists (successors_at c p) s
        → IsBlockUnder c start s → IsBlockBelow c op s → IsBelowRoot c op p
    entering_below is_terminator edges op p s l under below =
        let u = edges.entering p s l under in
        let h = under_home p u in
        below_block c lists op p h.0 h.2 (beside_below c lists op s h.0 h.1 (edges.leaving p s h.0 h.1 u l h.2 h.3) h.3 below)

-- what is visited is under the place
module _ {O B A : Type 0} (d : Dialect (in_program O B) A) (place : StartingRegions by_handle) (c : Program O B) (lists : HasLists c) (start : Start) (is_start : IsStartIn c start place)
    (op : Ptr Operation) (t : ProgramTree O B) (sound : (o : Found O B) → Has o (occurrences_of t) → IsOccurrence c op o) where
  -- the region that a block's spot says
  spot_here : (b : Ptr BasicBlock) (s : Spot by_handle (in_program O B)) (is : IsSpotOf c op b s) → slice_get (regions_in c s.owner.name) s.region ≡ Some is.region
  spot_here b s is = ap (λ o. slice_get (unwrap_or (option_map (λ (v : OperationView O). v.regions) o) []) s.region) is.owner_there ∙ is.index

  visited_under : (q : Ptr Operation) (i : ℕ) → IsVisited d place t q i → (r : Ptr Region) → slice_get (regions_in c q) i ≡ Some r → IsNodeUnder c start (RegionNode r)
  visited_under _ _ (of_place q i begins) r here = record {
    operation = q;
    region = r;
    begins = (begins_exactly c lists start place is_start q i r here).0 begins;
    of_operation = lists.regions q i r here;
    inside = itself;
  }
  visited_under _ _ (of_inner o i has visited entered) r here =
      let at = sound o has in
      let around = visited_under o.site.spot.owner.name o.site.spot.region visited at.spot.region (spot_here o.site.label.name o.site.spot at.spot) in
      under_into c start (RegionNode at.spot.region) (RegionNode r) around
      (in_operation r o.head.name (lists.regions o.head.name i r here) (in_block o.head.name o.site.label.name at.in_block (in_region o.site.label.name at.spot.region at.spot.in_region itself)))

  pub spot_under : (b : Ptr BasicBlock) (s : Spot by_handle (in_program O B)) → IsSpotOf c op b s → IsVisited d place t s.owner.name s.region → IsBlockUnder c start b
  spot_under b s is visited =
      under_into c start (RegionNode is.region) (BlockNode b) (visited_under s.owner.name s.region visited is.region (spot_here b s is)) (in_region b is.region is.in_region itself)
