-- What is found below the root of a tree is what is below it in the program.
use Rattle.std.proofs.Common.{◌≡◌, ◌≢◌, ⊎_elim, ℕ, [], Some, slice_get, option_map, unwrap_or, ap, ◌∙◌}
use Rattle.ir_program.specs.Program.{Program, OperationView}
use Rattle.ir_program.specs.Lists.{StandsInBlock, StandsInRegion, StandsInside, in_block, in_region, regions_in}
use Rattle.ir_program.specs.declared.handles.IRNode.TheVariants.{Operation as OperationNode, Region as RegionNode, BasicBlock as BlockNode}
use Rattle.ir_program.specs.declared.handles.Ptr.{Ptr}
use Rattle.ir_program.specs.declared.handles.Operation.{Operation}
use Rattle.ir_program.specs.declared.handles.Region.{Region}
use Rattle.ir_program.specs.declared.handles.BasicBlock.{BasicBlock}
use Rattle.ir_trees.specs.Trees.{Head}
use Rattle.ir_trees.specs.Stands.{by_handle, in_program, ProgramTree, StandsFor}
use Rattle.opt_trees.specs.Occurrences.{Has, occurrences_of, block_occurrences_of}
use Rattle.opt_inside.specs.Occurring.{Found, FoundBlock, IsBelowRoot, IsBlockBelow, IsBlockOccurrence, IsOccurrence, SiteIsFound, IsNestedIn, RegionsTogether}
use Rattle.opt_inside.proofs.Around.{HasLists, around_block, not_root}

pub record Occurs {O B : Type 0} (c : Program O B) (op : Ptr Operation) (t : ProgramTree O B) : Type 0 where
  pub stands : StandsFor c op t
  pub sound : (o : Found O B) → Has o (occurrences_of t) → IsOccurrence c op o
  pub found : (p : Ptr Operation) → IsBelowRoot c op p → (o : Found O B) × Has o (occurrences_of t) × (o.head.name ≡ p)
  pub one : (o p : Found O B) → Has o (occurrences_of t) → Has p (occurrences_of t) → o.head.name ≡ p.head.name → o ≡ p
  pub blocks_sound : (x : FoundBlock O B) → Has x (block_occurrences_of t) → IsBlockOccurrence c op x
  pub blocks_found : (b : Ptr BasicBlock) → IsBlockBelow c op b → (x : FoundBlock O B) × Has x (block_occurrences_of t) × (x.label.name ≡ b)
  pub blocks_one : (x y : FoundBlock O B) → Has x (block_occurrences_of t) → Has y (block_occurrences_of t) → x.label.name ≡ y.label.name → x ≡ y
  pub site : (o : Found O B) → Has o (occurrences_of t) → SiteIsFound c t o
  pub beside : RegionsTogether c t
  pub nested : (x : FoundBlock O B) → Has x (block_occurrences_of t) → IsNestedIn t x.spot

module _ {O B : Type 0} (c : Program O B) (lists : HasLists c) (op : Ptr Operation) where
  -- an operation in a block below the root is below it, and so is a block in the region of one
  pub below_block : (p : Ptr Operation) (b : Ptr BasicBlock) → StandsInBlock c p b → IsBlockBelow c op b → IsBelowRoot c op p
  below_block p b s i = record { inside = in_block p b s i; other = not_root c lists op p b s i }

  pub region_below : (b : Ptr BasicBlock) (r : Ptr Region) → StandsInRegion c b r → IsBlockBelow c op b → StandsInside c (OperationNode op) (RegionNode r)
  region_below b r s i = ⊎_elim (λ (e : OperationNode op ≡ BlockNode b). cc) (λ h. h) (around_block c lists (OperationNode op) b r s i)

  pub beside_below : (b s : Ptr BasicBlock) (r : Ptr Region) → StandsInRegion c b r → StandsInRegion c s r → IsBlockBelow c op b → IsBlockBelow c op s
  beside_below b s r in_r s_in_r i = in_region s r s_in_r (region_below b r in_r i)

  module _ (t : ProgramTree O B) (occurs : Occurs c op t) where
    pub root_name : t.head.name ≡ op
    root_name = ap (λ (h : Head by_handle (in_program O B)). h.name) occurs.stands.head

    -- the block of an operation that is found is the one that it stands in
    pub site_is : (o : Found O B) → Has o (occurrences_of t) → (b : Ptr BasicBlock) → StandsInBlock c o.head.name b → o.site.label.name ≡ b
    site_is o has b s = let i = (occurs.sound o has).in_block in (lists.operations_once o.head.name o.site.label.name b i.index s.index i.here s.here).0

    -- an operation that is found isn't the root
    pub not_the_root : (o : Found O B) → Has o (occurrences_of t) → o.head.name ≢ t.head.name
    not_the_root o has e = (occurs.sound o has).below.other (e ∙ root_name)

    -- the region of a block that is found is the one that it stands in, and has the index in its owner that its spot says
    pub spot_region : (x : FoundBlock O B) (has : Has x (block_occurrences_of t)) (r : Ptr Region) → StandsInRegion c x.label.name r → (occurs.blocks_sound x has).spot.region ≡ r
    spot_region x has r s = let i = (occurs.blocks_sound x has).spot.in_region in (lists.blocks_once x.label.name (occurs.blocks_sound x has).spot.region r i.index s.index i.here s.here).0

    pub spot_owner : (x : FoundBlock O B) (has : Has x (block_occurrences_of t)) (r : Ptr Region) → StandsInRegion c x.label.name r
        → (q : Ptr Operation) (k : ℕ) → slice_get (regions_in c q) k ≡ Some r → (x.spot.owner.name ≡ q) × (x.spot.region ≡ k)
    spot_owner x has r s q k h =
        let p = (occurs.blocks_sound x has).spot in
        lists.regions_once r x.spot.owner.name q x.spot.region k
        (ap (λ o. slice_get (unwrap_or (option_map (λ (v : OperationView O). v.regions) o) []) x.spot.region) p.owner_there ∙ p.index ∙ ap Some (spot_region x has r s))
        h
