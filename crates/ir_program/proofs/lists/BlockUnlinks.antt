-- A block that is taken out of its region, and erased.
use Rattle.std.proofs.Common.{◌≡◌, ℕ, ⊎_elim, [], Some, IsSome, option_map, unwrap_or, slice_get, remove, sym, ap, ◌∙◌, subst}
use Rattle.ir_program.specs.Program.{Program, OperationView, BlockView, RegionView, region_at, type_at}
use Rattle.ir_program.specs.Edits.{EditsRegion}
use Rattle.ir_program.specs.Listed.{AreListed}
use Rattle.ir_program.specs.Lists.{blocks_in, StandsInRegion, StandsInside, itself, in_block, in_region, in_operation, IsLiveNode, IsUnlinkedBlock}
use Rattle.ir_program.specs.Erased.{IsApart, Erases, ErasesBlock, definer_node}
use Rattle.ir_program.specs.declared.handles.Ptr.{Ptr}
use Rattle.ir_program.specs.declared.handles.Region.{Region}
use Rattle.ir_program.specs.declared.handles.BasicBlock.{BasicBlock}
use Rattle.ir_program.specs.declared.handles.Value.{Value}
use Rattle.ir_program.specs.declared.handles.IRNode.{IRNode}
use Rattle.ir_program.specs.declared.handles.IRNode.TheVariants.{Operation as OperationNode, Region as RegionNode, BasicBlock as BlockNode}
use Rattle.ir_program.proofs.made.Frames.{same_or_not}
use Rattle.ir_program.proofs.lists.InRegions.{in_regions, stands_in_region}
use Rattle.ir_program.proofs.lists.Inside.{block_not_around}
use Rattle.ir_program.proofs.lists.Slotted.{map_of_some}

module _ {O B : Type 0} (old mid : Program O B) (block : Ptr BasicBlock) (b : Ptr Region) (k : ℕ) (listed : AreListed old) (here : slice_get (blocks_in old b) k ≡ Some block)
    (edits : EditsRegion old mid b (λ (v : RegionView). record v { blocks = remove v.blocks k })) where
  stands : StandsInRegion old block b
  stands = stands_in_region old (in_regions old listed) b k block here

  live_region : (q : Ptr Region) → IsSome (region_at old q) → IsSome (region_at mid q)
  live_region q h = ⊎_elim
      (λ (e : q ≡ b). subst (λ z. IsSome (region_at mid z)) (sym e) (subst IsSome (sym edits.edited) (map_of_some _ (region_at old b) (subst (λ z. IsSome (region_at old z)) e h))))
      (λ ne. subst IsSome (sym (edits.others q ne)) h)
      (same_or_not q b)

  pub live_still : (e : IRNode) → IsLiveNode old e → IsLiveNode mid e
  live_still (OperationNode p) h = subst IsSome (sym (edits.operations p)) h
  live_still (BlockNode q) h = subst IsSome (sym (edits.blocks q)) h
  live_still (RegionNode r) h = live_region r h

  -- what stands inside the block does so still
  pub inside_still : (e : IRNode) → StandsInside old (BlockNode block) e → StandsInside mid (BlockNode block) e
  inside_still e itself = itself
  inside_still e (in_block p q s w) = in_block p q
      (record {
        operation = subst IsSome (sym (edits.operations p)) s.operation;
        block = subst IsSome (sym (edits.blocks q)) s.block;
        index = s.index;
        here = ap (λ x. slice_get (unwrap_or (option_map (λ (v : BlockView B). v.operations) x) []) s.index) (edits.blocks q) ∙ s.here;
      })
      (inside_still (BlockNode q) w)
  inside_still e (in_region q r s w) = in_region q r
      (record {
        block = subst IsSome (sym (edits.blocks q)) s.block;
        region = live_region r s.region;
        index = s.index;
        here = ap (λ x. slice_get (unwrap_or (option_map (λ (v : RegionView). v.blocks) x) []) s.index) (edits.others r (λ e. block_not_around old listed block b stands (subst (λ z. StandsInside old (BlockNode block) (RegionNode z)) e w))) ∙ s.here;
      })
      (inside_still (RegionNode r) w)
  inside_still e (in_operation r p s w) = in_operation r p
      (record {
        region = live_region r s.region;
        operation = subst IsSome (sym (edits.operations p)) s.operation;
        index = s.index;
        here = ap (λ x. slice_get (unwrap_or (option_map (λ (v : OperationView O). v.regions) x) []) s.index) (edits.operations p) ∙ s.here;
      })
      (inside_still (OperationNode p) w)

  module _ (fewer : (outer inner : IRNode) → StandsInside mid outer inner → StandsInside old outer inner) where
    pub apart_still : IsApart old (BlockNode block) → IsApart mid (BlockNode block)
    apart_still apart = record {
      values = λ p i v takes w. inside_still (OperationNode p) (apart.values p i v (ap (λ x. slice_get (unwrap_or (option_map (λ (o : OperationView O). o.operands) x) []) i) (sym (edits.operations p)) ∙ takes) (fewer (BlockNode block) (definer_node v.definer) w));
      blocks = λ p i q goes w. inside_still (OperationNode p) (apart.blocks p i q (ap (λ x. slice_get (unwrap_or (option_map (λ (o : OperationView O). o.successors) x) []) i) (sym (edits.operations p)) ∙ goes) (fewer (BlockNode block) (BlockNode q) w));
    }

    pub unlinked_erased : (new : Program O B) → ((q : Ptr Region) (j : ℕ) → slice_get (blocks_in old q) j ≡ Some block → EditsRegion old mid q (λ (v : RegionView). record v { blocks = remove v.blocks j }))
        → ((v : Value) → type_at mid v ≡ type_at old v) → mid.counter ≡ old.counter → Erases mid new (BlockNode block) → ErasesBlock old new block
    unlinked_erased new edited types counter erases = record {
      gone = λ e live w. erases.gone e (live_still e live) (inside_still e w);
      operations = λ q out. erases.operations q (λ w. out (fewer (BlockNode block) (OperationNode q) w)) ∙ edits.operations q;
      blocks = λ q out. erases.blocks q (λ w. out (fewer (BlockNode block) (BlockNode q) w)) ∙ edits.blocks q;
      holder = λ q j h. erases.regions q (λ w. block_not_around old listed block q (stands_in_region old (in_regions old listed) q j block h) (fewer (BlockNode block) (RegionNode q) w)) ∙ (edited q j h).edited;
      regions = λ q out free. erases.regions q (λ w. out (fewer (BlockNode block) (RegionNode q) w)) ∙ edits.others q (λ e. free (subst (StandsInRegion old block) (sym e) stands));
      types = λ v out. erases.types v (λ w. out (fewer (BlockNode block) (definer_node v.definer) w)) ∙ types v;
      erased = record {
        operations = λ x s. erases.erased.operations x (edits.erased.operations x s);
        blocks = λ x s. erases.erased.blocks x (edits.erased.blocks x s);
        regions = λ x s. erases.erased.regions x (edits.erased.regions x s);
      };
      counter = erases.counter ∙ counter;
    }

-- one that stands in no region
pub free_erased : {O B : Type 0} (old new : Program O B) (block : Ptr BasicBlock) → AreListed old → IsUnlinkedBlock old block → Erases old new (BlockNode block) → ErasesBlock old new block
free_erased old new block listed free erases = record {
  gone = erases.gone;
  operations = erases.operations;
  blocks = erases.blocks;
  holder = λ q j h. absurd (free q (stands_in_region old (in_regions old listed) q j block h));
  regions = λ q out none. erases.regions q out;
  types = erases.types;
  erased = erases.erased;
  counter = erases.counter;
}
