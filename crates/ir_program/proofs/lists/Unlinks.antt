-- An operation that is taken out of its block, and erased.
use Rattle.std.proofs.Common.{◌≡◌, ℕ, ⊎_elim, [], Some, IsSome, option_map, unwrap_or, slice_get, remove, sym, ap, ◌∙◌, subst}
use Rattle.ir_program.specs.Program.{Program, OperationView, BlockView, RegionView, block_at, type_at}
use Rattle.ir_program.specs.Edits.{EditsBlock}
use Rattle.ir_program.specs.Listed.{AreListed}
use Rattle.ir_program.specs.Lists.{operations_in, StandsInBlock, StandsInside, itself, in_block, in_region, in_operation, IsLiveNode, IsUnlinkedOperation}
use Rattle.ir_program.specs.Erased.{IsApart, Erases, ErasesOperation, definer_node}
use Rattle.ir_program.specs.declared.handles.Ptr.{Ptr}
use Rattle.ir_program.specs.declared.handles.Operation.{Operation}
use Rattle.ir_program.specs.declared.handles.BasicBlock.{BasicBlock}
use Rattle.ir_program.specs.declared.handles.Value.{Value}
use Rattle.ir_program.specs.declared.handles.IRNode.{IRNode}
use Rattle.ir_program.specs.declared.handles.IRNode.TheVariants.{Operation as OperationNode, Region as RegionNode, BasicBlock as BlockNode}
use Rattle.ir_program.proofs.made.Frames.{same_or_not}
use Rattle.ir_program.proofs.lists.InBlocks.{in_blocks, stands_in_block}
use Rattle.ir_program.proofs.lists.Inside.{operation_not_around}
use Rattle.ir_program.proofs.lists.Slotted.{map_of_some}

module _ {O B : Type 0} (old mid : Program O B) (op : Ptr Operation) (b : Ptr BasicBlock) (k : ℕ) (listed : AreListed old) (here : slice_get (operations_in old b) k ≡ Some op)
    (edits : EditsBlock old mid b (λ (v : BlockView B). record v { operations = remove v.operations k })) where
  stands : StandsInBlock old op b
  stands = stands_in_block old (in_blocks old listed) b k op here

  live_block : (q : Ptr BasicBlock) → IsSome (block_at old q) → IsSome (block_at mid q)
  live_block q h = ⊎_elim
      (λ (e : q ≡ b). subst (λ z. IsSome (block_at mid z)) (sym e) (subst IsSome (sym edits.edited) (map_of_some _ (block_at old b) (subst (λ z. IsSome (block_at old z)) e h))))
      (λ ne. subst IsSome (sym (edits.others q ne)) h)
      (same_or_not q b)

  pub live_still : (e : IRNode) → IsLiveNode old e → IsLiveNode mid e
  live_still (OperationNode p) h = subst IsSome (sym (edits.operations p)) h
  live_still (BlockNode q) h = live_block q h
  live_still (RegionNode r) h = subst IsSome (sym (edits.regions r)) h

  -- what stands inside the operation does so still
  pub inside_still : (e : IRNode) → StandsInside old (OperationNode op) e → StandsInside mid (OperationNode op) e
  inside_still e itself = itself
  inside_still e (in_block p q s w) = in_block p q
      (record {
        operation = subst IsSome (sym (edits.operations p)) s.operation;
        block = live_block q s.block;
        index = s.index;
        here = ap (λ x. slice_get (unwrap_or (option_map (λ (v : BlockView B). v.operations) x) []) s.index) (edits.others q (λ e. operation_not_around old listed op b stands (subst (λ z. StandsInside old (OperationNode op) (BlockNode z)) e w))) ∙ s.here;
      })
      (inside_still (BlockNode q) w)
  inside_still e (in_region q r s w) = in_region q r
      (record {
        block = live_block q s.block;
        region = subst IsSome (sym (edits.regions r)) s.region;
        index = s.index;
        here = ap (λ x. slice_get (unwrap_or (option_map (λ (v : RegionView). v.blocks) x) []) s.index) (edits.regions r) ∙ s.here;
      })
      (inside_still (RegionNode r) w)
  inside_still e (in_operation r p s w) = in_operation r p
      (record {
        region = subst IsSome (sym (edits.regions r)) s.region;
        operation = subst IsSome (sym (edits.operations p)) s.operation;
        index = s.index;
        here = ap (λ x. slice_get (unwrap_or (option_map (λ (v : OperationView O). v.regions) x) []) s.index) (edits.operations p) ∙ s.here;
      })
      (inside_still (OperationNode p) w)

  module _ (fewer : (outer inner : IRNode) → StandsInside mid outer inner → StandsInside old outer inner) where
    pub apart_still : IsApart old (OperationNode op) → IsApart mid (OperationNode op)
    apart_still apart = record {
      values = λ p i v takes w. inside_still (OperationNode p) (apart.values p i v (ap (λ x. slice_get (unwrap_or (option_map (λ (o : OperationView O). o.operands) x) []) i) (sym (edits.operations p)) ∙ takes) (fewer (OperationNode op) (definer_node v.definer) w));
      blocks = λ p i q goes w. inside_still (OperationNode p) (apart.blocks p i q (ap (λ x. slice_get (unwrap_or (option_map (λ (o : OperationView O). o.successors) x) []) i) (sym (edits.operations p)) ∙ goes) (fewer (OperationNode op) (BlockNode q) w));
    }

    pub unlinked_erased : (new : Program O B) → ((q : Ptr BasicBlock) (j : ℕ) → slice_get (operations_in old q) j ≡ Some op → EditsBlock old mid q (λ (v : BlockView B). record v { operations = remove v.operations j }))
        → ((v : Value) → type_at mid v ≡ type_at old v) → mid.counter ≡ old.counter → Erases mid new (OperationNode op) → ErasesOperation old new op
    unlinked_erased new edited types counter erases = record {
      gone = λ e live w. erases.gone e (live_still e live) (inside_still e w);
      operations = λ q out. erases.operations q (λ w. out (fewer (OperationNode op) (OperationNode q) w)) ∙ edits.operations q;
      holder = λ q j h. erases.blocks q (λ w. operation_not_around old listed op q (stands_in_block old (in_blocks old listed) q j op h) (fewer (OperationNode op) (BlockNode q) w)) ∙ (edited q j h).edited;
      blocks = λ q out free. erases.blocks q (λ w. out (fewer (OperationNode op) (BlockNode q) w)) ∙ edits.others q (λ e. free (subst (StandsInBlock old op) (sym e) stands));
      regions = λ r out. erases.regions r (λ w. out (fewer (OperationNode op) (RegionNode r) w)) ∙ edits.regions r;
      types = λ v out. erases.types v (λ w. out (fewer (OperationNode op) (definer_node v.definer) w)) ∙ types v;
      erased = record {
        operations = λ x s. erases.erased.operations x (edits.erased.operations x s);
        blocks = λ x s. erases.erased.blocks x (edits.erased.blocks x s);
        regions = λ x s. erases.erased.regions x (edits.erased.regions x s);
      };
      counter = erases.counter ∙ counter;
    }

-- one that stands in no block
pub free_erased : {O B : Type 0} (old new : Program O B) (op : Ptr Operation) → AreListed old → IsUnlinkedOperation old op → Erases old new (OperationNode op) → ErasesOperation old new op
free_erased old new op listed free erases = record {
  gone = erases.gone;
  operations = erases.operations;
  holder = λ q j h. absurd (free q (stands_in_block old (in_blocks old listed) q j op h));
  blocks = λ q out none. erases.blocks q out;
  regions = erases.regions;
  types = erases.types;
  erased = erases.erased;
  counter = erases.counter;
}
