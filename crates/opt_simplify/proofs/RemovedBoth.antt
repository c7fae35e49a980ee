-- Taking uses away, and then erasing.
use Rattle.std.proofs.Common.{◌≡◌, ⊎_elim, ℕ, Bool, true, [], Option, Some, None, option_map, unwrap_or, slice_get, ap, ◌∙◌, subst}
use Rattle.std.proofs.lemmas.Option.{none-some}
use Rattle.ir_program.specs.Drops.{without_uses}
use Rattle.ir_program.specs.Erased.{definer_node}
use Rattle.ir_program.specs.Lists.{IsLiveNode}
use Rattle.ir_program.specs.Program.{Program, OperationView, RegionView, operation_at}
use Rattle.ir_program.specs.Rows.{operands_at, successors_at}
use Rattle.ir_program.specs.declared.handles.IRNode.{IRNode}
use Rattle.ir_program.specs.declared.handles.IRNode.TheVariants.{Operation as OperationNode, Region as RegionNode, BasicBlock as BlockNode}
use Rattle.ir_program.specs.declared.handles.Ptr.{Ptr}
use Rattle.ir_program.specs.declared.handles.BasicBlock.{BasicBlock}
use Rattle.ir_program.specs.declared.handles.Value.{Value}
use Rattle.opt_handles.proofs.Handles.{erased_twice}
use Rattle.opt_simplify.specs.Removed.{without, IsWithinPickedBlocks, ArePickedApart, DropsPickedBlocks, ErasesPickedBlocks, NamesNoneOfBlocks, NamesWithin}
use Rattle.opt_simplify.proofs.RemovedDropped.{KeepsPlaces, drops_kept, kept_back, inside_kept, within_kept}

module _ {O B : Type 0} (old mid : Program O B) (picks : Ptr BasicBlock → Bool) (drops : DropsPickedBlocks old mid picks) where
  kept : KeepsPlaces old mid
  kept = drops_kept old mid picks drops

  pub live_kept : (e : IRNode) → IsLiveNode old e → IsLiveNode mid e
  live_kept (OperationNode p) live = kept.operation p ∙ live
  live_kept (BlockNode b) live = kept.block b ∙ live
  live_kept (RegionNode r) live = kept.region r ∙ live

  was_within : (e : IRNode) → IsWithinPickedBlocks mid picks e → IsWithinPickedBlocks old picks e
  was_within e h = within_kept mid old (kept_back old mid kept) picks e h

  pub still_apart : ArePickedApart old picks → ArePickedApart mid picks
  still_apart apart a b pa pb i = apart a b pa pb (inside_kept mid old (kept_back old mid kept) (BlockNode a) (BlockNode b) i)

  no_operand : (o : Option (OperationView O)) (k : ℕ) (v : Value) → slice_get (unwrap_or (option_map (λ (x : OperationView O). x.operands) (option_map without_uses o)) []) k ≡ Some v → ⊥
  no_operand None k v h = none-some v h
  no_operand (Some x) k v h = none-some v h

  no_successor : (o : Option (OperationView O)) (k : ℕ) (b : Ptr BasicBlock) → slice_get (unwrap_or (option_map (λ (x : OperationView O). x.successors) (option_map without_uses o)) []) k ≡ Some b → ⊥
  no_successor None k b h = none-some b h
  no_successor (Some x) k b h = none-some b h

  pub none_named : NamesWithin old picks → NamesNoneOfBlocks mid picks
  none_named named = record {
    values = λ p k v h w. ⊎_elim
        (λ (e : operation_at mid p ≡ operation_at old p).
        let was : slice_get (operands_at old p) k ≡ Some v = subst (λ o. slice_get (unwrap_or (option_map (λ (x : OperationView O). x.operands) o) []) k ≡ Some v) e h in
        no_operand (operation_at old p) k v (subst (λ o. slice_get (unwrap_or (option_map (λ (x : OperationView O). x.operands) o) []) k ≡ Some v) (drops.within p (named.values p k v was (was_within (definer_node v.definer) w))) h))
        (λ (e : operation_at mid p ≡ option_map without_uses (operation_at old p)). no_operand (operation_at old p) k v (subst (λ o. slice_get (unwrap_or (option_map (λ (x : OperationView O). x.operands) o) []) k ≡ Some v) e h))
        (drops.either p);
    blocks = λ p k b h w. ⊎_elim
        (λ (e : operation_at mid p ≡ operation_at old p).
        let was : slice_get (successors_at old p) k ≡ Some b = subst (λ o. slice_get (unwrap_or (option_map (λ (x : OperationView O). x.successors) o) []) k ≡ Some b) e h in
        no_successor (operation_at old p) k b (subst (λ o. slice_get (unwrap_or (option_map (λ (x : OperationView O). x.successors) o) []) k ≡ Some b) (drops.within p (named.blocks p k b was (was_within (BlockNode b) w))) h))
        (λ (e : operation_at mid p ≡ option_map without_uses (operation_at old p)). no_successor (operation_at old p) k b (subst (λ o. slice_get (unwrap_or (option_map (λ (x : OperationView O). x.successors) o) []) k ≡ Some b) e h))
        (drops.either p);
  }

  pub both_erase : ((b : Ptr BasicBlock) → picks b ≡ true → IsLiveNode old (BlockNode b)) → (new : Program O B) → ErasesPickedBlocks mid new picks → ErasesPickedBlocks old new picks
  both_erase there new erases = record {
    there = there;
    decided = λ e live. erases.decided e (live_kept e live);
    operations = λ p out. erases.operations p (λ h. out (was_within (OperationNode p) h)) ∙ drops.outside p out;
    blocks = λ b out. erases.blocks b (λ h. out (was_within (BlockNode b) h)) ∙ drops.blocks b;
    regions = λ r out. erases.regions r (λ h. out (was_within (RegionNode r) h)) ∙ ap (option_map (λ (v : RegionView). record v { blocks = without picks v.blocks })) (drops.regions r);
    gone = λ e live h. erases.gone e (live_kept e live) (within_kept old mid kept picks e h);
    erased = erased_twice old mid new drops.erased erases.erased;
  }
