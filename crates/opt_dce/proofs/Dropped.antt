-- What the steps leave in place, and taking uses away from several operations one after the other.
use Rattle.std.proofs.Common.{◌≡◌, ◌⊎◌, inl, inr, ⊎_elim, ℕ, ◌+◌, take, Bool, true, false, List, [], Option, Some, None, IsSome, is_some, option_map, unwrap_or, slice_get, refl, sym, ap, ◌∙◌, subst}
use Rattle.ir_program.specs.Drops.{without_uses, DropsUses}
use Rattle.ir_program.specs.Program.{Program, OperationView, BlockView, RegionView, operation_at, block_at, region_at}
use Rattle.ir_program.specs.Lists.{operations_in, blocks_in, regions_in, StandsInside, itself, in_block, in_region, in_operation, IsLiveNode}
use Rattle.ir_program.specs.declared.handles.IRNode.{IRNode}
use Rattle.ir_program.specs.declared.handles.IRNode.TheVariants.{Operation as OperationNode, Region as RegionNode, BasicBlock as BlockNode}
use Rattle.ir_program.specs.declared.handles.Ptr.{Ptr}
use Rattle.ir_program.specs.declared.handles.Operation.{Operation}
use Rattle.ir_program.specs.declared.handles.Region.{Region}
use Rattle.ir_program.specs.declared.handles.BasicBlock.{BasicBlock}
use Rattle.ir_trees.specs.ListRewrites.{is_among}
use Rattle.ir_trees.proofs.Members.{at_has}
use Rattle.opt_handles.proofs.Handles.{erased_none, erased_twice}
use Rattle.opt_dce.specs.Steps.{IsWithinPicked, DropsPicked, DecidesInside}
use Rattle.opt_dce.proofs.Among.{and_also, also_it, also_picked, it_or_picked, among_more, has_among}

-- all that was there is there, and stands where it stood
pub record KeepsPlaces {O B : Type 0} (old new : Program O B) : Type 0 where
  pub operation : (p : Ptr Operation) → is_some (operation_at new p) ≡ is_some (operation_at old p)
  pub block : (b : Ptr BasicBlock) → is_some (block_at new b) ≡ is_some (block_at old b)
  pub region : (r : Ptr Region) → is_some (region_at new r) ≡ is_some (region_at old r)
  pub operations : (b : Ptr BasicBlock) → operations_in new b ≡ operations_in old b
  pub blocks : (r : Ptr Region) → blocks_in new r ≡ blocks_in old r
  pub regions : (p : Ptr Operation) → regions_in new p ≡ regions_in old p

-- an operation without uses is there if it was, with its regions
bare_there : {O : Type 0} (o : Option (OperationView O)) → is_some (option_map without_uses o) ≡ is_some o
bare_there None = refl
bare_there (Some v) = refl

bare_regions : {O : Type 0} (o : Option (OperationView O)) → unwrap_or (option_map (λ (v : OperationView O). v.regions) (option_map without_uses o)) [] ≡ unwrap_or (option_map (λ (v : OperationView O). v.regions) o) []
bare_regions None = refl
bare_regions (Some v) = refl

bare_twice : {O : Type 0} (o : Option (OperationView O)) → option_map without_uses (option_map without_uses o) ≡ option_map without_uses o
bare_twice None = refl
bare_twice (Some v) = refl

module _ {O B : Type 0} where
  pub kept_back : (old new : Program O B) → KeepsPlaces old new → KeepsPlaces new old
  kept_back old new k = record {
    operation = λ p. sym (k.operation p);
    block = λ b. sym (k.block b);
    region = λ r. sym (k.region r);
    operations = λ b. sym (k.operations b);
    blocks = λ r. sym (k.blocks r);
    regions = λ p. sym (k.regions p);
  }

  pub inside_kept : (old new : Program O B) → KeepsPlaces old new → (x e : IRNode) → StandsInside old x e → StandsInside new x e
  inside_kept old new k x _ itself = itself
  inside_kept old new k x _ (in_block p b s i) = in_block p b
      (record { operation = k.operation p ∙ s.operation; block = k.block b ∙ s.block; index = s.index; here = ap (λ ps. slice_get ps s.index) (k.operations b) ∙ s.here })
      (inside_kept old new k x (BlockNode b) i)
  inside_kept old new k x _ (in_region b r s i) = in_region b r
      (record { block = k.block b ∙ s.block; region = k.region r ∙ s.region; index = s.index; here = ap (λ ps. slice_get ps s.index) (k.blocks r) ∙ s.here })
      (inside_kept old new k x (RegionNode r) i)
  inside_kept old new k x _ (in_operation r p s i) = in_operation r p
      (record { region = k.region r ∙ s.region; operation = k.operation p ∙ s.operation; index = s.index; here = ap (λ ps. slice_get ps s.index) (k.regions p) ∙ s.here })
      (inside_kept old new k x (OperationNode p) i)

  pub within_kept : (old new : Program O B) → KeepsPlaces old new → (picks : Ptr Operation → Bool) (e : IRNode) → IsWithinPicked old picks e → IsWithinPicked new picks e
  within_kept old new k picks e h = (h.0, h.1, inside_kept old new k (OperationNode h.0) e h.2)

  pub drops_kept : (old new : Program O B) (picks : Ptr Operation → Bool) → DropsPicked old new picks → KeepsPlaces old new
  drops_kept old new picks drops = record {
    operation = λ p. ⊎_elim (λ e. ap is_some e) (λ e. ap is_some e ∙ bare_there (operation_at old p)) (drops.either p);
    block = λ b. ap is_some (drops.blocks b);
    region = λ r. ap is_some (drops.regions r);
    operations = λ b. ap (λ o. unwrap_or (option_map (λ (v : BlockView B). v.operations) o) []) (drops.blocks b);
    blocks = λ r. ap (λ o. unwrap_or (option_map (λ (v : RegionView). v.blocks) o) []) (drops.regions r);
    regions = λ p. ⊎_elim
        (λ e. ap (λ o. unwrap_or (option_map (λ (v : OperationView O). v.regions) o) []) e)
        (λ e. ap (λ o. unwrap_or (option_map (λ (v : OperationView O). v.regions) o) []) e ∙ bare_regions (operation_at old p))
        (drops.either p);
  }

  pub none_dropped : (c : Program O B) → DropsPicked c c (λ p. false)
  none_dropped c = record {
    within = λ p h. let f : false ≡ true = h.1 in cc;
    outside = λ p out. refl;
    either = λ p. inl refl;
    blocks = λ b. refl;
    regions = λ r. refl;
    erased = erased_none c;
  }

  -- one operation more
  module _ (old mid new : Program O B) (picks : Ptr Operation → Bool) (a : Ptr Operation) (done : DropsPicked old mid picks) (decides : DecidesInside mid a) (drops : DropsUses mid new (OperationNode a)) where
    kept : KeepsPlaces old mid
    kept = drops_kept old mid picks done

    -- what one operation is now
    now : (p : Ptr Operation) → (operation_at new p ≡ operation_at mid p) ⊎ (operation_at new p ≡ option_map without_uses (operation_at mid p))
    now p = ⊎_elim (λ i. inr (drops.inside p i)) (λ out. inl (drops.outside p out)) (decides (OperationNode p))

    bare : (p : Ptr Operation) → operation_at mid p ≡ option_map without_uses (operation_at old p) → operation_at new p ≡ option_map without_uses (operation_at old p)
    bare p e = ⊎_elim (λ s. s ∙ e) (λ s. s ∙ ap (option_map without_uses) e ∙ bare_twice (operation_at old p)) (now p)

    bare_now : (p : Ptr Operation) → operation_at new p ≡ option_map without_uses (operation_at mid p) → operation_at new p ≡ option_map without_uses (operation_at old p)
    bare_now p s = ⊎_elim (λ e. s ∙ ap (option_map without_uses) e) (λ e. bare p e) (done.either p)

    pub one_dropped : DropsPicked old new (and_also a picks)
    one_dropped = record {
      within = λ p h. ⊎_elim
          (λ (e : h.0 ≡ a). bare_now p (drops.inside p (inside_kept old mid kept (OperationNode a) (OperationNode p) (subst (λ q. StandsInside old (OperationNode q) (OperationNode p)) e h.2))))
          (λ t. bare p (done.within p (h.0, t, h.2)))
          (it_or_picked a picks h.0 h.1);
      outside = λ p out.
          drops.outside p (λ i. out (a, also_it a picks, inside_kept mid old (kept_back old mid kept) (OperationNode a) (OperationNode p) i))
          ∙ done.outside p (λ h. out (h.0, also_picked a picks h.0 h.1, h.2));
      either = λ p. ⊎_elim
          (λ (s : operation_at new p ≡ operation_at mid p). ⊎_elim (λ e. inl (s ∙ e)) (λ e. inr (s ∙ e)) (done.either p))
          (λ s. inr (bare_now p s))
          (now p);
      blocks = λ b. drops.blocks b ∙ done.blocks b;
      regions = λ r. drops.regions r ∙ done.regions r;
      erased = erased_twice old mid new done.erased drops.erased;
    }

  -- one turn of the loop over the list of those whose uses are taken away
  module _ (old mid : Program O B) (ops : List (Ptr Operation)) (i : ℕ) (a : Ptr Operation) (here : slice_get ops i ≡ Some a) (done : DropsPicked old mid (is_among (take i ops))) where
    pub live_now : ((p : Ptr Operation) → is_among ops p ≡ true → IsLiveNode old (OperationNode p)) → IsSome (operation_at mid a)
    live_now there = (drops_kept old mid (is_among (take i ops)) done).operation a ∙ there a (has_among ops a (at_has ops i a here))

    pub dropped_next : (new : Program O B) → DecidesInside mid a → DropsUses mid new (OperationNode a) → DropsPicked old new (is_among (take (i + 1) ops))
    dropped_next new decides drops = subst (DropsPicked old new) (among_more ops i a here) (one_dropped old mid new (is_among (take i ops)) a done decides drops)
