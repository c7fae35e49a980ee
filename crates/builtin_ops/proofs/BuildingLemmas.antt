-- An operation is made together with a block in it, or taken back.
use Rattle.std.proofs.Common.{◌≡◌, ◌≢◌, ℕ, zero, suc, ◌+◌, List, [], ◌∷◌, ◌++◌, Option, Some, None, IsSome, option_map, unwrap_or, length, slice_get, ⊎_elim, ◌⊎◌, refl, sym, ap, ◌∙◌, subst, arith}
use Rattle.ir_arena.specs.Arena.{IsSpent}
use Rattle.ir_base.specs.declared.types.TypeHandle.{TypeHandle}
use Rattle.ir_program.specs.Program.{Program, OperationView, BlockView, RegionView, operation_at, block_at, region_at, results_at, type_at, IsLiveValue}
use Rattle.ir_program.specs.Lists.{operations_in, regions_in, StandsInBlock, StandsInside, IsUnlinkedOperation, IsUnlinkedBlock}
use Rattle.ir_program.specs.Rows.{operands_at}
use Rattle.ir_program.specs.Uses.{IsUsed}
use Rattle.ir_program.specs.Adds.{numbered_values}
use Rattle.ir_program.specs.Definers.{StandsAtDefiner, values_at}
use Rattle.ir_program.specs.Edits.{IsUnchanged, KeepsErased, KeepsValues, EditsRegion}
use Rattle.ir_program.specs.Erased.{IsApart, ErasesOperation}
use Rattle.ir_program.specs.ListEdits.{PutsBlockLast}
use Rattle.ir_program.specs.Made.{BuildsOperation, BuildsBlock, HasBareRegions, TakesBackOperation, IsNoneOf}
use Rattle.ir_program.specs.declared.handles.Ptr.{Ptr}
use Rattle.ir_program.specs.declared.handles.Operation.{Operation}
use Rattle.ir_program.specs.declared.handles.BasicBlock.{BasicBlock}
use Rattle.ir_program.specs.declared.handles.Region.{Region}
use Rattle.ir_program.specs.declared.handles.Value.{Value}
use Rattle.ir_program.specs.declared.handles.DefiningEntity.{DefiningEntity}
use Rattle.ir_program.specs.declared.handles.DefiningEntity.TheVariants.{Op as ByOp, Block as ByBlock}
use Rattle.ir_program.specs.declared.handles.IRNode.TheVariants.{Operation as OperationNode, Region as RegionNode, BasicBlock as BlockNode}
use Rattle.ir_program.proofs.defined.KeptTypes.{types-kept}
use Rattle.ir_program.proofs.made.BuildSteps.{takes-used}
use Rattle.ir_program.proofs.made.Frames.{same_or_not}
use Rattle.ir_program.proofs.made.TakeBacks.{block_alone, operation-apart, operation-taken_back, no-result}
use Rattle.builtin_ops.specs.Built.{BuildsWithBlock, AreUnspent}

-- a list of one member
single : {X : Type 0} → (xs : List X) → length xs ≡ 1 → (x : X) × (xs ≡ x ∷ [])
single [] e = absurd (omega arith)
single (x ∷ []) e = (x, refl)
single (x ∷ y ∷ ys) e = absurd (omega arith)

module _ {O B : Type 0} (c : Program O B) where
  -- no region stands in a block without operations
  pub no_region_inside : (b : Ptr BasicBlock) → operations_in c b ≡ [] → (r : Ptr Region) → StandsInside c (BlockNode b) (RegionNode r) → ⊥
  no_region_inside b empty r stands = let h : RegionNode r ≡ BlockNode b = block_alone c b empty (RegionNode r) stands in cc

  -- an operation without results defines no value
  defines_none : (p : Ptr Operation) → results_at c p ≡ [] → ((v : Value) (ty : TypeHandle) → type_at c v ≡ Some ty → StandsAtDefiner c v ty)
      → (v : Value) → v.definer ≡ ByOp p → (o : Option TypeHandle) → type_at c v ≡ o → IsSome o → ⊥
  defines_none p none stands v is None e live = cc
  defines_none p none stands v is (Some ty) e live =
      let at = stands v ty e in
      let here : slice_get (results_at c p) at.index ≡ Some (record { value = v; ty = ty }) = subst (λ d. slice_get (values_at c d) at.index ≡ Some (record { value = v; ty = ty })) is at.stands in
      let gone : slice_get (results_at c p) at.index ≡ None = ap (λ l. slice_get l at.index) none in
      cc

  -- so it may be erased
  may_go : (p : Ptr Operation) → HasBareRegions c p → results_at c p ≡ [] → ((v : Value) (ty : TypeHandle) → type_at c v ≡ Some ty → StandsAtDefiner c v ty)
      → ((v : Value) → IsUsed c v → IsLiveValue c v) → IsApart c (OperationNode p)
  may_go p bare none stands used = operation-apart c p bare
      (λ q k v ne takes is. defines_none p none stands v is (type_at c v) refl (used v (takes-used c q k v takes)))

-- the same, where a program that is the same one tells what holds of values
pub may_go_by : {O B : Type 0} (q c : Program O B) → q ≡ c → (p : Ptr Operation) → HasBareRegions c p → results_at c p ≡ [] → ((v : Value) (ty : TypeHandle) → type_at q v ≡ Some ty → StandsAtDefiner q v ty)
    → ((v : Value) → IsUsed q v → IsLiveValue q v) → IsApart c (OperationNode p)
may_go_by {O} {B} q c e p bare none stands used = may_go c p bare none
    (subst (λ (x : Program O B). (v : Value) (ty : TypeHandle) → type_at x v ≡ Some ty → StandsAtDefiner x v ty) e stands)
    (subst (λ (x : Program O B). (v : Value) → IsUsed x v → IsLiveValue x v) e used)

-- what is erased so is taken back
pub taken_back : {O B : Type 0} (a b : Program O B) (p : Ptr Operation) → IsSome (operation_at a p) → IsUnlinkedOperation a p → HasBareRegions a p → ErasesOperation a b p → TakesBackOperation a b p a.counter
taken_back a b p there unlinked bare erases = subst (λ n. TakesBackOperation a b p n) erases.counter (operation-taken_back a b b.counter p there unlinked bare erases)

module _ {O B : Type 0} (a b c : Program O B) where
  erased_then : KeepsErased a b → KeepsErased b c → KeepsErased a c
  erased_then f s = record {
    operations = λ q h. s.operations q (f.operations q h);
    blocks = λ q h. s.blocks q (f.blocks q h);
    regions = λ q h. s.regions q (f.regions q h);
  }

-- old, with the operation, with its block too
module _ {O B : Type 0} (old mid : Program O B) (p : Ptr Operation) (payload : O) (builds : BuildsOperation old mid p payload [] [] [] 1) where
  one : (r : Ptr Region) × (builds.handles ≡ r ∷ [])
  one = single builds.handles builds.count

  now : operation_at mid p ≡ Some (record { payload = payload; results = []; operands = []; successors = []; regions = one.0 ∷ [] })
  now = builds.made ∙ ap (λ (rs : List (Ptr Region)). Some (record { payload = payload; results = []; operands = []; successors = []; regions = rs })) one.1

  at_first : slice_get builds.handles 0 ≡ Some one.0
  at_first = ap (λ l. slice_get l 0) one.1

  -- after a block could not be made
  module _ (far : Program O B) (same : IsUnchanged mid far) where
    still : operation_at far p ≡ Some (record { payload = payload; results = []; operands = []; successors = []; regions = one.0 ∷ [] })
    still = same.operations p ∙ now

    pub still_there : IsSome (operation_at far p)
    still_there = subst IsSome (sym still) refl

    pub still_unlinked : IsUnlinkedOperation far p
    still_unlinked block s = builds.unlinked block (record {
      operation = subst IsSome (sym now) refl;
      block = subst IsSome (same.blocks block) s.block;
      index = s.index;
      here = sym (ap (λ x. slice_get (unwrap_or (option_map (λ (v : BlockView B). v.operations) x) []) s.index) (same.blocks block)) ∙ s.here;
    })

    region_is : (k : ℕ) (r : Ptr Region) → slice_get (one.0 ∷ []) k ≡ Some r → one.0 ≡ r
    region_is zero r h = cc
    region_is (suc k) r h = cc

    regions_are : regions_in far p ≡ one.0 ∷ []
    regions_are = ap (λ x. unwrap_or (option_map (λ (o : OperationView O). o.regions) x) []) still

    pub still_bare : HasBareRegions far p
    still_bare k r h = same.regions r ∙ builds.regions.made 0 r (at_first ∙ ap Some (region_is k r (ap (λ l. slice_get l k) (sym regions_are) ∙ h)))

    pub still_no_results : results_at far p ≡ []
    still_no_results = ap (λ x. unwrap_or (option_map (λ (o : OperationView O). o.results) x) []) still

    -- the operation is taken back
    pub undone : (new : Program O B) → TakesBackOperation far new p far.counter → IsUnchanged old new
    undone new takes = record {
      operations = λ q. ⊎_elim (λ (is : q ≡ p). subst (λ x. operation_at new x ≡ operation_at old x) (sym is) (takes.gone ∙ sym builds.fresh)) (λ ne. takes.others q ne ∙ same.operations q ∙ builds.others q ne) (same_or_not q p);
      blocks = λ q. takes.blocks q ∙ same.blocks q ∙ builds.blocks q;
      regions = λ q. ⊎_elim
          (λ (is : q ≡ one.0). takes.gone_regions 0 q (ap (λ l. slice_get l 0) regions_are ∙ ap Some (sym is)) ∙ sym (builds.regions.fresh 0 q (at_first ∙ ap Some (sym is))))
          (λ ne. takes.regions q (λ k h. ne (sym (region_is k q (ap (λ l. slice_get l k) (sym regions_are) ∙ h)))) ∙ same.regions q ∙ builds.regions.others q (λ k h. ne (sym (region_is k q (ap (λ l. slice_get l k) (sym one.1) ∙ h)))))
          (same_or_not q one.0);
      erased = erased_then old far new (erased_then old mid far builds.erased same.erased) takes.erased;
      counter = takes.counter ∙ same.counter ∙ builds.counter ∙ omega arith;
    }

  -- with the block
  module _ (far : Program O B) (b : Ptr BasicBlock) (block_payload : B) (tys : List TypeHandle) (block_builds : BuildsBlock mid far b block_payload tys) where
    far_now : operation_at far p ≡ Some (record { payload = payload; results = []; operands = []; successors = []; regions = one.0 ∷ [] })
    far_now = block_builds.operations p ∙ now

    pub far_there : IsSome (operation_at far p)
    far_there = subst IsSome (sym far_now) refl

    far_regions : regions_in far p ≡ one.0 ∷ []
    far_regions = ap (λ x. unwrap_or (option_map (λ (o : OperationView O). o.regions) x) []) far_now

    pub far_one : length (regions_in far p) ≡ 1
    far_one = ap length far_regions

    pub block_there : IsSome (block_at far b)
    block_there = subst IsSome (sym block_builds.made) refl

    pub block_empty : operations_in far b ≡ []
    block_empty = ap (λ x. unwrap_or (option_map (λ (v : BlockView B). v.operations) x) []) block_builds.made

    -- and with the block in the region
    pub built : (new : Program O B) → ((region : Ptr Region) → regions_in far p ≡ region ∷ [] → PutsBlockLast far new region b) → KeepsValues far new → BuildsWithBlock old new p payload block_payload tys
    built new puts keeps = record {
      region = one.0;
      block = b;
      fresh = record {
        operation = builds.fresh;
        region = builds.regions.fresh 0 one.0 at_first;
        block = sym (builds.blocks b) ∙ block_builds.fresh;
        operation_key = builds.unspent;
        region_key = builds.regions.unspent 0 one.0 at_first;
        block_key = λ s. block_builds.unspent (builds.erased.blocks b.key s);
      };
      made = edit.operations p ∙ far_now;
      region_made = edit.edited ∙ ap (option_map (λ (v : RegionView). record v { blocks = v.blocks ++ b ∷ [] })) (block_builds.regions one.0 ∙ builds.regions.made 0 one.0 at_first);
      block_made = edit.blocks b ∙ block_builds.made ∙ ap (λ n. Some (record { payload = block_payload; arguments = numbered_values (ByBlock b) n tys; operations = [] })) counted;
      unlinked = new_unlinked;
      operations = λ q ne. edit.operations q ∙ block_builds.operations q ∙ builds.others q ne;
      regions = λ q ne. edit.others q ne ∙ block_builds.regions q ∙ builds.regions.others q (λ k h. ne (sym (is_first k q (ap (λ l. slice_get l k) (sym one.1) ∙ h))));
      blocks = λ q ne. edit.blocks q ∙ block_builds.others q ne ∙ builds.blocks q;
      types = λ v ne. keeps.types v ∙ block_builds.types v ne ∙ types_mid v;
      erased = erased_then old far new (erased_then old mid far builds.erased block_builds.erased) edit.erased;
      counter = keeps.counter ∙ block_builds.counter ∙ ap (λ n. n + length tys) counted;
    }
      where
        edit : EditsRegion far new one.0 (λ v. record v { blocks = v.blocks ++ b ∷ [] })
        edit = puts one.0 far_regions

        counted : mid.counter ≡ old.counter
        counted = builds.counter ∙ omega arith

        is_first : (k : ℕ) (r : Ptr Region) → slice_get (one.0 ∷ []) k ≡ Some r → one.0 ≡ r
        is_first zero r h = cc
        is_first (suc k) r h = cc

        types_mid : (v : Value) → type_at mid v ≡ type_at old v
        types_mid = types-kept old mid kept
          where
            kept : (e : DefiningEntity) → values_at mid e ≡ values_at old e
            kept (ByOp q) = ⊎_elim
                (λ (is : q ≡ p). subst (λ x. results_at mid x ≡ results_at old x) (sym is)
                (ap (λ x. unwrap_or (option_map (λ (o : OperationView O). o.results) x) []) now ∙ sym (ap (λ x. unwrap_or (option_map (λ (o : OperationView O). o.results) x) []) builds.fresh)))
                (λ ne. ap (λ x. unwrap_or (option_map (λ (o : OperationView O). o.results) x) []) (builds.others q ne))
                (same_or_not q p)
            kept (ByBlock q) = ap (λ x. unwrap_or (option_map (λ (w : BlockView B). w.arguments) x) []) (builds.blocks q)

        new_unlinked : IsUnlinkedOperation new p
        new_unlinked block s = ⊎_elim
            (λ (is : block ≡ b).
            let here : slice_get (operations_in new b) s.index ≡ Some p = subst (λ x. slice_get (operations_in new x) s.index ≡ Some p) is s.here in
            let gone : slice_get (operations_in new b) s.index ≡ None = ap (λ x. slice_get (unwrap_or (option_map (λ (v : BlockView B). v.operations) x) []) s.index) (edit.blocks b ∙ block_builds.made) in
            cc)
            (λ ne. let was : block_at new block ≡ block_at mid block = edit.blocks block ∙ block_builds.others block ne in
            builds.unlinked block (record {
              operation = subst IsSome (sym now) refl;
              block = subst IsSome was s.block;
              index = s.index;
              here = sym (ap (λ x. slice_get (unwrap_or (option_map (λ (v : BlockView B). v.operations) x) []) s.index) was) ∙ s.here;
            }))
            (same_or_not block b)
