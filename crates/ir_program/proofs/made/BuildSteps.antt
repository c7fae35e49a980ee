-- An operation or a block that is being made: what it has come to, and that nothing else changed.
use Rattle.std.proofs.Common.{◌≡◌, ◌≢◌, ℕ, ◌<◌, ◌+◌, ⊎_elim, List, [], ◌++◌, length, Option, Some, None, IsSome, option_map, unwrap_or, slice_get, take, Result, Ok, Err, OnOk, OnErr, refl, sym, ap, ◌∙◌, subst}
use Rattle.ir_base.specs.declared.types.TypeHandle.{TypeHandle}
use Rattle.ir_program.specs.Program.{Program, OperationView, BlockView, operation_at, results_at, type_at, IsLiveValue}
use Rattle.ir_program.specs.Rows.{operands_at}
use Rattle.ir_program.specs.Uses.{IsUsed}
use Rattle.ir_program.specs.Lists.{regions_in, IsUnlinkedOperation}
use Rattle.ir_program.specs.Edits.{EditsOperation, IsUnchanged}
use Rattle.ir_program.specs.Definers.{values_at}
use Rattle.ir_program.specs.Adds.{SomeCame, numbered_values, AreLiveValues, AreLiveBlocks, AddsResults, AddsOperands, AddsSuccessors}
use Rattle.ir_program.specs.Made.{MakesBareOperation, MakesRegions, AddsRegions, AddsRegionCount, AddsFewerRegions, FillsOperation, FillsSome, HasBareRegions, BuildsOperation, TakesBackOperation}
use Rattle.ir_program.specs.declared.handles.Ptr.{Ptr}
use Rattle.ir_program.specs.declared.handles.Operation.{Operation}
use Rattle.ir_program.specs.declared.handles.BasicBlock.{BasicBlock}
use Rattle.ir_program.specs.declared.handles.Region.{Region}
use Rattle.ir_program.specs.declared.handles.Value.{Value}
use Rattle.ir_program.specs.declared.handles.DefiningEntity.{DefiningEntity}
use Rattle.ir_program.specs.declared.handles.DefiningEntity.TheVariants.{Op as ByOp, Block as ByBlock}
use Rattle.ir_program.proofs.made.Frames.{same_or_not}
use Rattle.ir_program.proofs.defined.KeptTypes.{types-kept}
use Rattle.ir_program.proofs.made.AddSteps.{map-then, erased-then, edit-then, operands-none, successors-none, results-none}
use Rattle.ir_program.proofs.made.RegionSteps.{one_or_none}
use Rattle.ir_program.proofs.made.TakeBacks.{no-result}

module _ {O B : Type 0} where
  -- regions, operands, successors and results, added in turn, fill an operation
  pub filled : (a r b c d : Program O B) (p : Ptr Operation) (tys : List TypeHandle) (vs : List Value) (bs : List (Ptr BasicBlock)) (rs : List (Ptr Region))
      → AddsRegions a r p rs → AddsOperands r b p vs → AddsSuccessors b c p bs → AddsResults c d p tys → FillsOperation a d p tys vs bs rs
  filled a r b c d p tys vs bs rs regions operands successors results = record {
    edited = whole.edited ∙ ap (option_map _) regions.holder ∙ map-then _ _ _ (λ (o : OperationView O). refl) (operation_at a p);
    others = λ q ne. whole.others q ne ∙ regions.operations q ne;
    blocks = λ q. whole.blocks q ∙ regions.blocks q;
    regions = record {
      fresh = regions.regions.fresh;
      unspent = regions.regions.unspent;
      distinct = regions.regions.distinct;
      made = λ k q h. whole.regions q ∙ regions.regions.made k q h;
      others = λ q none. whole.regions q ∙ regions.regions.others q none;
    };
    types = λ v ne. results.others v ne ∙ successors.types v ∙ operands.types v ∙ regions.types v;
    erased = erased-then a r d regions.erased whole.erased;
    counter = results.counter ∙ ap (λ (n : ℕ). n + length tys) counter;
  }
    where
      counter : c.counter ≡ a.counter
      counter = successors.counter ∙ operands.counter ∙ regions.counter

      whole : EditsOperation r d p (λ (o : OperationView O). record o { results = o.results ++ numbered_values (ByOp p) a.counter tys; operands = o.operands ++ vs; successors = o.successors ++ bs })
      whole = edit-then r c d p _ _ _ (λ o. ap (λ (n : ℕ). record o { results = o.results ++ numbered_values (ByOp p) n tys; operands = o.operands ++ vs; successors = o.successors ++ bs }) counter)
          (edit-then r b c p _ _ (λ (o : OperationView O). record o { operands = o.operands ++ vs; successors = o.successors ++ bs }) (λ o. refl) operands.edited successors.edited) results.edited

  pub all-filled : {T E : Type 0} (x : Result T E) (a r b c d : Program O B) (p : Ptr Operation) (tys : List TypeHandle) (vs : List Value) (bs : List (Ptr BasicBlock)) (n : ℕ)
      → AddsRegionCount a r p n → AddsOperands r b p vs → AddsSuccessors b c p bs → OnOk x (AddsResults c d p tys) → OnOk x ((rs : List (Ptr Region)) × (length rs ≡ n) × FillsOperation a d p tys vs bs rs)
  all-filled (Ok t) a r b c d p tys vs bs n regions operands successors results = (regions.0, regions.1, filled a r b c d p tys vs bs regions.0 regions.2 operands successors results)
  all-filled (Err e) a r b c d p tys vs bs n regions operands successors results = tt

  -- what came before an error fills an operation too
  pub regions-came : {T E : Type 0} (x : Result T E) (a r : Program O B) (p : Ptr Operation) (n : ℕ) → AddsFewerRegions a r p n → OnErr x (FillsSome a r p)
  regions-came (Ok t) a r p n came = tt
  regions-came (Err e) a r p n came = ([], [], [], came.0, filled a r r r r p [] [] [] came.0 came.2 (operands-none r p) (successors-none r p) (results-none r p))

  pub operands-came : {T E : Type 0} (x : Result T E) (a r b : Program O B) (p : Ptr Operation) (rs : List (Ptr Region)) (vs : List Value) → AddsRegions a r p rs → SomeCame vs (AddsOperands r b p) → OnErr x (FillsSome a b p)
  operands-came (Ok t) a r b p rs vs regions came = tt
  operands-came (Err e) a r b p rs vs regions came = ([], take came.0 vs, [], rs, filled a r b b b p [] (take came.0 vs) [] rs regions came.2 (successors-none b p) (results-none b p))

  pub successors-came : {T E : Type 0} (x : Result T E) (a r b c : Program O B) (p : Ptr Operation) (rs : List (Ptr Region)) (vs : List Value) (bs : List (Ptr BasicBlock)) → AddsRegions a r p rs → AddsOperands r b p vs → SomeCame bs (AddsSuccessors b c p) → OnErr x (FillsSome a c p)
  successors-came (Ok t) a r b c p rs vs bs regions operands came = tt
  successors-came (Err e) a r b c p rs vs bs regions operands came = ([], vs, take came.0 bs, rs, filled a r b c c p [] vs (take came.0 bs) rs regions operands came.2 (results-none c p))

  pub results-came : {T E : Type 0} (x : Result T E) (a r b c d : Program O B) (p : Ptr Operation) (rs : List (Ptr Region)) (tys : List TypeHandle) (vs : List Value) (bs : List (Ptr BasicBlock))
      → AddsRegions a r p rs → AddsOperands r b p vs → AddsSuccessors b c p bs → OnErr x (SomeCame tys (AddsResults c d p)) → OnErr x (FillsSome a d p)
  results-came (Ok t) a r b c d p rs tys vs bs regions operands successors came = tt
  results-came (Err e) a r b c d p rs tys vs bs regions operands successors came = (take came.0 tys, vs, bs, rs, filled a r b c d p (take came.0 tys) vs bs rs regions operands successors came.2)

  -- what an operation takes is used
  pub takes-used : (c : Program O B) (p : Ptr Operation) (k : ℕ) (v : Value) → slice_get (operands_at c p) k ≡ Some v → IsUsed c v
  takes-used c p k v takes = by (operation_at c p) refl
    where
      by : (x : Option (OperationView O)) → operation_at c p ≡ x → IsUsed c v
      by None none = let e : slice_get (operands_at c p) k ≡ None = ap (λ y. slice_get (unwrap_or (option_map (λ (o : OperationView O). o.operands) y) []) k) none in cc
      by (Some o) some = (p, o, some, k, sym (ap (λ y. slice_get (unwrap_or (option_map (λ (z : OperationView O). z.operands) y) []) k) some) ∙ takes)

  module _ (a b : Program O B) (p : Ptr Operation) (payload : O) (makes : MakesBareOperation a b p payload) where
    pub made-types : (v : Value) → type_at b v ≡ type_at a v
    made-types = types-kept a b kept
      where
        kept : (e : DefiningEntity) → values_at b e ≡ values_at a e
        kept (ByBlock q) = ap (λ x. unwrap_or (option_map (λ (y : BlockView B). y.arguments) x) []) (makes.blocks q)
        kept (ByOp q) = ⊎_elim
            (λ (e : q ≡ p). subst (λ x. results_at b x ≡ results_at a x) (sym e) (ap (λ x. unwrap_or (option_map (λ (o : OperationView O). o.results) x) []) makes.made ∙ sym (ap (λ x. unwrap_or (option_map (λ (o : OperationView O). o.results) x) []) makes.fresh)))
            (λ ne. ap (λ x. unwrap_or (option_map (λ (o : OperationView O). o.results) x) []) (makes.others q ne))
            (same_or_not q p)

    pub made-there : IsSome (operation_at b p)
    made-there = subst IsSome (sym makes.made) refl

    pub made-values : (vs : List Value) → AreLiveValues a vs → AreLiveValues b vs
    made-values vs live k v h = subst IsSome (sym (made-types v)) (live k v h)

    pub made-blocks : (bs : List (Ptr BasicBlock)) → AreLiveBlocks a bs → AreLiveBlocks b bs
    made-blocks bs live k x h = subst IsSome (sym (makes.blocks x)) (live k x h)

    module _ (d : Program O B) (tys : List TypeHandle) (vs : List Value) (bs : List (Ptr BasicBlock)) (rs : List (Ptr Region)) (fills : FillsOperation b d p tys vs bs rs) where
      now : operation_at d p ≡ Some (record { payload = payload; results = numbered_values (ByOp p) b.counter tys; operands = vs; successors = bs; regions = rs })
      now = fills.edited ∙ ap (option_map (λ (o : OperationView O). record o { results = o.results ++ numbered_values (ByOp p) b.counter tys; operands = o.operands ++ vs; successors = o.successors ++ bs; regions = o.regions ++ rs })) makes.made

      regions_are : regions_in d p ≡ rs
      regions_are = ap (λ x. unwrap_or (option_map (λ (o : OperationView O). o.regions) x) []) now

      pub filled-there : IsSome (operation_at d p)
      filled-there = subst IsSome (sym now) refl

      pub filled-bare : HasBareRegions d p
      filled-bare k r h = fills.regions.made k r (ap (λ l. slice_get l k) (sym regions_are) ∙ h)

      pub filled-unlinked : IsUnlinkedOperation b p → IsUnlinkedOperation d p
      filled-unlinked unlinked block s = unlinked block (record {
        operation = made-there;
        block = subst IsSome (fills.blocks block) s.block;
        index = s.index;
        here = sym (ap (λ x. slice_get (unwrap_or (option_map (λ (v : BlockView B). v.operations) x) []) s.index) (fills.blocks block)) ∙ s.here;
      })

      pub filled-types : (v : Value) → v.definer ≢ ByOp p → type_at d v ≡ type_at a v
      filled-types v ne = fills.types v ne ∙ made-types v

      pub filled-unused : ((v : Value) → IsUsed a v → IsLiveValue a v) → (q : Ptr Operation) (k : ℕ) (v : Value) → q ≢ p → slice_get (operands_at d q) k ≡ Some v → v.definer ≢ ByOp p
      filled-unused used q k v ne takes is =
          let was : operands_at d q ≡ operands_at a q = ap (λ x. unwrap_or (option_map (λ (o : OperationView O). o.operands) x) []) (fills.others q ne ∙ makes.others q ne) in
          let live : IsSome (type_at a v) = used v (takes-used a q k v (sym (ap (λ l. slice_get l k) was) ∙ takes)) in
          let none : type_at a v ≡ None = no-result a p makes.fresh v is in
          cc

      pub filled-numbers : ((v : Value) → IsLiveValue a v → v.number < a.counter) → (v : Value) → v.definer ≢ ByOp p → IsLiveValue d v → v.number < a.counter
      filled-numbers given v ne live = given v (subst IsSome (filled-types v ne) live)

      new_regions : MakesRegions a d rs
      new_regions = record {
        fresh = λ k r h. sym (makes.regions r) ∙ fills.regions.fresh k r h;
        unspent = λ k r h s. fills.regions.unspent k r h (makes.erased.regions r.key s);
        distinct = fills.regions.distinct;
        made = fills.regions.made;
        others = λ q none. fills.regions.others q none ∙ makes.regions q;
      }

      pub built : (n : ℕ) → length rs ≡ n → IsUnlinkedOperation b p → BuildsOperation a d p payload tys vs bs n
      built n count unlinked = record {
        handles = rs;
        count = count;
        regions = new_regions;
        fresh = makes.fresh;
        unspent = makes.unspent;
        made = now ∙ ap (λ (m : ℕ). Some (record { payload = payload; results = numbered_values (ByOp p) m tys; operands = vs; successors = bs; regions = rs })) makes.counter;
        unlinked = filled-unlinked unlinked;
        others = λ q ne. fills.others q ne ∙ makes.others q ne;
        blocks = λ q. fills.blocks q ∙ makes.blocks q;
        types = filled-types;
        erased = erased-then a b d makes.erased fills.erased;
        counter = fills.counter ∙ ap (λ (m : ℕ). m + length tys) makes.counter;
      }

      pub undone : (e : Program O B) → TakesBackOperation d e p a.counter → IsUnchanged a e
      undone e takes = record {
        operations = λ q. ⊎_elim (λ (is : q ≡ p). subst (λ x. operation_at e x ≡ operation_at a x) (sym is) (takes.gone ∙ sym makes.fresh)) (λ ne. takes.others q ne ∙ fills.others q ne ∙ makes.others q ne) (same_or_not q p);
        blocks = λ q. takes.blocks q ∙ fills.blocks q ∙ makes.blocks q;
        regions = λ q. ⊎_elim
            (λ at. takes.gone_regions at.0 q (ap (λ l. slice_get l at.0) regions_are ∙ at.1) ∙ sym (new_regions.fresh at.0 q at.1))
            (λ none. takes.regions q (λ k h. none k (ap (λ l. slice_get l k) (sym regions_are) ∙ h)) ∙ new_regions.others q none)
            (one_or_none rs q);
        erased = erased-then a d e (erased-then a b d makes.erased fills.erased) takes.erased;
        counter = takes.counter;
      }
