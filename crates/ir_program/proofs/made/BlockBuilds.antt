-- A block that is being made: what it has come to, and that nothing else changed.
use Rattle.std.proofs.Common.{◌≡◌, ◌≢◌, ℕ, ◌<◌, ◌+◌, ⊎_elim, List, [], ◌++◌, length, Some, None, IsSome, option_map, unwrap_or, slice_get, refl, sym, ap, ◌∙◌, subst}
use Rattle.ir_base.specs.declared.types.TypeHandle.{TypeHandle}
use Rattle.ir_program.specs.Program.{Program, OperationView, BlockView, RegionView, block_at, arguments_at, type_at, IsLiveValue}
use Rattle.ir_program.specs.Rows.{operands_at, successors_at}
use Rattle.ir_program.specs.Uses.{IsUsed}
use Rattle.ir_program.specs.Lists.{operations_in, IsUnlinkedBlock}
use Rattle.ir_program.specs.Edits.{IsUnchanged}
use Rattle.ir_program.specs.Definers.{values_at}
use Rattle.ir_program.specs.Adds.{numbered_values, AddsArguments}
use Rattle.ir_program.specs.Made.{MakesBareBlock, BuildsBlock, TakesBackBlock}
use Rattle.ir_program.specs.declared.handles.Ptr.{Ptr}
use Rattle.ir_program.specs.declared.handles.Operation.{Operation}
use Rattle.ir_program.specs.declared.handles.BasicBlock.{BasicBlock}
use Rattle.ir_program.specs.declared.handles.Value.{Value}
use Rattle.ir_program.specs.declared.handles.DefiningEntity.{DefiningEntity}
use Rattle.ir_program.specs.declared.handles.DefiningEntity.TheVariants.{Op as ByOp, Block as ByBlock}
use Rattle.ir_program.proofs.made.Frames.{same_or_not}
use Rattle.ir_program.proofs.defined.KeptTypes.{types-kept}
use Rattle.ir_program.proofs.made.AddSteps.{erased-then}
use Rattle.ir_program.proofs.made.TakeBacks.{no-argument}
use Rattle.ir_program.proofs.made.BuildSteps.{takes-used}

module _ {O B : Type 0} (a b : Program O B) (p : Ptr BasicBlock) (payload : B) (makes : MakesBareBlock a b p payload) where
  pub made_block-types : (v : Value) → type_at b v ≡ type_at a v
  made_block-types = types-kept a b kept
    where
      kept : (e : DefiningEntity) → values_at b e ≡ values_at a e
      kept (ByOp q) = ap (λ x. unwrap_or (option_map (λ (o : OperationView O). o.results) x) []) (makes.operations q)
      kept (ByBlock q) = ⊎_elim
          (λ (e : q ≡ p). subst (λ x. arguments_at b x ≡ arguments_at a x) (sym e) (ap (λ x. unwrap_or (option_map (λ (y : BlockView B). y.arguments) x) []) makes.made ∙ sym (ap (λ x. unwrap_or (option_map (λ (y : BlockView B). y.arguments) x) []) makes.fresh)))
          (λ ne. ap (λ x. unwrap_or (option_map (λ (y : BlockView B). y.arguments) x) []) (makes.others q ne))
          (same_or_not q p)

  pub made_block-there : IsSome (block_at b p)
  made_block-there = subst IsSome (sym makes.made) refl

  module _ (d : Program O B) (tys : List TypeHandle) (adds : AddsArguments b d p tys) where
    now : block_at d p ≡ Some (record { payload = payload; arguments = numbered_values (ByBlock p) b.counter tys; operations = [] })
    now = adds.edited.edited ∙ ap (option_map (λ (o : BlockView B). record o { arguments = o.arguments ++ numbered_values (ByBlock p) b.counter tys })) makes.made

    pub given-there : IsSome (block_at d p)
    given-there = subst IsSome (sym now) refl

    pub given-bare : operations_in d p ≡ []
    given-bare = ap (λ x. unwrap_or (option_map (λ (o : BlockView B). o.operations) x) []) now

    pub given-unlinked : IsUnlinkedBlock b p → IsUnlinkedBlock d p
    given-unlinked unlinked region s = unlinked region (record {
      block = made_block-there;
      region = subst IsSome (adds.edited.regions region) s.region;
      index = s.index;
      here = sym (ap (λ x. slice_get (unwrap_or (option_map (λ (v : RegionView). v.blocks) x) []) s.index) (adds.edited.regions region)) ∙ s.here;
    })

    pub given-types : (v : Value) → v.definer ≢ ByBlock p → type_at d v ≡ type_at a v
    given-types v ne = adds.others v ne ∙ made_block-types v

    pub given-unused : ((v : Value) → IsUsed a v → IsLiveValue a v) → (q : Ptr Operation) (k : ℕ) (v : Value) → slice_get (operands_at d q) k ≡ Some v → v.definer ≢ ByBlock p
    given-unused used q k v takes is =
        let was : operands_at d q ≡ operands_at a q = ap (λ x. unwrap_or (option_map (λ (o : OperationView O). o.operands) x) []) (adds.edited.operations q ∙ makes.operations q) in
        let live : IsSome (type_at a v) = used v (takes-used a q k v (sym (ap (λ l. slice_get l k) was) ∙ takes)) in
        let none : type_at a v ≡ None = no-argument a p makes.fresh v is in
        cc

    pub given-untargeted : ((q : Ptr Operation) (k : ℕ) (x : Ptr BasicBlock) → slice_get (successors_at a q) k ≡ Some x → IsSome (block_at a x)) → (q : Ptr Operation) (k : ℕ) → slice_get (successors_at d q) k ≢ Some p
    given-untargeted known q k goes =
        let was : successors_at d q ≡ successors_at a q = ap (λ x. unwrap_or (option_map (λ (o : OperationView O). o.successors) x) []) (adds.edited.operations q ∙ makes.operations q) in
        let live : IsSome (block_at a p) = known q k p (sym (ap (λ l. slice_get l k) was) ∙ goes) in
        let none : block_at a p ≡ None = makes.fresh in
        cc

    pub given-numbers : ((v : Value) → IsLiveValue a v → v.number < a.counter) → (v : Value) → v.definer ≢ ByBlock p → IsLiveValue d v → v.number < a.counter
    given-numbers given v ne live = given v (subst IsSome (given-types v ne) live)

    pub block-built : IsUnlinkedBlock b p → BuildsBlock a d p payload tys
    block-built unlinked = record {
      fresh = makes.fresh;
      unspent = makes.unspent;
      made = now ∙ ap (λ (n : ℕ). Some (record { payload = payload; arguments = numbered_values (ByBlock p) n tys; operations = [] })) makes.counter;
      unlinked = given-unlinked unlinked;
      others = λ q ne. adds.edited.others q ne ∙ makes.others q ne;
      operations = λ q. adds.edited.operations q ∙ makes.operations q;
      regions = λ q. adds.edited.regions q ∙ makes.regions q;
      types = given-types;
      erased = erased-then a b d makes.erased adds.edited.erased;
      counter = adds.counter ∙ ap (λ (n : ℕ). n + length tys) makes.counter;
    }

    pub block-undone : (e : Program O B) → TakesBackBlock d e p a.counter → IsUnchanged a e
    block-undone e takes = record {
      blocks = λ q. ⊎_elim (λ (is : q ≡ p). subst (λ x. block_at e x ≡ block_at a x) (sym is) (takes.gone ∙ sym makes.fresh)) (λ ne. takes.others q ne ∙ adds.edited.others q ne ∙ makes.others q ne) (same_or_not q p);
      operations = λ q. takes.operations q ∙ adds.edited.operations q ∙ makes.operations q;
      regions = λ q. takes.regions q ∙ adds.edited.regions q ∙ makes.regions q;
      erased = erased-then a d e (erased-then a b d makes.erased adds.edited.erased) takes.erased;
      counter = takes.counter;
    }
