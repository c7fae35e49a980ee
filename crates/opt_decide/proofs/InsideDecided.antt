-- What is inside the root before and after decisions are carried out.
use Rattle.std.proofs.Common.{◌≡◌, ⊎_elim, ℕ, List, [], map, Option, Some, None, IsSome, option_map, unwrap_or, slice_get, refl, sym, ap, ◌∙◌, subst}
use Rattle.std.proofs.lemmas.Option.{slice_get-map}
use Rattle.ir_program.specs.Lists.{operations_in, blocks_in, regions_in, StandsInBlock, StandsInRegion, StandsInOperation, StandsInside, itself, in_block, in_region, in_operation}
use Rattle.ir_program.specs.Program.{Program, OperationView, BlockView, RegionView, operation_at, block_at}
use Rattle.ir_program.specs.declared.handles.IRNode.{IRNode}
use Rattle.ir_program.specs.declared.handles.IRNode.TheVariants.{Operation as OperationNode, BasicBlock as BlockNode, Region as RegionNode}
use Rattle.ir_program.specs.declared.handles.Ptr.{Ptr}
use Rattle.ir_program.specs.declared.handles.Operation.{Operation}
use Rattle.ir_program.specs.declared.handles.Region.{Region}
use Rattle.ir_program.specs.declared.handles.BasicBlock.{BasicBlock}
use Rattle.ir_program.specs.Erased.{IsGone}
use Rattle.ir_trees.specs.Searched.{Lists}
use Rattle.ir_trees.specs.Stands.{in_program}
use Rattle.opt_trees.specs.Dialect.{Dialect}
use Rattle.opt_inside.specs.Occurring.{IsBelowRoot}
use Rattle.opt_inside.proofs.Around.{HasLists}
use Rattle.opt_decide.specs.Phase.{HasDecided, BringsNoneInside, BringsNoneOutside}
use Rattle.opt_decide.specs.Planned.{AreDecisions}
use Rattle.opt_decide.specs.Replaced.{along}
use Rattle.opt_decide.specs.declared.plan.Decision.{Decision}
use Rattle.opt_decide.proofs.Carried.{among_or_not}
use Rattle.opt_decide.proofs.DecisionLists.{below_there}
use Rattle.opt_decide.proofs.Folded.{something}
use Rattle.opt_decide.proofs.NamesDecided.{not_none, now_at, IsKept, IsBranched, apart, root_same, free_or_same}

there_if : {X Y : Type 0} (f : X → Y) (o : Option X) → IsSome o → IsSome (option_map f o)
there_if f None h = cc
there_if f (Some x) h = refl

there_by : {X : Type 0} (o : Option X) (x : X) → o ≡ Some x → IsSome o
there_by o x e = subst IsSome (sym e) refl

-- of a mapped list, what stands at an index is made of what stood there
pub made_of : {X Y : Type 0} (f : X → Y) (xs : List X) (k : ℕ) (y : Y) → slice_get (map f xs) k ≡ Some y → (x : X) × (f x ≡ y) × (slice_get xs k ≡ Some x)
made_of {X} f xs k y h = by_item (slice_get xs k) refl (sym (slice_get-map f xs k) ∙ h) where
  by_item : (o : Option X) → slice_get xs k ≡ o → option_map f o ≡ Some y → (x : X) × (f x ≡ y) × (slice_get xs k ≡ Some x)
  by_item None at e = cc
  by_item (Some x) at e = (x, cc, at)

module _ {O B A : Type 0} (d : Dialect (in_program O B) A) (old new : Program O B) (op : Ptr Operation) (ds : List Decision) (are : AreDecisions d old op ds) (has : HasDecided d old new ds) (lists : HasLists old) (root : IsSome (operation_at old op)) where
  pub operations_now : (b : Ptr BasicBlock) → operations_in new b ≡ map has.names (operations_in old b)
  operations_now b = ap (λ o. unwrap_or (option_map (λ (v : BlockView B). v.operations) o) []) (has.blocks b) ∙ of_block (block_at old b)
    where
      of_block : (o : Option (BlockView B)) → unwrap_or (option_map (λ (v : BlockView B). v.operations) (option_map (λ (l : BlockView B). record l { operations = map has.names l.operations }) o)) []
          ≡ map has.names (unwrap_or (option_map (λ (v : BlockView B). v.operations) o) [])
      of_block None = refl
      of_block (Some l) = refl

  blocks_now : (r : Ptr Region) → blocks_in new r ≡ blocks_in old r
  blocks_now r = ap (λ o. unwrap_or (option_map (λ (v : RegionView). v.blocks) o) []) (has.regions r)

  pub live_now : (p : Ptr Operation) → IsSome (operation_at old p) → IsSome (operation_at new (has.names p))
  live_now p live =
      let v = something (operation_at old p) live in
      ⊎_elim
      (λ (k : IsKept d old new op ds are has p v.0). there_by (operation_at new (has.names p)) v.0 k.there)
      (λ (b : IsBranched d old new op ds are has p v.0). there_by (operation_at new (has.names p)) (along d v.0 b.edge b.payload) b.made)
      (now_at d old new op ds are has p v.0 v.1)

  pub regions_same : (p : Ptr Operation) → IsSome (operation_at old p) → regions_in new (has.names p) ≡ regions_in old p
  regions_same p live =
      let v = something (operation_at old p) live in
      let of_view : (c : Program O B) (q : Ptr Operation) (w : OperationView O) → operation_at c q ≡ Some w → regions_in c q ≡ w.regions =
      (λ c q w e. ap (λ o. unwrap_or (option_map (λ (z : OperationView O). z.regions) o) []) e) in
      ⊎_elim
      (λ (k : IsKept d old new op ds are has p v.0). of_view new (has.names p) v.0 k.there ∙ sym (of_view old p v.0 v.1))
      (λ (b : IsBranched d old new op ds are has p v.0). of_view new (has.names p) (along d v.0 b.edge b.payload) b.made ∙ sym (of_view old p v.0 v.1 ∙ b.regions))
      (now_at d old new op ds are has p v.0 v.1)

  pub block_now : (p : Ptr Operation) (b : Ptr BasicBlock) → StandsInBlock old p b → StandsInBlock new (has.names p) b
  block_now p b s = record {
    operation = live_now p s.operation;
    block = subst IsSome (sym (has.blocks b)) (there_if (λ (l : BlockView B). record l { operations = map has.names l.operations }) (block_at old b) s.block);
    index = s.index;
    here = ap (λ xs. slice_get xs s.index) (operations_now b) ∙ slice_get-map has.names (operations_in old b) s.index ∙ ap (option_map has.names) s.here;
  }

  pub region_now : (b : Ptr BasicBlock) (r : Ptr Region) → StandsInRegion old b r → StandsInRegion new b r
  region_now b r s = record {
    block = subst IsSome (sym (has.blocks b)) (there_if (λ (l : BlockView B). record l { operations = map has.names l.operations }) (block_at old b) s.block);
    region = subst IsSome (sym (has.regions r)) s.region;
    index = s.index;
    here = ap (λ xs. slice_get xs s.index) (blocks_now r) ∙ s.here;
  }

  operation_now : (r : Ptr Region) (p : Ptr Operation) → StandsInOperation old r p → StandsInOperation new r (has.names p)
  operation_now r p s = record {
    region = subst IsSome (sym (has.regions r)) s.region;
    operation = live_now p s.operation;
    index = s.index;
    here = ap (λ xs. slice_get xs s.index) (regions_same p s.operation) ∙ s.here;
  }

  abbrev under_name : IRNode → IRNode
  under_name (OperationNode p) = OperationNode (has.names p)
  under_name (BlockNode b) = BlockNode b
  under_name (RegionNode r) = RegionNode r

  -- what was inside is so still, under its name
  pub inside_now : (e : IRNode) → StandsInside old (OperationNode op) e → StandsInside new (OperationNode op) (under_name e)
  inside_now _ itself = subst (λ z. StandsInside new (OperationNode op) (OperationNode z)) (sym (root_same d old new op ds are has)) itself
  inside_now _ (in_block p b s i) = in_block (has.names p) b (block_now p b s) (inside_now (BlockNode b) i)
  inside_now _ (in_region b r s i) = in_region b r (region_now b r s) (inside_now (RegionNode r) i)
  inside_now _ (in_operation r p s i) = in_operation r (has.names p) (operation_now r p s) (inside_now (OperationNode p) i)

  -- an operation of a block was one of it, under the name that it had
  pub block_was : (q : Ptr Operation) (b : Ptr BasicBlock) (k : ℕ) → slice_get (operations_in new b) k ≡ Some q → (p : Ptr Operation) × (has.names p ≡ q) × (slice_get (operations_in old b) k ≡ Some p)
  block_was q b k at = made_of has.names (operations_in old b) k q (ap (λ xs. slice_get xs k) (sym (operations_now b)) ∙ at)

  pub region_was : (b : Ptr BasicBlock) (r : Ptr Region) → StandsInRegion new b r → StandsInRegion old b r
  region_was b r s = lists.blocks r s.index b (ap (λ xs. slice_get xs s.index) (sym (blocks_now r)) ∙ s.here)

  inside_there : (e : IRNode) → StandsInside old (OperationNode op) e → (p : Ptr Operation) → e ≡ OperationNode p → IsSome (operation_at old p)
  inside_there _ itself p e = let same : op ≡ p = cc in subst (λ x. IsSome (operation_at old x)) same root
  inside_there _ (in_block q b s i) p e = let same : q ≡ p = cc in subst (λ x. IsSome (operation_at old x)) same s.operation
  inside_there _ (in_region b r s i) p e = cc
  inside_there _ (in_operation r q s i) p e = cc

  abbrev WasInside : IRNode → Type 0
  WasInside (OperationNode q) = (p : Ptr Operation) × (has.names p ≡ q) × StandsInside old (OperationNode op) (OperationNode p)
  WasInside (BlockNode b) = StandsInside old (OperationNode op) (BlockNode b)
  WasInside (RegionNode r) = StandsInside old (OperationNode op) (RegionNode r)

  -- what is inside was so, under the name that it had
  pub inside_was : (e : IRNode) → StandsInside new (OperationNode op) e → WasInside e
  inside_was _ itself = (op, root_same d old new op ds are has, itself)
  inside_was _ (in_block q b s i) =
      let p = block_was q b s.index s.here in
      (p.0, p.1, in_block p.0 b (lists.operations b s.index p.0 p.2) (inside_was (BlockNode b) i))
  inside_was _ (in_region b r s i) = in_region b r (region_was b r s) (inside_was (RegionNode r) i)
  inside_was _ (in_operation r q s i) =
      let p = inside_was (OperationNode q) i in
      let live = inside_there (OperationNode p.0) p.2 p.0 refl in
      let at : slice_get (regions_in old p.0) s.index ≡ Some r = ap (λ xs. slice_get xs s.index) (sym (regions_same p.0 live)) ∙ ap (λ z. slice_get (regions_in new z) s.index) p.1 ∙ s.here in
      in_operation r p.0 (lists.regions p.0 s.index r at) p.2

  pub none_came : BringsNoneInside old new op
  none_came (OperationNode q) live i =
      let p = inside_was (OperationNode q) i in
      ⊎_elim
      (λ (e : has.names p.0 ≡ p.0). subst (λ z. StandsInside old (OperationNode op) (OperationNode z)) (sym e ∙ p.1) p.2)
      (λ (none : operation_at old (has.names p.0) ≡ None). absurd (not_none (operation_at old q) live (ap (operation_at old) (sym p.1) ∙ none)))
      (free_or_same d old new op ds are has p.0)
  none_came (BlockNode b) live i = inside_was (BlockNode b) i
  none_came (RegionNode r) live i = inside_was (RegionNode r) i

  pub none_outside : BringsNoneOutside old new op
  none_outside p v out there = (
    λ i. ⊎_elim
        (λ (h : (x : Decision) × Lists ds x × (x.op ≡ p)).
        let gone : IsGone new (OperationNode h.0.op) = (has.done h.0 h.1).gone in
        let at : operation_at new h.0.op ≡ Some v = ap (operation_at new) h.2 ∙ there in
        not_none (operation_at new h.0.op) (there_by (operation_at new h.0.op) v at) gone.0)
        (λ none. out (subst (λ z. StandsInside new (OperationNode op) (OperationNode z)) (has.same p none)
        (inside_now (OperationNode p) i)))
        (among_or_not ds p),
    ⊎_elim
        (λ same. same)
        (λ (x : (x : Decision) × Lists ds x × (has.names x.op ≡ p)). absurd (out
        (subst (λ z. StandsInside new (OperationNode op) (OperationNode z)) x.2
        (inside_now (OperationNode x.0.op) (are.below x.0 x.1).inside))))
        (has.came p v there),
  )

  pub below_now : (p : Ptr Operation) → IsBelowRoot old op p → IsBelowRoot new op (has.names p)
  below_now p low = record {
    inside = inside_now (OperationNode p) low.inside;
    other = λ e. low.other (apart d old new op ds are has p op (below_there old op p low) root (e ∙ sym (root_same d old new op ds are has)));
  }

  pub below_was : (q : Ptr Operation) → IsBelowRoot new op q → (p : Ptr Operation) × (has.names p ≡ q) × IsBelowRoot old op p
  below_was q low =
      let p = inside_was (OperationNode q) low.inside in (
        p.0,
        p.1,
        record { inside = p.2; other = λ e. low.other (sym p.1 ∙ ap has.names e ∙ root_same d old new op ds are has) },
      )
