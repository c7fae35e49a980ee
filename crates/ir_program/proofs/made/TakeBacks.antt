-- An operation whose regions have no block, or a block with no operation, is taken back.
use Rattle.std.proofs.Common.{◌≡◌, ◌≢◌, ℕ, ◌<◌, ⊎_elim, ◌⊎◌, inl, inr, [], Option, Some, None, IsSome, option_map, unwrap_or, slice_get, refl, sym, ap, ◌∙◌, subst}
use Rattle.ir_arena.specs.Arena.{get}
use Rattle.ir_program.specs.Program.{Program, RegionView, operation_at, region_at, operation_of, block_at, block_of, definitions_of, numbered, type_at, IsLiveValue}
use Rattle.ir_program.specs.Sound.{IsProgram}
use Rattle.ir_program.specs.Rows.{operands_at, successors_at}
use Rattle.ir_program.specs.Lists.{blocks_in, operations_in, StandsInOperation, StandsInside, itself, in_block, in_region, in_operation, IsUnlinkedOperation, IsUnlinkedBlock}
use Rattle.ir_program.specs.Erased.{IsApart, ErasesOperation, ErasesBlock, definer_node}
use Rattle.ir_program.specs.Made.{HasBareRegions, TakesBackOperation, TakesBackBlock}
use Rattle.ir_program.specs.declared.handles.Ptr.{Ptr}
use Rattle.ir_program.specs.declared.handles.Operation.{Operation}
use Rattle.ir_program.specs.declared.handles.BasicBlock.{BasicBlock}
use Rattle.ir_program.specs.declared.handles.Region.{Region}
use Rattle.ir_program.specs.declared.handles.Value.{Value}
use Rattle.ir_program.specs.declared.handles.DefiningEntity.{DefiningEntity}
use Rattle.ir_program.specs.declared.handles.DefiningEntity.TheVariants.{Op as ByOp, Block as ByBlock}
use Rattle.ir_program.specs.declared.handles.IRNode.{IRNode}
use Rattle.ir_program.specs.declared.handles.IRNode.TheVariants.{Operation as OperationNode, Region as RegionNode, BasicBlock as BlockNode}
use Rattle.ir_program.specs.declared.records.Definition.{Definition}
use Rattle.ir_program.specs.declared.records.OperationRecord.{OperationRecord}
use Rattle.ir_program.specs.declared.records.BlockRecord.{BlockRecord}
use Rattle.ir_program.proofs.made.Frames.{same_or_not}
use Rattle.ir_program.proofs.defined.Numbers.{stands-found}

definer_or_not : (e d : DefiningEntity) → (e ≡ d) ⊎ (e ≢ d)
definer_or_not (ByOp p) (ByOp q) = ⊎_elim (λ s. inl (ap ByOp s)) (λ n. inr (λ e. n (cc))) (same_or_not p q)
definer_or_not (ByBlock p) (ByBlock q) = ⊎_elim (λ s. inl (ap ByBlock s)) (λ n. inr (λ e. n (cc))) (same_or_not p q)
definer_or_not (ByOp p) (ByBlock q) = inr (λ e. cc)
definer_or_not (ByBlock p) (ByOp q) = inr (λ e. cc)

block_definer : (e : DefiningEntity) (p : Ptr BasicBlock) → definer_node e ≡ BlockNode p → e ≡ ByBlock p
block_definer (ByBlock q) p e = let is : q ≡ p = cc in ap ByBlock is
block_definer (ByOp q) p e = cc

-- one of the regions of an operation
pub record IsRegionOf {O B : Type 0} (c : Program O B) (p : Ptr Operation) (e : IRNode) : Type 0 where
  pub region : Ptr Region
  pub is : e ≡ RegionNode region
  pub stands : StandsInOperation c region p

module _ {O B : Type 0} (c : Program O B) where
  -- nothing else stands in an operation whose regions have no block
  pub operation_shallow : (p : Ptr Operation) → HasBareRegions c p → (e : IRNode) → StandsInside c (OperationNode p) e → (e ≡ OperationNode p) ⊎ IsRegionOf c p e
  operation_shallow p bare e itself = inl refl
  operation_shallow p bare e (in_block q b s w) = ⊎_elim
      (λ (h : BlockNode b ≡ OperationNode p). cc)
      (λ (h : IsRegionOf c p (BlockNode b)). let is : BlockNode b ≡ RegionNode h.region = h.is in cc)
      (operation_shallow p bare (BlockNode b) w)
  operation_shallow p bare e (in_region b r s w) = ⊎_elim
      (λ (h : RegionNode r ≡ OperationNode p). cc)
      (λ (h : IsRegionOf c p (RegionNode r)).
      let is : RegionNode r ≡ RegionNode h.region = h.is in
      let same : r ≡ h.region = cc in
      let none : blocks_in c r ≡ [] = ap (blocks_in c) same ∙ ap (λ x. unwrap_or (option_map (λ (v : RegionView). v.blocks) x) []) (bare h.stands.index h.region h.stands.here) in
      let here : slice_get (blocks_in c r) s.index ≡ Some b = s.here in
      let gone : slice_get (blocks_in c r) s.index ≡ None = ap (λ l. slice_get l s.index) none in
      cc)
      (operation_shallow p bare (RegionNode r) w)
  operation_shallow p bare e (in_operation r q s w) = ⊎_elim
      (λ (h : OperationNode q ≡ OperationNode p). let is : q ≡ p = cc in inr (record { region = r; is = refl; stands = subst (StandsInOperation c r) is s }))
      (λ (h : IsRegionOf c p (OperationNode q)). let is : OperationNode q ≡ RegionNode h.region = h.is in cc)
      (operation_shallow p bare (OperationNode q) w)

  -- an operation and a block that stand inside it are itself
  operation_inside : (p : Ptr Operation) → HasBareRegions c p → (q : Ptr Operation) → StandsInside c (OperationNode p) (OperationNode q) → q ≡ p
  operation_inside p bare q stands = ⊎_elim
      (λ (h : OperationNode q ≡ OperationNode p). cc)
      (λ (h : IsRegionOf c p (OperationNode q)). let is : OperationNode q ≡ RegionNode h.region = h.is in cc)
      (operation_shallow p bare (OperationNode q) stands)

  no_block_inside : (p : Ptr Operation) → HasBareRegions c p → (b : Ptr BasicBlock) → StandsInside c (OperationNode p) (BlockNode b) → ⊥
  no_block_inside p bare b stands = ⊎_elim
      (λ (h : BlockNode b ≡ OperationNode p). cc)
      (λ (h : IsRegionOf c p (BlockNode b)). let is : BlockNode b ≡ RegionNode h.region = h.is in cc)
      (operation_shallow p bare (BlockNode b) stands)

  definer_inside : (p : Ptr Operation) → HasBareRegions c p → (e : DefiningEntity) → StandsInside c (OperationNode p) (definer_node e) → e ≡ ByOp p
  definer_inside p bare (ByOp q) stands = ap ByOp (operation_inside p bare q stands)
  definer_inside p bare (ByBlock b) stands = absurd (no_block_inside p bare b stands)

  -- nothing else stands in a block with no operation
  pub block_alone : (p : Ptr BasicBlock) → operations_in c p ≡ [] → (e : IRNode) → StandsInside c (BlockNode p) e → e ≡ BlockNode p
  block_alone p bare e itself = refl
  block_alone p bare e (in_block q b s w) =
      let h : BlockNode b ≡ BlockNode p = block_alone p bare (BlockNode b) w in
      let is : b ≡ p = cc in
      let here : slice_get (operations_in c p) s.index ≡ Some q = subst (λ x. slice_get (operations_in c x) s.index ≡ Some q) is s.here in
      let none : slice_get (operations_in c p) s.index ≡ None = ap (λ l. slice_get l s.index) bare in
      cc
  block_alone p bare e (in_region b r s w) = let h : RegionNode r ≡ BlockNode p = block_alone p bare (RegionNode r) w in cc
  block_alone p bare e (in_operation r q s w) = let h : OperationNode q ≡ BlockNode p = block_alone p bare (OperationNode q) w in cc

  pub operation-apart : (p : Ptr Operation) → HasBareRegions c p → ((q : Ptr Operation) (k : ℕ) (v : Value) → q ≢ p → slice_get (operands_at c q) k ≡ Some v → v.definer ≢ ByOp p) → IsApart c (OperationNode p)
  operation-apart p bare unused = record {
    values = λ q k v takes stands. ⊎_elim
        (λ (same : q ≡ p). subst (λ x. StandsInside c (OperationNode p) (OperationNode x)) (sym same) itself)
        (λ ne. absurd (unused q k v ne takes (definer_inside p bare v.definer stands)))
        (same_or_not q p);
    blocks = λ q k b goes stands. absurd (no_block_inside p bare b stands);
  }

  pub block-apart : (p : Ptr BasicBlock) → operations_in c p ≡ [] → ((q : Ptr Operation) (k : ℕ) (v : Value) → slice_get (operands_at c q) k ≡ Some v → v.definer ≢ ByBlock p)
      → ((q : Ptr Operation) (k : ℕ) → slice_get (successors_at c q) k ≢ Some p) → IsApart c (BlockNode p)
  block-apart p bare unused untargeted = record {
    values = λ q k v takes stands. absurd (unused q k v takes (block_definer v.definer p (block_alone p bare (definer_node v.definer) stands)));
    blocks = λ q k b goes stands. let h : BlockNode b ≡ BlockNode p = block_alone p bare (BlockNode b) stands in let is : b ≡ p = cc in absurd (untargeted q k (goes ∙ ap Some is));
  }

  -- the results of an operation that is not there have no type
  pub no-result : (p : Ptr Operation) → operation_at c p ≡ None → (v : Value) → v.definer ≡ ByOp p → type_at c v ≡ None
  no-result p none v is = ap (λ e. option_map (λ (d : Definition). d.ty) (numbered v.number (definitions_of c e))) is ∙ by (get c.forest.ops p.key) refl
    where
      by : (o : Option (OperationRecord O)) → get c.forest.ops p.key ≡ o → option_map (λ (d : Definition). d.ty) (numbered v.number (definitions_of c (ByOp p))) ≡ None
      by None e = ap (λ x. option_map (λ (d : Definition). d.ty) (numbered v.number (unwrap_or (option_map (λ (r : OperationRecord O). r.results.items) x) []))) e
      by (Some o) e = let h : operation_at c p ≡ Some (operation_of c p o) = ap (option_map (operation_of c p)) e in cc

  -- the arguments of a block that is not there have no type
  pub no-argument : (p : Ptr BasicBlock) → block_at c p ≡ None → (v : Value) → v.definer ≡ ByBlock p → type_at c v ≡ None
  no-argument p none v is = ap (λ e. option_map (λ (d : Definition). d.ty) (numbered v.number (definitions_of c e))) is ∙ by (get c.forest.blocks p.key) refl
    where
      by : (o : Option (BlockRecord B)) → get c.forest.blocks p.key ≡ o → option_map (λ (d : Definition). d.ty) (numbered v.number (definitions_of c (ByBlock p))) ≡ None
      by None e = ap (λ x. option_map (λ (d : Definition). d.ty) (numbered v.number (unwrap_or (option_map (λ (r : BlockRecord B). r.arguments.items) x) []))) e
      by (Some o) e = let h : block_at c p ≡ Some (block_of c p o) = ap (option_map (block_of c p)) e in cc

-- where each value has a number below n, the counter may be n
pub counter-lowered : {O B : Type 0} (c : Program O B) → IsProgram c → (n : ℕ) → ((v : Value) → IsLiveValue c v → v.number < n) → IsProgram (record c { counter = n })
counter-lowered c inv n below = record {
  operands = inv.operands;
  successors = inv.successors;
  values = inv.values;
  blocks = inv.blocks;
  numbers = λ e. record {
    distinct = (inv.numbers e).distinct;
    below = λ i d h. below (record { definer = e; number = d.number }) (subst IsSome (sym (ap (option_map (λ (x : Definition). x.ty)) (stands-found (definitions_of c e) i d (inv.numbers e).distinct h))) refl);
  };
  own = inv.own;
  homes = inv.homes;
}

module _ {O B : Type 0} (a b : Program O B) (n : ℕ) where
  -- the values that are left have numbers below n
  pub operation_left-below : (p : Ptr Operation) → IsSome (operation_at a p) → HasBareRegions a p → ((v : Value) → v.definer ≢ ByOp p → IsLiveValue a v → v.number < n) → ErasesOperation a b p → (v : Value) → IsLiveValue b v → v.number < n
  operation_left-below p there bare numbers erases v live = ⊎_elim
      (λ (is : v.definer ≡ ByOp p). let none : type_at b v ≡ None = no-result b p (erases.gone (OperationNode p) there itself).0 v is in let some : IsSome (type_at b v) = live in cc)
      (λ ne. numbers v ne (subst IsSome (erases.types v (λ stands. ne (definer_inside a p bare v.definer stands))) live))
      (definer_or_not v.definer (ByOp p))

  pub block_left-below : (p : Ptr BasicBlock) → IsSome (block_at a p) → operations_in a p ≡ [] → ((v : Value) → v.definer ≢ ByBlock p → IsLiveValue a v → v.number < n) → ErasesBlock a b p → (v : Value) → IsLiveValue b v → v.number < n
  block_left-below p there bare numbers erases v live = ⊎_elim
      (λ (is : v.definer ≡ ByBlock p). let none : type_at b v ≡ None = no-argument b p (erases.gone (BlockNode p) there itself).0 v is in let some : IsSome (type_at b v) = live in cc)
      (λ ne. numbers v ne (subst IsSome (erases.types v (λ stands. ne (block_definer v.definer p (block_alone a p bare (definer_node v.definer) stands)))) live))
      (definer_or_not v.definer (ByBlock p))

  pub operation-taken_back : (p : Ptr Operation) → IsSome (operation_at a p) → IsUnlinkedOperation a p → HasBareRegions a p → ErasesOperation a b p → TakesBackOperation a (record b { counter = n }) p n
  operation-taken_back p there unlinked bare erases = record {
    gone = (erases.gone (OperationNode p) there itself).0;
    gone_regions = λ k r here. let live : IsSome (region_at a r) = subst IsSome (sym (bare k r here)) refl in
        (erases.gone (RegionNode r) live (in_operation r p (record { region = live; operation = there; index = k; here = here }) itself)).0;
    others = λ q ne. erases.operations q (λ stands. ne (operation_inside a p bare q stands));
    blocks = λ q. erases.blocks q (no_block_inside a p bare q) (unlinked q);
    regions = λ q none. erases.regions q (λ stands. ⊎_elim
        (λ (h : RegionNode q ≡ OperationNode p). cc)
        (λ (h : IsRegionOf a p (RegionNode q)). let is : RegionNode q ≡ RegionNode h.region = h.is in let same : h.region ≡ q = cc in none h.stands.index (h.stands.here ∙ ap Some same))
        (operation_shallow a p bare (RegionNode q) stands));
    erased = record { operations = erases.erased.operations; blocks = erases.erased.blocks; regions = erases.erased.regions };
    counter = refl;
  }

  pub block-taken_back : (p : Ptr BasicBlock) → IsSome (block_at a p) → IsUnlinkedBlock a p → operations_in a p ≡ [] → ErasesBlock a b p → TakesBackBlock a (record b { counter = n }) p n
  block-taken_back p there unlinked bare erases = record {
    gone = (erases.gone (BlockNode p) there itself).0;
    others = λ q ne. erases.blocks q (λ stands. let h : BlockNode q ≡ BlockNode p = block_alone a p bare (BlockNode q) stands in let is : q ≡ p = cc in ne is);
    operations = λ q. erases.operations q (λ stands. let h : OperationNode q ≡ BlockNode p = block_alone a p bare (OperationNode q) stands in cc);
    regions = λ q. erases.regions q (λ stands. let h : RegionNode q ≡ BlockNode p = block_alone a p bare (RegionNode q) stands in cc) (unlinked q);
    erased = record { operations = erases.erased.operations; blocks = erases.erased.blocks; regions = erases.erased.regions };
    counter = refl;
  }
