-- What stands in lists and inside entities of a program is so in what is seen of it, and what dropping and erasing make.
use Rattle.std.proofs.Common.{◌≡◌, ℕ, List, [], ◌∷◌, Option, Some, None, IsSome, option_map, unwrap_or, slice_get, refl, ap, ◌∙◌}
use Rattle.ir_program.specs.Drops.{without_uses, DropsUses as DropsInProgram}
use Rattle.ir_program.specs.Erased.{IsApart, IsGone, ErasesOperation, ErasesBlock, definer_node}
use Rattle.ir_base.specs.declared.types.TypeHandle.{TypeHandle}
use Rattle.ir_program.specs.Definers.{StandsAtDefiner, values_at}
use Rattle.ir_program.specs.declared.handles.DefiningEntity.{DefiningEntity}
use Rattle.ir_program.specs.declared.handles.DefiningEntity.TheVariants.{Op as ByOp, Block as ByBlock}
use Rattle.ir_program.specs.Rows.{operands_at, successors_at}
use Rattle.ir_program.specs.Lists.{operations_in, blocks_in, regions_in, StandsInBlock, StandsInRegion, StandsInOperation, StandOnce, IsLiveNode, StandsInside, itself as itself_there, in_block as stands_in_block, in_region as stands_in_region, in_operation as stands_in_operation}
use Rattle.ir_program.specs.Program.{Program, OperationView, RegionView, TypedValue, IsLiveValue, operation_at, block_at, region_at, type_at}
use Rattle.ir_program.specs.declared.handles.IRNode.{IRNode}
use Rattle.ir_program.specs.declared.handles.IRNode.TheVariants.{Operation as OperationNode, Region as RegionNode, BasicBlock as BlockNode}
use Rattle.ir_program.specs.declared.handles.Ptr.{Ptr}
use Rattle.ir_program.specs.declared.handles.Operation.{Operation}
use Rattle.ir_program.specs.declared.handles.Region.{Region}
use Rattle.ir_program.specs.declared.handles.BasicBlock.{BasicBlock}
use Rattle.ir_program.specs.declared.handles.Value.{Value}
use Rattle.ir_context.specs.declared.notes.OperationData.{OperationData}
use Rattle.text_dialect.specs.Seen.{SeenOperation, SeenBlock, Seen, seen, seen_operation, seen_block}
use Rattle.text_frames.specs.building.Loose.{IsLooseOperation, IsLooseBlock}
use Rattle.text_frames.specs.building.Inside.{IsThere, IsNowhere, IsNodeInside, itself, in_block, in_region, in_operation, IsLoose, IsInsideSome, AreUnused, without_names, DropsUsesInNodes, ErasesNodes, IsSeenForest, StartIsOutside, KeepsPayloadsOutside, NamesWhatIsThere}
use Rattle.text_frames.proofs.BuildingLemmas.Insides.{inside_there, loose_there, some_one, one_some}
use Rattle.text_frames.proofs.BuildingLemmas.Opened.{ContextOf, unlinked_operation, unlinked_block}
use Rattle.text_frames.proofs.BuildingLemmas.Options.{no_some, is_there, there, mapped, mapped_there, unmapped_there}

-- what the lists of every program keep
pub record HasLists {O B : Type 0} (c : Program O B) : Type 0 where
  pub operations_once : StandOnce (operations_in c)
  pub blocks_once : StandOnce (blocks_in c)
  pub regions_once : StandOnce (regions_in c)
  pub operations : (block : Ptr BasicBlock) (k : ℕ) (op : Ptr Operation) → slice_get (operations_in c block) k ≡ Some op → StandsInBlock c op block
  pub blocks : (region : Ptr Region) (k : ℕ) (block : Ptr BasicBlock) → slice_get (blocks_in c region) k ≡ Some block → StandsInRegion c block region
  pub regions : (op : Ptr Operation) (k : ℕ) (region : Ptr Region) → slice_get (regions_in c op) k ≡ Some region → StandsInOperation c region op

-- what every program keeps of what operations name
pub record NamesLive {O B : Type 0} (c : Program O B) : Type 0 where
  pub stands : (v : Value) (ty : TypeHandle) → type_at c v ≡ Some ty → StandsAtDefiner c v ty
  pub operands : (p : Ptr Operation) (k : ℕ) (v : Value) → slice_get (operands_at c p) k ≡ Some v → IsLiveValue c v
  pub successors : (p : Ptr Operation) (k : ℕ) (b : Ptr BasicBlock) → slice_get (successors_at c p) k ≡ Some b → IsSome (block_at c b)

in_row : {X Y : Type 0} (f : X → List Y) (o : Option X) (k : ℕ) (y : Y) → slice_get (unwrap_or (option_map f o) []) k ≡ Some y → (x : X) × (o ≡ Some x) × (slice_get (f x) k ≡ Some y)
in_row f None k y e = no_some y e
in_row f (Some x) k y e = (x, refl, e)

module _ {D TypeKind AttrKind TypeBody Saved Location OpKind Attr TypeKey : Type 0}
    (c : ContextOf D TypeKind AttrKind TypeBody Saved Location OpKind Attr TypeKey) where
  listed_operation : (b : Ptr BasicBlock) (v : SeenBlock) (k : ℕ) (p : Ptr Operation) → (seen c).block b ≡ Some v → slice_get v.operations k ≡ Some p → slice_get (operations_in c.program b) k ≡ Some p
  listed_operation b v k p e listed =
      let m = mapped seen_block (block_at c.program b) v e in
      ap (λ o. slice_get (unwrap_or (option_map (λ x. x.operations) o) []) k) m.1 ∙ ap (λ (y : SeenBlock). slice_get y.operations k) m.2 ∙ listed

  listed_block : (r : Ptr Region) (bs : List (Ptr BasicBlock)) (k : ℕ) (b : Ptr BasicBlock) → (seen c).region r ≡ Some bs → slice_get bs k ≡ Some b → slice_get (blocks_in c.program r) k ≡ Some b
  listed_block r bs k b e listed = ap (λ o. slice_get (unwrap_or o []) k) e ∙ listed

  listed_region : (p : Ptr Operation) (o : SeenOperation OpKind Attr) (k : ℕ) (r : Ptr Region) → (seen c).operation p ≡ Some o → slice_get o.regions k ≡ Some r → slice_get (regions_in c.program p) k ≡ Some r
  listed_region p o k r e listed =
      let m = mapped seen_operation (operation_at c.program p) o e in
      ap (λ x. slice_get (unwrap_or (option_map (λ y. y.regions) x) []) k) m.1 ∙ ap (λ (y : SeenOperation OpKind Attr). slice_get y.regions k) m.2 ∙ listed

  pub stands_seen : (x e : IRNode) → StandsInside c.program x e → IsNodeInside (seen c) x e
  stands_seen x _ itself_there = itself
  stands_seen x _ (stands_in_block p b s i) =
      let m = in_row (λ v. v.operations) (block_at c.program b) s.index p s.here in
      in_block p b (seen_block m.0) s.index (ap (option_map seen_block) m.1) m.2 (stands_seen x (BlockNode b) i)
  stands_seen x _ (stands_in_region b r s i) =
      let m = in_row (λ (v : RegionView). v.blocks) (region_at c.program r) s.index b s.here in
      in_region b r m.0.blocks s.index (ap (option_map (λ (v : RegionView). v.blocks)) m.1) m.2 (stands_seen x (RegionNode r) i)
  stands_seen x _ (stands_in_operation r p s i) =
      let m = in_row (λ v. v.regions) (operation_at c.program p) s.index r s.here in
      in_operation r p (seen_operation m.0) s.index (ap (option_map seen_operation) m.1) m.2 (stands_seen x (OperationNode p) i)

  pub live_there : (e : IRNode) → IsLiveNode c.program e → IsThere (seen c) e
  live_there (OperationNode p) h = mapped_there seen_operation (operation_at c.program p) h
  live_there (RegionNode r) h = mapped_there (λ (v : RegionView). v.blocks) (region_at c.program r) h
  live_there (BlockNode b) h = mapped_there seen_block (block_at c.program b) h

  pub there_live : (e : IRNode) → IsThere (seen c) e → IsLiveNode c.program e
  there_live (OperationNode p) h = unmapped_there seen_operation (operation_at c.program p) h
  there_live (RegionNode r) h = unmapped_there (λ (v : RegionView). v.blocks) (region_at c.program r) h
  there_live (BlockNode b) h = unmapped_there seen_block (block_at c.program b) h

  gone_nowhere : (e : IRNode) → IsGone c.program e → IsNowhere (seen c) e
  gone_nowhere (OperationNode p) h = ap (option_map seen_operation) h.0
  gone_nowhere (RegionNode r) h = ap (option_map (λ (v : RegionView). v.blocks)) h.0
  gone_nowhere (BlockNode b) h = ap (option_map seen_block) h.0

  -- nothing names what is inside a thing
  pub unused_apart : (x : IRNode) → AreUnused (seen c) (x ∷ []) → IsApart c.program x
  unused_apart x unused = record {
    values = λ p k v e i.
        let m = in_row (λ o. o.operands) (operation_at c.program p) k v e in
        absurd (unused.values p (seen_operation m.0) k v (ap (option_map seen_operation) m.1) m.2 (some_one (seen c) x (definer_node v.definer) (stands_seen x (definer_node v.definer) i)));
    blocks = λ p k b e i.
        let m = in_row (λ o. o.successors) (operation_at c.program p) k b e in
        absurd (unused.blocks p (seen_operation m.0) k b (ap (option_map seen_operation) m.1) m.2 (some_one (seen c) x (BlockNode b) (stands_seen x (BlockNode b) i)));
  }

  -- what operations of a program name is there
  pub seen_named : NamesLive c.program → NamesWhatIsThere (seen c)
  seen_named names = record {
    values = λ p o k v e named.
        let m = mapped seen_operation (operation_at c.program p) o e in
        let live = names.operands p k v (ap (λ x. slice_get (unwrap_or (option_map (λ y. y.operands) x) []) k) m.1 ∙ ap (λ (y : SeenOperation OpKind Attr). slice_get y.operands k) m.2 ∙ named) in
        let t = is_there (type_at c.program v) live in
        let at = names.stands v t.0 t.1 in
        definer_there v.definer at.index (record { value = v; ty = t.0 }) at.stands;
    blocks = λ p o k b e named.
        let m = mapped seen_operation (operation_at c.program p) o e in
        mapped_there seen_block (block_at c.program b) (names.successors p k b (ap (λ x. slice_get (unwrap_or (option_map (λ y. y.successors) x) []) k) m.1 ∙ ap (λ (y : SeenOperation OpKind Attr). slice_get y.successors k) m.2 ∙ named));
  } where
    definer_there : (e : DefiningEntity) (k : ℕ) (x : TypedValue) → slice_get (values_at c.program e) k ≡ Some x → IsThere (seen c) (definer_node e)
    definer_there (ByOp p) k x here = let m = in_row (λ v. v.results) (operation_at c.program p) k x here in mapped_there seen_operation (operation_at c.program p) (there (operation_at c.program p) m.0 m.1)
    definer_there (ByBlock b) k x here = let m = in_row (λ v. v.arguments) (block_at c.program b) k x here in mapped_there seen_block (block_at c.program b) (there (block_at c.program b) m.0 m.1)

  module _ (lists : HasLists c.program) where
    pub seen_forest : IsSeenForest (seen c)
    seen_forest = record {
      operation_there = λ b v k p e listed. mapped_there seen_operation (operation_at c.program p) (lists.operations b k p (listed_operation b v k p e listed)).operation;
      block_there = λ r bs k b e listed. mapped_there seen_block (block_at c.program b) (lists.blocks r k b (listed_block r bs k b e listed)).block;
      region_there = λ p o k r e listed. mapped_there (λ (v : RegionView). v.blocks) (region_at c.program r) (lists.regions p k r (listed_region p o k r e listed)).region;
      operation_once = λ b d v w j k p e f here there. (lists.operations_once p b d j k (listed_operation b v j p e here) (listed_operation d w k p f there)).0;
      block_once = λ q r bs ds j k b e f here there. (lists.blocks_once b q r j k (listed_block q bs j b e here) (listed_block r ds k b f there)).0;
      region_once = λ p q o u j k r e f here there. (lists.regions_once r p q j k (listed_region p o j r e here) (listed_region q u k r f there)).0;
    }

    pub seen_stands : (x e : IRNode) → IsNodeInside (seen c) x e → StandsInside c.program x e
    seen_stands x _ itself = itself_there
    seen_stands x _ (in_block p b v k e listed i) = stands_in_block p b (lists.operations b k p (listed_operation b v k p e listed)) (seen_stands x (BlockNode b) i)
    seen_stands x _ (in_region b r bs k e listed i) = stands_in_region b r (lists.blocks r k b (listed_block r bs k b e listed)) (seen_stands x (RegionNode r) i)
    seen_stands x _ (in_operation r p o k e listed i) = stands_in_operation r p (lists.regions p k r (listed_region p o k r e listed)) (seen_stands x (OperationNode p) i)

seen_bare : {D TypeKind AttrKind TypeBody Saved Location OpKind Attr TypeKey : Type 0}
    (o : Option (OperationView (OperationData D TypeKind AttrKind TypeBody Saved Location OpKind Attr TypeKey)))
    → option_map seen_operation (option_map without_uses o) ≡ option_map without_names (option_map seen_operation o)
seen_bare None = refl
seen_bare (Some v) = refl

module _ {D TypeKind AttrKind TypeBody Saved Location OpKind Attr TypeKey : Type 0}
    (c d : ContextOf D TypeKind AttrKind TypeBody Saved Location OpKind Attr TypeKey) (same : d.types ≡ c.types) (lists : HasLists c.program) where
  pub drops_seen : (x : IRNode) → DropsInProgram c.program d.program x → DropsUsesInNodes (seen c) (seen d) (x ∷ [])
  drops_seen x h = record {
    inside = λ p i. ap (option_map seen_operation) (h.inside p (seen_stands c lists x (OperationNode p) (one_some (seen c) x (OperationNode p) i))) ∙ seen_bare (operation_at c.program p);
    outside = λ p out. ap (option_map seen_operation) (h.outside p (λ i. out (some_one (seen c) x (OperationNode p) (stands_seen c x (OperationNode p) i))));
    blocks = λ b. ap (option_map seen_block) (h.blocks b);
    regions = λ r. ap (option_map (λ (v : RegionView). v.blocks)) (h.regions r);
    types = ap (λ ts. ts.keys) same;
  }

  -- what isn't inside a thing doesn't stand in it
  outside : (x e : IRNode) → (IsInsideSome (seen c) (x ∷ []) e → ⊥) → StandsInside c.program x e → ⊥
  outside x e out i = out (some_one (seen c) x e (stands_seen c x e i))

  -- what is inside a thing stands in it, and is there
  inside : (x : IRNode) → IsLoose (seen c) x → (e : IRNode) → IsInsideSome (seen c) (x ∷ []) e → IsLiveNode c.program e × StandsInside c.program x e
  inside x loose e i = let j = one_some (seen c) x e i in
      (there_live c e (inside_there (seen c) (seen_forest c lists) x (loose_there (seen c) x loose) e j), seen_stands c lists x e j)

  pub operation_erased : (p : Ptr Operation) → IsLooseOperation (seen c) p → ErasesOperation c.program d.program p → ErasesNodes (seen c) (seen d) (OperationNode p ∷ [])
  operation_erased p loose h = record {
    gone = λ e i. let j = inside (OperationNode p) loose e i in gone_nowhere d e (h.gone e j.0 j.1);
    operations = λ q out. ap (option_map seen_operation) (h.operations q (outside (OperationNode p) (OperationNode q) out));
    blocks = λ b out. ap (option_map seen_block) (h.blocks b (outside (OperationNode p) (BlockNode b) out) (unlinked_operation c p loose b));
    regions = λ r out. ap (option_map (λ (v : RegionView). v.blocks)) (h.regions r (outside (OperationNode p) (RegionNode r) out));
    types = ap (λ ts. ts.keys) same;
  }

  pub block_erased : (b : Ptr BasicBlock) → IsLooseBlock (seen c) b → ErasesBlock c.program d.program b → ErasesNodes (seen c) (seen d) (BlockNode b ∷ [])
  block_erased b loose h = record {
    gone = λ e i. let j = inside (BlockNode b) loose e i in gone_nowhere d e (h.gone e j.0 j.1);
    operations = λ q out. ap (option_map seen_operation) (h.operations q (outside (BlockNode b) (OperationNode q) out));
    blocks = λ q out. ap (option_map seen_block) (h.blocks q (outside (BlockNode b) (BlockNode q) out));
    regions = λ r out. ap (option_map (λ (v : RegionView). v.blocks)) (h.regions r (outside (BlockNode b) (RegionNode r) out) (unlinked_block c b loose r));
    types = ap (λ ts. ts.keys) same;
  }

-- what isn't inside a thing keeps its payload where the thing is bared or erased
module _ {D TypeKind AttrKind TypeBody Saved Location OpKind Attr TypeKey : Type 0}
    (c d : ContextOf D TypeKind AttrKind TypeBody Saved Location OpKind Attr TypeKey) where
  apart_from : (start : Seen OpKind Attr TypeKey) (x e : IRNode) → StartIsOutside start (seen c) (x ∷ []) → IsThere start e → StandsInside c.program x e → ⊥
  apart_from start x e out shown i = out e shown (some_one (seen c) x e (stands_seen c x e i))

  pub drops_outside : (x : IRNode) → DropsInProgram c.program d.program x → KeepsPayloadsOutside (seen c) (x ∷ []) c.program d.program
  drops_outside x h start out = record {
    operations = λ p shown. ap (option_map (λ v. v.payload)) (h.outside p (apart_from start x (OperationNode p) out shown));
    blocks = λ b shown. ap (option_map (λ v. v.payload)) (h.blocks b);
  }

  pub operation_outside : (p : Ptr Operation) → IsLooseOperation (seen c) p → ErasesOperation c.program d.program p → KeepsPayloadsOutside (seen c) (OperationNode p ∷ []) c.program d.program
  operation_outside p loose h start out = record {
    operations = λ q shown. ap (option_map (λ v. v.payload)) (h.operations q (apart_from start (OperationNode p) (OperationNode q) out shown));
    blocks = λ b shown. ap (option_map (λ v. v.payload)) (h.blocks b (apart_from start (OperationNode p) (BlockNode b) out shown) (unlinked_operation c p loose b));
  }

  pub block_outside : (b : Ptr BasicBlock) → IsLooseBlock (seen c) b → ErasesBlock c.program d.program b → KeepsPayloadsOutside (seen c) (BlockNode b ∷ []) c.program d.program
  block_outside b loose h start out = record {
    operations = λ q shown. ap (option_map (λ v. v.payload)) (h.operations q (apart_from start (BlockNode b) (OperationNode q) out shown));
    blocks = λ q shown. ap (option_map (λ v. v.payload)) (h.blocks q (apart_from start (BlockNode b) (BlockNode q) out shown));
  }
