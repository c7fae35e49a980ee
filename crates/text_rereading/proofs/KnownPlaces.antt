-- What every program keeps of its lists and values tells that each thing is in one place in what is seen of it.
use Rattle.std.proofs.Common.{◌≡◌, ℕ, List, [], Option, Some, None, IsSome, option_map, unwrap_or, slice_get, refl, sym, ap, ◌∙◌, subst}
use Rattle.ir_base.specs.declared.types.TypeHandle.{TypeHandle}
use Rattle.ir_program.specs.Definers.{StandsAtDefiner, values_at}
use Rattle.ir_program.specs.Erased.{definer_node}
use Rattle.ir_program.specs.Lists.{operations_in, blocks_in, regions_in, StandsInBlock, StandsInRegion, StandsInOperation, StandOnce, StandsInside, itself as itself_there, in_block, in_region, in_operation}
use Rattle.ir_program.specs.Program.{Program, TypedValue, IsLiveValue, operation_at, block_at, type_at, value_in, type_in}
use Rattle.ir_program.specs.declared.handles.IRNode.{IRNode}
use Rattle.ir_program.specs.declared.handles.IRNode.TheVariants.{Operation as OperationNode, Region as RegionNode, BasicBlock as BlockNode}
use Rattle.ir_program.specs.declared.handles.DefiningEntity.{DefiningEntity}
use Rattle.ir_program.specs.declared.handles.DefiningEntity.TheVariants.{Op as ByOp, Block as ByBlock}
use Rattle.ir_program.specs.declared.handles.Ptr.{Ptr}
use Rattle.ir_program.specs.declared.handles.Operation.{Operation}
use Rattle.ir_program.specs.declared.handles.Region.{Region}
use Rattle.ir_program.specs.declared.handles.BasicBlock.{BasicBlock}
use Rattle.ir_program.specs.declared.handles.Value.{Value}
use Rattle.ir_types.specs.Views.{TypesView}
use Rattle.ir_context.specs.Views.{ContextView}
use Rattle.ir_context.specs.declared.notes.OperationData.{OperationData}
use Rattle.ir_context.specs.declared.notes.BlockNotes.{BlockNotes}
use Rattle.text_dialect.specs.Seen.{SeenOperation, SeenBlock, seen, seen_operation, seen_block}
use Rattle.text_rereading.specs.Places.{IsDirectlyIn, IsAnywhereIn, itself, within, values_of, HasOwnPlaces}

-- the contexts of a dialect
abbrev pub ContextOf : (D TypeKind AttrKind TypeBody Saved Location OpKind Attr TypeKey : Type 0) → Type 0
ContextOf D TypeKind AttrKind TypeBody Saved Location OpKind Attr TypeKey =
    ContextView (OperationData D TypeKind AttrKind TypeBody Saved Location OpKind Attr TypeKey)
    (BlockNotes D TypeKind AttrKind TypeBody Saved Location OpKind Attr TypeKey) (TypesView TypeKey TypeBody Saved)

-- what the lists of every program keep
pub record KeepsLists {O B : Type 0} (c : Program O B) : Type 0 where
  pub operations_once : StandOnce (operations_in c)
  pub blocks_once : StandOnce (blocks_in c)
  pub regions_once : StandOnce (regions_in c)
  pub operations : (block : Ptr BasicBlock) (k : ℕ) (op : Ptr Operation)
      → slice_get (operations_in c block) k ≡ Some op → StandsInBlock c op block
  pub blocks : (region : Ptr Region) (k : ℕ) (block : Ptr BasicBlock) → slice_get (blocks_in c region) k ≡ Some block
      → StandsInRegion c block region
  pub regions : (op : Ptr Operation) (k : ℕ) (region : Ptr Region) → slice_get (regions_in c op) k ≡ Some region
      → StandsInOperation c region op
  pub operation_apart : (op : Ptr Operation) (block : Ptr BasicBlock) → StandsInBlock c op block
      → StandsInside c (OperationNode op) (BlockNode block) → ⊥
  pub block_apart : (block : Ptr BasicBlock) (region : Ptr Region) → StandsInRegion c block region
      → StandsInside c (BlockNode block) (RegionNode region) → ⊥
  pub region_apart : (region : Ptr Region) (op : Ptr Operation) → StandsInOperation c region op
      → StandsInside c (RegionNode region) (OperationNode op) → ⊥

-- what every program keeps of its values
pub record KeepsDefiners {O B : Type 0} (c : Program O B) : Type 0 where
  pub definer : (e : DefiningEntity) (k : ℕ) (v : Value) → value_in (values_at c e) k ≡ Some v → v.definer ≡ e
  pub typed : (e : DefiningEntity) (k : ℕ) (v : Value) → value_in (values_at c e) k ≡ Some v
      → type_at c v ≡ type_in (values_at c e) k
  pub stands : (v : Value) (ty : TypeHandle) → type_at c v ≡ Some ty → StandsAtDefiner c v ty
  pub own : (v w : Value) → IsLiveValue c v → IsLiveValue c w → v.number ≡ w.number → v ≡ w

-- what a function makes of a value that may be there is made of a value that is there
pub mapped : {X Y : Type 0} (f : X → Y) (o : Option X) (y : Y) → option_map f o ≡ Some y
    → (x : X) × (o ≡ Some x) × (f x ≡ y)
mapped f None y e = absurd (cc)
mapped f (Some x) y e = (x, refl, (let is : f x ≡ y = cc in is))

-- the rows of a value that may be there, of which something was made first
same_rows : {X Y Z : Type 0} (f : Y → List Z) (g : X → Y) (o : Option X)
    → unwrap_or (option_map f (option_map g o)) [] ≡ unwrap_or (option_map (λ x. f (g x)) o) []
same_rows f g None = refl
same_rows f g (Some x) = refl

there : {X : Type 0} (o : Option X) (x : X) → o ≡ Some x → IsSome o
there o x e = subst IsSome (sym e) refl

module _ {D TypeKind AttrKind TypeBody Saved Location OpKind Attr TypeKey : Type 0}
    (c : ContextOf D TypeKind AttrKind TypeBody Saved Location OpKind Attr TypeKey) where
  at_operation : (p : Ptr Operation) (b : Ptr BasicBlock) (k : ℕ) → IsDirectlyIn (seen c) (OperationNode p) (BlockNode b) k
      → slice_get (operations_in c.program b) k ≡ Some p
  at_operation p b k h =
      let m = mapped seen_block (block_at c.program b) h.0 h.1 in
      ap (λ o. slice_get (unwrap_or (option_map (λ x. x.operations) o) []) k) m.1
      ∙ ap (λ (y : SeenBlock). slice_get y.operations k) m.2 ∙ h.2

  at_block : (b : Ptr BasicBlock) (r : Ptr Region) (k : ℕ) → IsDirectlyIn (seen c) (BlockNode b) (RegionNode r) k
      → slice_get (blocks_in c.program r) k ≡ Some b
  at_block b r k h = ap (λ o. slice_get (unwrap_or o []) k) h.1 ∙ h.2

  at_region : (r : Ptr Region) (p : Ptr Operation) (k : ℕ) → IsDirectlyIn (seen c) (RegionNode r) (OperationNode p) k
      → slice_get (regions_in c.program p) k ≡ Some r
  at_region r p k h =
      let m = mapped seen_operation (operation_at c.program p) h.0 h.1 in
      ap (λ x. slice_get (unwrap_or (option_map (λ y. y.regions) x) []) k) m.1
      ∙ ap (λ (y : SeenOperation OpKind Attr). slice_get y.regions k) m.2 ∙ h.2

  module _ (lists : KeepsLists c.program) where
    is_once : (e f g : IRNode) (j k : ℕ) → IsDirectlyIn (seen c) e f j → IsDirectlyIn (seen c) e g k → (f ≡ g) × (j ≡ k)
    is_once (OperationNode p) (BlockNode a) (BlockNode b) j k x y =
        let r = lists.operations_once p a b j k (at_operation p a j x) (at_operation p b k y) in
        (ap BlockNode r.0, r.1)
    is_once (OperationNode p) (BlockNode a) (OperationNode q) j k x y = absurd y
    is_once (OperationNode p) (BlockNode a) (RegionNode q) j k x y = absurd y
    is_once (OperationNode p) (OperationNode q) g j k x y = absurd x
    is_once (OperationNode p) (RegionNode q) g j k x y = absurd x
    is_once (BlockNode b) (RegionNode q) (RegionNode r) j k x y =
        let m = lists.blocks_once b q r j k (at_block b q j x) (at_block b r k y) in (ap RegionNode m.0, m.1)
    is_once (BlockNode b) (RegionNode q) (OperationNode r) j k x y = absurd y
    is_once (BlockNode b) (RegionNode q) (BlockNode r) j k x y = absurd y
    is_once (BlockNode b) (OperationNode q) g j k x y = absurd x
    is_once (BlockNode b) (BlockNode q) g j k x y = absurd x
    is_once (RegionNode r) (OperationNode p) (OperationNode q) j k x y =
        let m = lists.regions_once r p q j k (at_region r p j x) (at_region r q k y) in (ap OperationNode m.0, m.1)
    is_once (RegionNode r) (OperationNode p) (RegionNode q) j k x y = absurd y
    is_once (RegionNode r) (OperationNode p) (BlockNode q) j k x y = absurd y
    is_once (RegionNode r) (RegionNode q) g j k x y = absurd x
    is_once (RegionNode r) (BlockNode q) g j k x y = absurd x

    -- what is inside a thing stands in it
    one_more : (x e h : IRNode) (k : ℕ) → IsDirectlyIn (seen c) e h k → StandsInside c.program x h
        → StandsInside c.program x e
    one_more x (OperationNode p) (BlockNode b) k at i =
        in_block p b (lists.operations b k p (at_operation p b k at)) i
    one_more x (OperationNode p) (OperationNode q) k at i = absurd at
    one_more x (OperationNode p) (RegionNode q) k at i = absurd at
    one_more x (BlockNode b) (RegionNode r) k at i = in_region b r (lists.blocks r k b (at_block b r k at)) i
    one_more x (BlockNode b) (OperationNode q) k at i = absurd at
    one_more x (BlockNode b) (BlockNode q) k at i = absurd at
    one_more x (RegionNode r) (OperationNode p) k at i = in_operation r p (lists.regions p k r (at_region r p k at)) i
    one_more x (RegionNode r) (RegionNode q) k at i = absurd at
    one_more x (RegionNode r) (BlockNode q) k at i = absurd at

    pub stands_inside : (x e : IRNode) → IsAnywhereIn (seen c) x e → StandsInside c.program x e
    stands_inside x _ itself = itself_there
    stands_inside x _ (within e h k at i) = one_more x e h k at (stands_inside x h i)

    is_apart : (e f : IRNode) (k : ℕ) → IsDirectlyIn (seen c) e f k → IsAnywhereIn (seen c) e f → ⊥
    is_apart (OperationNode p) (BlockNode b) k at i =
        lists.operation_apart p b (lists.operations b k p (at_operation p b k at))
        (stands_inside (OperationNode p) (BlockNode b) i)
    is_apart (OperationNode p) (OperationNode q) k at i = absurd at
    is_apart (OperationNode p) (RegionNode q) k at i = absurd at
    is_apart (BlockNode b) (RegionNode r) k at i =
        lists.block_apart b r (lists.blocks r k b (at_block b r k at)) (stands_inside (BlockNode b) (RegionNode r) i)
    is_apart (BlockNode b) (OperationNode q) k at i = absurd at
    is_apart (BlockNode b) (BlockNode q) k at i = absurd at
    is_apart (RegionNode r) (OperationNode p) k at i =
        lists.region_apart r p (lists.regions p k r (at_region r p k at))
        (stands_inside (RegionNode r) (OperationNode p) i)
    is_apart (RegionNode r) (RegionNode q) k at i = absurd at
    is_apart (RegionNode r) (BlockNode q) k at i = absurd at

    module _ (definers : KeepsDefiners c.program) where
      -- what defines the values of a thing, where it defines any
      record DefinedBy (e : IRNode) (k : ℕ) (v : TypedValue) : Type 0 where
        by : DefiningEntity
        node : definer_node by ≡ e
        here : slice_get (values_at c.program by) k ≡ Some v

      defined_by : (e : IRNode) (k : ℕ) (v : TypedValue) → slice_get (values_of (seen c) e) k ≡ Some v
          → DefinedBy e k v
      defined_by (OperationNode p) k v h =
          let rows =
          same_rows (λ (y : SeenOperation OpKind Attr). y.results) seen_operation (operation_at c.program p) in
          record { by = ByOp p; node = refl; here = sym (ap (λ vs. slice_get vs k) rows) ∙ h }
      defined_by (BlockNode b) k v h =
          let rows = same_rows (λ (y : SeenBlock). y.arguments) seen_block (block_at c.program b) in
          record { by = ByBlock b; node = refl; here = sym (ap (λ vs. slice_get vs k) rows) ∙ h }
      defined_by (RegionNode r) k v h = absurd (cc)

      value_here : (e : IRNode) (k : ℕ) (v : TypedValue) → (d : DefinedBy e k v)
          → value_in (values_at c.program d.by) k ≡ Some v.value
      value_here e k v d = ap (option_map (λ (t : TypedValue). t.value)) d.here

      type_here : (e : IRNode) (k : ℕ) (v : TypedValue) → (d : DefinedBy e k v)
          → type_at c.program v.value ≡ Some v.ty
      type_here e k v d =
          definers.typed d.by k v.value (value_here e k v d) ∙ ap (option_map (λ (t : TypedValue). t.ty)) d.here

      are_own : (e f : IRNode) (j k : ℕ) (v w : TypedValue) → slice_get (values_of (seen c) e) j ≡ Some v
          → slice_get (values_of (seen c) f) k ≡ Some w
          → v.value.number ≡ w.value.number → (e ≡ f) × (j ≡ k)
      are_own e f j k v w x y numbers =
          let a = defined_by e j v x in
          let b = defined_by f k w y in
          let ta = type_here e j v a in
          let tb = type_here f k w b in
          let same : v.value ≡ w.value =
          definers.own v.value w.value (there (type_at c.program v.value) v.ty ta)
          (there (type_at c.program w.value) w.ty tb) numbers in
          let da : v.value.definer ≡ a.by = definers.definer a.by j v.value (value_here e j v a) in
          let db : w.value.definer ≡ b.by = definers.definer b.by k w.value (value_here f k w b) in
          let one : a.by ≡ b.by = sym da ∙ ap (λ (u : Value). u.definer) same ∙ db in
          let at = definers.stands v.value v.ty ta in
          let first : j ≡ at.index =
          at.once j (subst (λ d. value_in (values_at c.program d) j ≡ Some v.value) (sym da) (value_here e j v a)) in
          let there_too : value_in (values_at c.program b.by) k ≡ Some v.value =
          value_here f k w b ∙ ap Some (sym same) in
          let second : k ≡ at.index =
          at.once k (subst (λ d. value_in (values_at c.program d) k ≡ Some v.value) (sym (da ∙ one)) there_too) in
          (sym a.node ∙ ap definer_node one ∙ b.node, first ∙ sym second)

      pub own_places : HasOwnPlaces (seen c)
      own_places = record { once = is_once; apart = is_apart; values = are_own }
