-- What is left outside in two steps is left outside in both together.
use Rattle.std.proofs.Common.{◌≡◌, ⊎_elim, inl, inr, ℕ, zero, suc, List, [], ◌∷◌, map, Option, Some, None, IsSome, slice_get, refl, sym, ap, subst, ◌∙◌}
use Rattle.std.specs.Prelude.{option_map, unwrap_or}
use Rattle.ir_program.specs.Definers.{values_at}
use Rattle.ir_program.specs.Lists.{StandsInside}
use Rattle.ir_program.specs.Program.{Program, TypedValue, OperationView, BlockView, operation_at, block_at, value_in, type_at}
use Rattle.ir_program.specs.Rows.{operands_at}
use Rattle.ir_program.specs.declared.handles.BasicBlock.{BasicBlock}
use Rattle.ir_program.specs.declared.handles.DefiningEntity.TheVariants.{Op as ByOp, Block as ByBlock}
use Rattle.ir_program.specs.declared.handles.IRNode.TheVariants.{Operation as OperationNode, BasicBlock as BlockNode}
use Rattle.ir_program.specs.declared.handles.IRNode.TheVariants.{Region as RegionNode}
use Rattle.ir_program.specs.declared.handles.Operation.{Operation}
use Rattle.ir_program.specs.declared.handles.Ptr.{Ptr}
use Rattle.ir_program.specs.declared.handles.Region.{Region}
use Rattle.ir_program.specs.declared.handles.Value.{Value}
use Rattle.ir_trees.specs.Renames.{names_of}
use Rattle.ir_trees.specs.Stands.{defined_by}
use Rattle.opt_trees.specs.Occurrences.{Has}
use Rattle.opt_inside.specs.Occurring.{IsDefinedBelow}
use Rattle.opt_inside.proofs.Around.{HasLists, around_region}
use Rattle.pass_outside.specs.Outside.{IsLiveOutside, KeepsOtherOperands, LeavesOutside}
use Rattle.pass_outside.specs.Sound.{IsSound}

pub some_of : {X : Type 0} (o : Option X) → IsSome o → (x : X) × (o ≡ Some x)
some_of None h = absurd (cc h)
some_of (Some x) h = (x, refl)

pub is_some : {X : Type 0} (o : Option X) (x : X) → o ≡ Some x → IsSome o
is_some o x h = subst IsSome (sym h) refl

module _ {O B : Type 0} (c : Program O B) (sound : IsSound c) where
  pub has_lists : HasLists c
  has_lists = record {
    operations_once = sound.operations_once;
    blocks_once = sound.blocks_once;
    regions_once = sound.regions_once;
    operations = sound.operations;
    blocks = sound.blocks;
    regions = sound.regions;
    operation_apart = sound.operation_apart;
    block_apart = sound.block_apart;
  }

  -- a region that is outside isn't inside
  pub region_out_of : (op : Ptr Operation) (r : Ptr Region) → IsLiveOutside c op (RegionNode r)
      → StandsInside c (OperationNode op) (RegionNode r) → ⊥
  region_out_of op r out i = ⊎_elim
      (λ (e : OperationNode op ≡ RegionNode r). cc)
      out.2
      (around_region c has_lists (OperationNode op) r out.0 out.1 i)

-- what a row has at an index comes from what leads to the row
row_of : {X Y : Type 0} (f : X → List Y) (o : Option X) (k : ℕ) (y : Y) → slice_get (unwrap_or (option_map f o) []) k ≡ Some y
    → (x : X) × (o ≡ Some x) × (slice_get (f x) k ≡ Some y)
row_of f None k y h = absurd (cc h)
row_of f (Some x) k y h = (x, refl, h)

-- a value among results or arguments, by index
listed_value : (ts : List TypedValue) (k : ℕ) (t : TypedValue) → slice_get ts k ≡ Some t → Has t.value (names_of (map defined_by ts))
listed_value [] k t h = absurd (cc h)
listed_value (x ∷ ts) zero t h = let e : t ≡ x = cc in inl (ap (λ (z : TypedValue). z.value) e)
listed_value (x ∷ ts) (suc k) t h = inr (listed_value ts k t h)

value_listed : (ts : List TypedValue) (v : Value) → Has v (names_of (map defined_by ts)) → (k : ℕ) × (value_in ts k ≡ Some v)
value_listed [] v h = absurd h
value_listed (t ∷ ts) v (inl e) = (zero, ap Some (sym e))
value_listed (t ∷ ts) v (inr h) = let r = value_listed ts v h in (suc r.0, r.1)

module _ {O B : Type 0} (c : Program O B) (sound : IsSound c) (op : Ptr Operation) where
  -- a value that is defined below the operation is so by its definer
  defined_by_operation : (v : Value) (p : Ptr Operation) (w : OperationView O) → operation_at c p ≡ Some w
      → Has v (names_of (map defined_by w.results)) → v.definer ≡ ByOp p
  defined_by_operation v p w there has =
      let at = value_listed w.results v has in
      sound.definer (ByOp p) at.0 v
      (ap (λ (o : Option (OperationView O)). value_in (unwrap_or (option_map (λ (x : OperationView O). x.results) o) []) at.0) there ∙ at.1)

  defined_by_block : (v : Value) (b : Ptr BasicBlock) (w : BlockView B) → block_at c b ≡ Some w
      → Has v (names_of (map defined_by w.arguments)) → v.definer ≡ ByBlock b
  defined_by_block v b w there has =
      let at = value_listed w.arguments v has in
      sound.definer (ByBlock b) at.0 v
      (ap (λ (o : Option (BlockView B)). value_in (unwrap_or (option_map (λ (x : BlockView B). x.arguments) o) []) at.0) there ∙ at.1)

  -- an operand is a result or an argument of its definer
  module _ (p : Ptr Operation) (k : ℕ) (v : Value) (taken : slice_get (operands_at c p) k ≡ Some v) where
    result_of : (q : Ptr Operation) → v.definer ≡ ByOp q
        → (w : OperationView O) × (operation_at c q ≡ Some w) × Has v (names_of (map defined_by w.results))
    result_of q by =
        let ty = some_of (type_at c v) (sound.operands p k v taken) in
        let at = sound.stands v ty.0 ty.1 in
        let m = row_of (λ (x : OperationView O). x.results) (operation_at c q) at.index (record { value = v; ty = ty.0 })
        (ap (λ e. slice_get (values_at c e) at.index) (sym by) ∙ at.stands) in
        (m.0, m.1, listed_value m.0.results at.index (record { value = v; ty = ty.0 }) m.2)

    argument_of : (b : Ptr BasicBlock) → v.definer ≡ ByBlock b
        → (w : BlockView B) × (block_at c b ≡ Some w) × Has v (names_of (map defined_by w.arguments))
    argument_of b by =
        let ty = some_of (type_at c v) (sound.operands p k v taken) in
        let at = sound.stands v ty.0 ty.1 in
        let m = row_of (λ (x : BlockView B). x.arguments) (block_at c b) at.index (record { value = v; ty = ty.0 })
        (ap (λ e. slice_get (values_at c e) at.index) (sym by) ∙ at.stands) in
        (m.0, m.1, listed_value m.0.arguments at.index (record { value = v; ty = ty.0 }) m.2)

-- nothing is changed
pub left_same : {O B : Type 0} (c : Program O B) (op : Ptr Operation) → IsSound c → IsSome (operation_at c op) → LeavesOutside c c op
left_same c op sound live = record {
  sound = sound;
  live = live;
  operations = λ p v out there. (v.operands, there, record { count = refl; kept = λ k u here other. here });
  blocks = λ b v out there. there;
  regions = λ r out. refl;
  stays = λ e out. out;
  none_come = λ p there out. (there, out);
}

module _ {O B : Type 0} (old mid new : Program O B) (op : Ptr Operation) (sound : IsSound old)
    (first : LeavesOutside old mid op) (second : LeavesOutside mid new op) where
  -- an operand that isn't defined below the operation isn't after the first step
  not_below : (p : Ptr Operation) (k : ℕ) (v : Value) → slice_get (operands_at old p) k ≡ Some v → (IsDefinedBelow old op v → ⊥)
      → IsDefinedBelow mid op v → ⊥
  not_below p k v taken other (inl (q, w, below, there, has)) =
      let by = defined_by_operation mid first.sound op v q w there has in
      let was = result_of old sound op p k v taken q by in
      let out : StandsInside old (OperationNode op) (OperationNode q) → ⊥ =
      λ i. other (inl (q, was.0, record { inside = i; other = below.other }, was.1, was.2)) in
      (first.stays (OperationNode q) (is_some (operation_at old q) was.0 was.1, out)).1 below.inside
  not_below p k v taken other (inr (b, w, below, there, has)) =
      let by = defined_by_block mid first.sound op v b w there has in
      let was = argument_of old sound op p k v taken b by in
      let out : StandsInside old (OperationNode op) (BlockNode b) → ⊥ = λ i. other (inr (b, was.0, i, was.1, was.2)) in
      (first.stays (BlockNode b) (is_some (block_at old b) was.0 was.1, out)).1 below

  operands_twice : (p : Ptr Operation) (v : OperationView O) (us ws : List Value) → operation_at old p ≡ Some v
      → KeepsOtherOperands old mid op v.operands us → KeepsOtherOperands mid new op us ws
      → KeepsOtherOperands old new op v.operands ws
  operands_twice p v us ws there a b = record {
    count = b.count ∙ a.count;
    kept = λ k u here other.
        let taken : slice_get (operands_at old p) k ≡ Some u =
        ap (λ (o : Option (OperationView O)). slice_get (unwrap_or (option_map (λ (x : OperationView O). x.operands) o) []) k) there ∙ here in
        b.kept k u (a.kept k u here other) (not_below p k u taken other);
  }

  -- one step after the other
  pub left_twice : LeavesOutside old new op
  left_twice = record {
    sound = second.sound;
    live = second.live;
    operations = λ p v out there.
        let a = first.operations p v out there in
        let still = first.stays (OperationNode p) (is_some (operation_at old p) v there, out) in
        let b = second.operations p (record v { operands = a.0 }) still.1 a.1 in
        (b.0, b.1, operands_twice p v a.0 b.0 there a.2 b.2);
    blocks = λ b v out there.
        let still = first.stays (BlockNode b) (is_some (block_at old b) v there, out) in
        second.blocks b v still.1 (first.blocks b v out there);
    regions = λ r out. second.regions r (first.stays (RegionNode r) out) ∙ first.regions r out;
    stays = λ e out. second.stays e (first.stays e out);
    none_come = λ p there out. let was = second.none_come p there out in first.none_come p was.0 was.1;
  }
