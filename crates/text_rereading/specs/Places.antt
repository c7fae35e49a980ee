-- What is in what, in what is seen of a context: each thing is in one place, and each name is of one thing.
use Rattle.std.specs.Prelude.{◌≡◌, ℕ, ◌<◌, ◌^◌, List, [], Some, option_map, unwrap_or, slice_get}
use Rattle.ir_program.specs.Program.{TypedValue, value_in}
use Rattle.ir_program.specs.declared.handles.IRNode.{IRNode}
use Rattle.ir_program.specs.declared.handles.IRNode.TheVariants.{Operation as OperationNode, Region as RegionNode, BasicBlock as BlockNode}
use Rattle.ir_program.specs.declared.handles.Ptr.{Ptr}
use Rattle.ir_program.specs.declared.handles.Operation.{Operation}
use Rattle.ir_program.specs.declared.handles.BasicBlock.{BasicBlock}
use Rattle.ir_program.specs.declared.handles.Value.{Value}
use Rattle.text_dialect.specs.Seen.{SeenOperation, SeenBlock, Seen}

-- the numbers of the values fit in 64 bits
abbrev pub AreSmall : List Value → Type 0
AreSmall vs = (k : ℕ) (v : Value) → slice_get vs k ≡ Some v → v.number < 2 ^ 64

-- so do those of results or arguments
abbrev pub DefinesSmall : List TypedValue → Type 0
DefinesSmall vs = (k : ℕ) (v : Value) → value_in vs k ≡ Some v → v.number < 2 ^ 64

module _ {K A T : Type 0} (s : Seen K A T) where
  -- the first is directly in the second, at this index
  abbrev pub IsDirectlyIn : IRNode → IRNode → ℕ → Type 0
  IsDirectlyIn (OperationNode p) (BlockNode b) k =
      (v : SeenBlock) × (s.block b ≡ Some v) × (slice_get v.operations k ≡ Some p)
  IsDirectlyIn (BlockNode b) (RegionNode r) k =
      (bs : List (Ptr BasicBlock)) × (s.region r ≡ Some bs) × (slice_get bs k ≡ Some b)
  IsDirectlyIn (RegionNode r) (OperationNode p) k =
      (o : SeenOperation K A) × (s.operation p ≡ Some o) × (slice_get o.regions k ≡ Some r)
  IsDirectlyIn _ _ k = ⊥

  -- the inner is the outer, or is in it, however far down
  pub data IsAnywhereIn (outer : IRNode) : IRNode → Type 0 where
    itself : IsAnywhereIn outer outer
    within : (e holder : IRNode) (k : ℕ) → IsDirectlyIn e holder k → IsAnywhereIn outer holder → IsAnywhereIn outer e

  -- the results of an operation, or the arguments of a block
  abbrev pub values_of : IRNode → List TypedValue
  values_of (OperationNode p) = unwrap_or (option_map (λ (o : SeenOperation K A). o.results) (s.operation p)) []
  values_of (RegionNode r) = []
  values_of (BlockNode b) = unwrap_or (option_map (λ (v : SeenBlock). v.arguments) (s.block b)) []

  -- the numbers with which something is printed fit in 64 bits: those of the values that it defines or takes, and the
  -- slot and the version of a block
  abbrev pub HasSmallNumbers : IRNode → Type 0
  HasSmallNumbers (OperationNode p) = (o : SeenOperation K A) → s.operation p ≡ Some o →
      DefinesSmall o.results × AreSmall o.operands
  HasSmallNumbers (RegionNode r) = Unit {0}
  HasSmallNumbers (BlockNode b) = (v : SeenBlock) → s.block b ≡ Some v →
      (b.key.slot < 2 ^ 64) × (b.key.version < 2 ^ 64) × DefinesSmall v.arguments

  -- so do those of an operation and of all that is inside it
  abbrev pub AreSmallInside : Ptr Operation → Type 0
  AreSmallInside p = (e : IRNode) → IsAnywhereIn (OperationNode p) e → HasSmallNumbers e

-- Each thing is in one place at most, and in nothing that is inside it; no two places define values of one number. So
-- it
-- is in every context.
pub record HasOwnPlaces {K A T : Type 0} (s : Seen K A T) : Type 0 where
  pub once : (e f g : IRNode) (j k : ℕ) → IsDirectlyIn s e f j → IsDirectlyIn s e g k → (f ≡ g) × (j ≡ k)
  pub apart : (e f : IRNode) (k : ℕ) → IsDirectlyIn s e f k → IsAnywhereIn s e f → ⊥
  pub values : (e f : IRNode) (j k : ℕ) (v w : TypedValue) → slice_get (values_of s e) j ≡ Some v
      → slice_get (values_of s f) k ≡ Some w → v.value.number ≡ w.value.number → (e ≡ f) × (j ≡ k)
