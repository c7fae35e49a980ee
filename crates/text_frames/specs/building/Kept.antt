-- What one context leaves of another.
use Rattle.std.specs.Prelude.{◌≡◌, ℕ, ◌+◌, List, Option, Some, IsSome, option_map, slice_get}
use Rattle.ir_program.specs.Edits.{KeepsErased}
use Rattle.ir_program.specs.Program.{Program, OperationView, BlockView, operation_at, block_at}
use Rattle.ir_program.specs.declared.handles.Ptr.{Ptr}
use Rattle.ir_program.specs.declared.handles.Operation.{Operation}
use Rattle.ir_program.specs.declared.handles.Region.{Region}
use Rattle.ir_program.specs.declared.handles.BasicBlock.{BasicBlock}
use Rattle.text_dialect.specs.Seen.{SeenOperation, SeenBlock, Seen}

-- types keep their keys, and there may be more of them
abbrev pub KeepsKeys : {T : Type 0} → List T → List T → Type 0
KeepsKeys {T} old new = (n : ℕ) (key : T) → slice_get old n ≡ Some key → slice_get new n ≡ Some key

module _ {K A T : Type 0} (old new : Seen K A T) where
  -- what led somewhere leads to the same, and types keep their keys
  pub record KeepsAllSeen : Type 0 where
    pub operations : (p : Ptr Operation) (o : SeenOperation K A) → old.operation p ≡ Some o → new.operation p ≡ Some o
    pub blocks : (b : Ptr BasicBlock) (v : SeenBlock) → old.block b ≡ Some v → new.block b ≡ Some v
    pub regions : (r : Ptr Region) (bs : List (Ptr BasicBlock)) → old.region r ≡ Some bs → new.region r ≡ Some bs
    pub types : KeepsKeys old.types new.types

  -- each handle leads to what it led to, and types keep their keys
  pub record SameSeen : Type 0 where
    pub operations : (p : Ptr Operation) → new.operation p ≡ old.operation p
    pub blocks : (b : Ptr BasicBlock) → new.block b ≡ old.block b
    pub regions : (r : Ptr Region) → new.region r ≡ old.region r
    pub types : KeepsKeys old.types new.types

module _ {O B : Type 0} where
  -- the payload of what a handle leads to: all that a dialect says of it, as its location, which `Seen` doesn't show
  abbrev pub operation_payload : Program O B → Ptr Operation → Option O
  operation_payload c p = option_map (λ (v : OperationView O). v.payload) (operation_at c p)

  abbrev pub block_payload : Program O B → Ptr BasicBlock → Option B
  block_payload c b = option_map (λ (v : BlockView B). v.payload) (block_at c b)

  -- what led to an operation or a block leads to one with the same payload
  pub record KeepsPayloads (old new : Program O B) : Type 0 where
    pub operations : (p : Ptr Operation) (o : O) → operation_payload old p ≡ Some o → operation_payload new p ≡ Some o
    pub blocks : (b : Ptr BasicBlock) (x : B) → block_payload old b ≡ Some x → block_payload new b ≡ Some x

  -- so does what the start shows
  pub record KeepsPayloadsOf {K A T : Type 0} (start : Seen K A T) (old new : Program O B) : Type 0 where
    pub operations : (p : Ptr Operation) → IsSome (start.operation p) →
        operation_payload new p ≡ operation_payload old p
    pub blocks : (b : Ptr BasicBlock) → IsSome (start.block b) → block_payload new b ≡ block_payload old b

-- n values more have got their numbers, a handle that was given out and leads nowhere leads nowhere still, and payloads
-- stay
pub record GivesNumbers {O B : Type 0} (old new : Program O B) (n : ℕ) : Type 0 where
  pub counter : new.counter ≡ old.counter + n
  pub erased : KeepsErased old new
  pub payloads : KeepsPayloads old new
