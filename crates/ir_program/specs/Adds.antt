-- What adding several results, arguments, operands or successors at once makes.
use Rattle.std.specs.Prelude.{◌≡◌, ◌≢◌, ℕ, suc, ◌<◌, ◌+◌, List, [], ◌∷◌, ◌++◌, Some, IsSome, length, take, slice_get}
use Rattle.ir_base.specs.declared.types.TypeHandle.{TypeHandle}
use Rattle.ir_program.specs.Program.{Program, TypedValue, OperationView, BlockView, block_at, type_at, IsLiveValue}
use Rattle.ir_program.specs.Edits.{EditsOperation, EditsBlock}
use Rattle.ir_program.specs.declared.handles.Ptr.{Ptr}
use Rattle.ir_program.specs.declared.handles.Operation.{Operation}
use Rattle.ir_program.specs.declared.handles.BasicBlock.{BasicBlock}
use Rattle.ir_program.specs.declared.handles.Value.{Value}
use Rattle.ir_program.specs.declared.handles.DefiningEntity.{DefiningEntity}
use Rattle.ir_program.specs.declared.handles.DefiningEntity.TheVariants.{Op as ByOp, Block as ByBlock}

-- values of a definer, one of each of these types in order, with the numbers n, n + 1 and so on
abbrev pub numbered_values : DefiningEntity → ℕ → List TypeHandle → List TypedValue
numbered_values e n [] = []
numbered_values e n (ty ∷ tys) = record { value = record { definer = e; number = n }; ty = ty } ∷ numbered_values e (suc n) tys

module _ {O B : Type 0} where
  -- each of the values stands at its definer
  abbrev pub AreLiveValues : Program O B → List Value → Type 0
  AreLiveValues c vs = (k : ℕ) (v : Value) → slice_get vs k ≡ Some v → IsLiveValue c v

  -- each of the handles leads to a block
  abbrev pub AreLiveBlocks : Program O B → List (Ptr BasicBlock) → Type 0
  AreLiveBlocks c bs = (k : ℕ) (b : Ptr BasicBlock) → slice_get bs k ≡ Some b → IsSome (block_at c b)

  -- operation p has results of these types more, behind its others and numbered from the counter on; nothing else changes
  pub record AddsResults (old new : Program O B) (p : Ptr Operation) (tys : List TypeHandle) : Type 0 where
    pub edited : EditsOperation old new p (λ (o : OperationView O). record o { results = o.results ++ numbered_values (ByOp p) old.counter tys })
    pub others : (v : Value) → v.definer ≢ ByOp p → type_at new v ≡ type_at old v
    pub earlier : (v : Value) → v.number < old.counter → type_at new v ≡ type_at old v
    pub counter : new.counter ≡ old.counter + length tys

  -- block p has arguments of these types more, behind its others and numbered from the counter on; nothing else changes
  pub record AddsArguments (old new : Program O B) (p : Ptr BasicBlock) (tys : List TypeHandle) : Type 0 where
    pub edited : EditsBlock old new p (λ (b : BlockView B). record b { arguments = b.arguments ++ numbered_values (ByBlock p) old.counter tys })
    pub others : (v : Value) → v.definer ≢ ByBlock p → type_at new v ≡ type_at old v
    pub earlier : (v : Value) → v.number < old.counter → type_at new v ≡ type_at old v
    pub counter : new.counter ≡ old.counter + length tys

  -- operation p takes these values more, behind its other operands; nothing else changes
  pub record AddsOperands (old new : Program O B) (p : Ptr Operation) (vs : List Value) : Type 0 where
    pub edited : EditsOperation old new p (λ (o : OperationView O). record o { operands = o.operands ++ vs })
    pub types : (v : Value) → type_at new v ≡ type_at old v
    pub counter : new.counter ≡ old.counter

  -- operation p may go on to these blocks too, behind its other successors; nothing else changes
  pub record AddsSuccessors (old new : Program O B) (p : Ptr Operation) (bs : List (Ptr BasicBlock)) : Type 0 where
    pub edited : EditsOperation old new p (λ (o : OperationView O). record o { successors = o.successors ++ bs })
    pub types : (v : Value) → type_at new v ≡ type_at old v
    pub counter : new.counter ≡ old.counter

-- some of the list came, from the first on, but not all
abbrev pub SomeCame : {X : Type 0} → List X → (List X → Type 0) → Type 0
SomeCame xs Came = (n : ℕ) × (n < length xs) × Came (take n xs)
