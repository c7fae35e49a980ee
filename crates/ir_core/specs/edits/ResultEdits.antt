-- What edits of results do and answer.
use Rattle.std.specs.Prelude.{◌≡◌, ℕ, ◌<◌, ◌≤◌, ◌+◌, ◌-◌, ◌^◌, Option, Some, None, IsSome, IfSome, MatchOption, Result}
use Rattle.ir_base.specs.declared.types.TypeHandle.{TypeHandle}
use Rattle.ir_program.specs.Program.{operation_at, results_at, result_count, value_in}
use Rattle.ir_program.specs.Uses.{IsUsed}
use Rattle.ir_program.specs.Definers.{DefinesValue, ForgetsValue}
use Rattle.ir_program.specs.declared.handles.Ptr.{Ptr}
use Rattle.ir_program.specs.declared.handles.Operation.{Operation}
use Rattle.ir_program.specs.declared.handles.Value.{Value}
use Rattle.ir_program.specs.declared.handles.DefiningEntity.TheVariants.{Op}
use Rattle.ir_program.specs.ValueEdits.{PushesResult, InsertsResult, PopsResult, RemovesResult}
use Rattle.ir_context.specs.Known.{IsKnownIn}
use Rattle.ir_core.specs.declared.edits.edit.Entity.TheVariants.{Value as ValueEntity}
use Rattle.ir_core.specs.edits.Same.{IsSame}
use Rattle.ir_context.specs.Views.{ContextView}
use Rattle.ir_context.specs.declared.errors.CoreError.{CoreError}
use Rattle.ir_core.specs.declared.edits.edit.Entity.{Entity}
use Rattle.ir_core.specs.edits.Answered.{Answered}

-- `count` says how many types a table has
module _ {O B T : Type 0} (count : T → ℕ) where
  -- one result more, behind the others: a value that is given a number of its own
  abbrev pub AnswersPushResult : ContextView O B T → Ptr Operation → TypeHandle → ContextView O B T → Result (Option Entity) CoreError → Type 0
  AnswersPushResult c p ty n r =
      Answered (IsSome (operation_at c.program p) × IsKnownIn (count c.types) ty) (Unit {0}) (c.program.counter ≡ 2 ^ 64 - 1)
      (λ e. (v : Value) × (e ≡ Some (ValueEntity v)) × (v ≡ record { definer = Op p; number = c.program.counter }) × DefinesValue c.program n.program v ty × PushesResult c.program n.program p v ty × (n.program.counter ≡ c.program.counter + 1) × (n.types ≡ c.types))
      (IsSame c n) r

  -- without the last result, which no operation takes, if there is one
  abbrev pub AnswersPopResult : ContextView O B T → Ptr Operation → ContextView O B T → Result (Option Entity) CoreError → Type 0
  AnswersPopResult c p n r =
      Answered (IsSome (operation_at c.program p) × ((v : Value) → value_in (results_at c.program p) (result_count c.program p - 1) ≡ Some v → IsUsed c.program v → ⊥)) ⊥ ⊥
      (λ e. (e ≡ None) × MatchOption (value_in (results_at c.program p) (result_count c.program p - 1)) (n.program ≡ c.program) (λ v. PopsResult c.program n.program p × ForgetsValue c.program n.program v) × (n.program.counter ≡ c.program.counter) × (n.types ≡ c.types))
      (IsSame c n) r

  -- one result more, at an index: a value that is given a number of its own
  abbrev pub AnswersInsertResult : ContextView O B T → Ptr Operation → ℕ → TypeHandle → ContextView O B T → Result (Option Entity) CoreError → Type 0
  AnswersInsertResult c p i ty n r =
      Answered (IsSome (operation_at c.program p) × (i ≤ result_count c.program p) × IsKnownIn (count c.types) ty) (Unit {0}) (c.program.counter ≡ 2 ^ 64 - 1)
      (λ e. (v : Value) × (e ≡ Some (ValueEntity v)) × (v ≡ record { definer = Op p; number = c.program.counter }) × DefinesValue c.program n.program v ty × InsertsResult c.program n.program p i v ty × (n.program.counter ≡ c.program.counter + 1) × (n.types ≡ c.types))
      (IsSame c n) r

  -- without the result at an index, which no operation takes
  abbrev pub AnswersRemoveResult : ContextView O B T → Ptr Operation → ℕ → ContextView O B T → Result (Option Entity) CoreError → Type 0
  AnswersRemoveResult c p i n r =
      Answered (IsSome (operation_at c.program p) × (i < result_count c.program p) × ((v : Value) → value_in (results_at c.program p) i ≡ Some v → IsUsed c.program v → ⊥)) ⊥ ⊥
      (λ e. (e ≡ None) × RemovesResult c.program n.program p i × IfSome (value_in (results_at c.program p) i) (λ v. ForgetsValue c.program n.program v) × (n.program.counter ≡ c.program.counter) × (n.types ≡ c.types))
      (IsSame c n) r
