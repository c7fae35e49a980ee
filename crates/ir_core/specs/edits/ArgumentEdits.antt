-- What edits of arguments do and answer.
use Rattle.std.specs.Prelude.{◌≡◌, ℕ, ◌<◌, ◌≤◌, ◌+◌, ◌-◌, ◌^◌, Option, Some, None, IsSome, IfSome, MatchOption, Result}
use Rattle.ir_base.specs.declared.types.TypeHandle.{TypeHandle}
use Rattle.ir_program.specs.Program.{block_at, arguments_at, argument_count, value_in}
use Rattle.ir_program.specs.Uses.{IsUsed}
use Rattle.ir_program.specs.Definers.{DefinesValue, ForgetsValue}
use Rattle.ir_program.specs.declared.handles.Ptr.{Ptr}
use Rattle.ir_program.specs.declared.handles.BasicBlock.{BasicBlock}
use Rattle.ir_program.specs.declared.handles.Value.{Value}
use Rattle.ir_program.specs.declared.handles.DefiningEntity.TheVariants.{Block}
use Rattle.ir_program.specs.ValueEdits.{PushesArgument, InsertsArgument, PopsArgument, RemovesArgument}
use Rattle.ir_context.specs.Known.{IsKnownIn}
use Rattle.ir_core.specs.declared.edits.edit.Entity.TheVariants.{Value as ValueEntity}
use Rattle.ir_core.specs.edits.Same.{IsSame}
use Rattle.ir_context.specs.Views.{ContextView}
use Rattle.ir_context.specs.declared.errors.CoreError.{CoreError}
use Rattle.ir_core.specs.declared.edits.edit.Entity.{Entity}
use Rattle.ir_core.specs.edits.Answered.{Answered}

-- `count` says how many types a table has
module _ {O B T : Type 0} (count : T → ℕ) where
  -- one argument more, behind the others: a value that is given a number of its own
  abbrev pub AnswersPushArgument : ContextView O B T → Ptr BasicBlock → TypeHandle → ContextView O B T → Result (Option Entity) CoreError → Type 0
  AnswersPushArgument c b ty n r =
      Answered (IsSome (block_at c.program b) × IsKnownIn (count c.types) ty) (Unit {0}) (c.program.counter ≡ 2 ^ 64 - 1)
      (λ e. (v : Value) × (e ≡ Some (ValueEntity v)) × (v ≡ record { definer = Block b; number = c.program.counter }) × DefinesValue c.program n.program v ty × PushesArgument c.program n.program b v ty × (n.program.counter ≡ c.program.counter + 1) × (n.types ≡ c.types))
      (IsSame c n) r

  -- without the last argument, which no operation takes, if there is one
  abbrev pub AnswersPopArgument : ContextView O B T → Ptr BasicBlock → ContextView O B T → Result (Option Entity) CoreError → Type 0
  AnswersPopArgument c b n r =
      Answered (IsSome (block_at c.program b) × ((v : Value) → value_in (arguments_at c.program b) (argument_count c.program b - 1) ≡ Some v → IsUsed c.program v → ⊥)) ⊥ ⊥
      (λ e. (e ≡ None) × MatchOption (value_in (arguments_at c.program b) (argument_count c.program b - 1)) (n.program ≡ c.program) (λ v. PopsArgument c.program n.program b × ForgetsValue c.program n.program v) × (n.program.counter ≡ c.program.counter) × (n.types ≡ c.types))
      (IsSame c n) r

  -- one argument more, at an index: a value that is given a number of its own
  abbrev pub AnswersInsertArgument : ContextView O B T → Ptr BasicBlock → ℕ → TypeHandle → ContextView O B T → Result (Option Entity) CoreError → Type 0
  AnswersInsertArgument c b i ty n r =
      Answered (IsSome (block_at c.program b) × (i ≤ argument_count c.program b) × IsKnownIn (count c.types) ty) (Unit {0}) (c.program.counter ≡ 2 ^ 64 - 1)
      (λ e. (v : Value) × (e ≡ Some (ValueEntity v)) × (v ≡ record { definer = Block b; number = c.program.counter }) × DefinesValue c.program n.program v ty × InsertsArgument c.program n.program b i v ty × (n.program.counter ≡ c.program.counter + 1) × (n.types ≡ c.types))
      (IsSame c n) r

  -- without the argument at an index, which no operation takes
  abbrev pub AnswersRemoveArgument : ContextView O B T → Ptr BasicBlock → ℕ → ContextView O B T → Result (Option Entity) CoreError → Type 0
  AnswersRemoveArgument c b i n r =
      Answered (IsSome (block_at c.program b) × (i < argument_count c.program b) × ((v : Value) → value_in (arguments_at c.program b) i ≡ Some v → IsUsed c.program v → ⊥)) ⊥ ⊥
      (λ e. (e ≡ None) × RemovesArgument c.program n.program b i × IfSome (value_in (arguments_at c.program b) i) (λ v. ForgetsValue c.program n.program v) × (n.program.counter ≡ c.program.counter) × (n.types ≡ c.types))
      (IsSame c n) r
