-- What edits of operands do and answer.
use Rattle.std.specs.Prelude.{◌≡◌, ℕ, ◌<◌, ◌≤◌, Option, None, IsSome, Result, length}
use Rattle.ir_program.specs.Program.{operation_at, IsLiveValue}
use Rattle.ir_program.specs.Rows.{operands_at}
use Rattle.ir_program.specs.declared.handles.Ptr.{Ptr}
use Rattle.ir_program.specs.declared.handles.Operation.{Operation}
use Rattle.ir_program.specs.declared.handles.Value.{Value}
use Rattle.ir_program.specs.RowEdits.{PushesOperand, InsertsOperand, RemovesOperand, ReplacesOperand, ChangesOperands}
use Rattle.ir_core.specs.edits.Same.{KeepsValuesAndTypes, IsSame, IsPopped}
use Rattle.ir_context.specs.Views.{ContextView}
use Rattle.ir_context.specs.declared.errors.CoreError.{CoreError}
use Rattle.ir_core.specs.declared.edits.edit.Entity.{Entity}
use Rattle.ir_core.specs.edits.Answered.{Answered}

module _ {O B T : Type 0} where
  -- one operand more, behind the others: of an operation that is there, by a value that stands at its definer
  abbrev pub AnswersPushOperand : ContextView O B T → Ptr Operation → Value → ContextView O B T → Result (Option Entity) CoreError → Type 0
  AnswersPushOperand c p v n r =
      Answered (IsSome (operation_at c.program p) × IsLiveValue c.program v) (Unit {0}) ⊥
      (λ e. (e ≡ None) × PushesOperand c.program n.program p v × KeepsValuesAndTypes c n)
      (IsSame c n) r

  -- without the last operand, if there is one
  abbrev pub AnswersPopOperand : ContextView O B T → Ptr Operation → ContextView O B T → Result (Option Entity) CoreError → Type 0
  AnswersPopOperand c p n r =
      Answered (IsSome (operation_at c.program p)) ⊥ ⊥
      (λ e. (e ≡ None) × ChangesOperands c.program n.program p × IsPopped (operands_at c.program p) (operands_at n.program p) × KeepsValuesAndTypes c n)
      (IsSame c n) r

  -- one operand more, at an index
  abbrev pub AnswersInsertOperand : ContextView O B T → Ptr Operation → ℕ → Value → ContextView O B T → Result (Option Entity) CoreError → Type 0
  AnswersInsertOperand c p i v n r =
      Answered (IsSome (operation_at c.program p) × (i ≤ length (operands_at c.program p)) × IsLiveValue c.program v) (Unit {0}) ⊥
      (λ e. (e ≡ None) × InsertsOperand c.program n.program p i v × KeepsValuesAndTypes c n)
      (IsSame c n) r

  -- without the operand at an index
  abbrev pub AnswersRemoveOperand : ContextView O B T → Ptr Operation → ℕ → ContextView O B T → Result (Option Entity) CoreError → Type 0
  AnswersRemoveOperand c p i n r =
      Answered (i < length (operands_at c.program p)) ⊥ ⊥
      (λ e. (e ≡ None) × RemovesOperand c.program n.program p i × KeepsValuesAndTypes c n)
      (IsSame c n) r

  -- another value in place of the operand at an index
  abbrev pub AnswersReplaceOperand : ContextView O B T → Ptr Operation → ℕ → Value → ContextView O B T → Result (Option Entity) CoreError → Type 0
  AnswersReplaceOperand c p i v n r =
      Answered ((i < length (operands_at c.program p)) × IsLiveValue c.program v) ⊥ ⊥
      (λ e. (e ≡ None) × ReplacesOperand c.program n.program p i v × KeepsValuesAndTypes c n)
      (IsSame c n) r
