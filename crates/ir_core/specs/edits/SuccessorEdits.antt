-- What edits of successors do and answer.
use Rattle.std.specs.Prelude.{◌≡◌, ℕ, ◌<◌, ◌≤◌, Option, None, IsSome, Result, length}
use Rattle.ir_program.specs.Program.{operation_at, block_at}
use Rattle.ir_program.specs.Rows.{successors_at}
use Rattle.ir_program.specs.declared.handles.Ptr.{Ptr}
use Rattle.ir_program.specs.declared.handles.Operation.{Operation}
use Rattle.ir_program.specs.declared.handles.BasicBlock.{BasicBlock}
use Rattle.ir_program.specs.RowEdits.{PushesSuccessor, InsertsSuccessor, RemovesSuccessor, ReplacesSuccessor, ChangesSuccessors}
use Rattle.ir_core.specs.edits.Same.{KeepsValuesAndTypes, IsSame, IsPopped}
use Rattle.ir_context.specs.Views.{ContextView}
use Rattle.ir_context.specs.declared.errors.CoreError.{CoreError}
use Rattle.ir_core.specs.declared.edits.edit.Entity.{Entity}
use Rattle.ir_core.specs.edits.Answered.{Answered}

module _ {O B T : Type 0} where
  -- one successor more, behind the others: of an operation that is there, to a block that is there
  abbrev pub AnswersPushSuccessor : ContextView O B T → Ptr Operation → Ptr BasicBlock → ContextView O B T → Result (Option Entity) CoreError → Type 0
  AnswersPushSuccessor c p b n r =
      Answered (IsSome (operation_at c.program p) × IsSome (block_at c.program b)) (Unit {0}) ⊥
      (λ e. (e ≡ None) × PushesSuccessor c.program n.program p b × KeepsValuesAndTypes c n)
      (IsSame c n) r

  -- without the last successor, if there is one
  abbrev pub AnswersPopSuccessor : ContextView O B T → Ptr Operation → ContextView O B T → Result (Option Entity) CoreError → Type 0
  AnswersPopSuccessor c p n r =
      Answered (IsSome (operation_at c.program p)) ⊥ ⊥
      (λ e. (e ≡ None) × ChangesSuccessors c.program n.program p × IsPopped (successors_at c.program p) (successors_at n.program p) × KeepsValuesAndTypes c n)
      (IsSame c n) r

  -- one successor more, at an index
  abbrev pub AnswersInsertSuccessor : ContextView O B T → Ptr Operation → ℕ → Ptr BasicBlock → ContextView O B T → Result (Option Entity) CoreError → Type 0
  AnswersInsertSuccessor c p i b n r =
      Answered (IsSome (operation_at c.program p) × (i ≤ length (successors_at c.program p)) × IsSome (block_at c.program b)) (Unit {0}) ⊥
      (λ e. (e ≡ None) × InsertsSuccessor c.program n.program p i b × KeepsValuesAndTypes c n)
      (IsSame c n) r

  -- without the successor at an index
  abbrev pub AnswersRemoveSuccessor : ContextView O B T → Ptr Operation → ℕ → ContextView O B T → Result (Option Entity) CoreError → Type 0
  AnswersRemoveSuccessor c p i n r =
      Answered (i < length (successors_at c.program p)) ⊥ ⊥
      (λ e. (e ≡ None) × RemovesSuccessor c.program n.program p i × KeepsValuesAndTypes c n)
      (IsSame c n) r

  -- another block in place of the successor at an index
  abbrev pub AnswersReplaceSuccessor : ContextView O B T → Ptr Operation → ℕ → Ptr BasicBlock → ContextView O B T → Result (Option Entity) CoreError → Type 0
  AnswersReplaceSuccessor c p i b n r =
      Answered ((i < length (successors_at c.program p)) × IsSome (block_at c.program b)) ⊥ ⊥
      (λ e. (e ≡ None) × ReplacesSuccessor c.program n.program p i b × KeepsValuesAndTypes c n)
      (IsSame c n) r
