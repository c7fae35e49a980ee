-- What edits of uses do and answer.
use Rattle.std.specs.Prelude.{◌≡◌, ℕ, List, Option, Some, None, IsSome, Result, slice_get}
use Rattle.ir_program.specs.Program.{block_at, IsLiveValue}
use Rattle.ir_program.specs.Rows.{operands_at, successors_at}
use Rattle.ir_program.specs.Uses.{IsUseIn}
use Rattle.ir_program.specs.Among.{is_among}
use Rattle.ir_program.specs.declared.handles.Ptr.{Ptr}
use Rattle.ir_program.specs.declared.handles.Operation.{Operation}
use Rattle.ir_program.specs.declared.handles.BasicBlock.{BasicBlock}
use Rattle.ir_program.specs.declared.handles.Value.{Value}
use Rattle.ir_program.specs.declared.handles.Use.{Use}
use Rattle.ir_program.specs.RowEdits.{ReplacesOperand, ReplacesSuccessor}
use Rattle.ir_program.specs.UseEdits.{ReplacesValue, ReplacesChosen, RetargetsBlock, RetargetsChosen}
use Rattle.ir_core.specs.declared.edits.edit.PlaceAt.{PlaceAt}
use Rattle.ir_core.specs.edits.Naming.{operation_named, NameEach, IsListed}
use Rattle.ir_core.specs.edits.Same.{KeepsValuesAndTypes, IsSame}
use Rattle.ir_context.specs.Views.{ContextView}
use Rattle.ir_context.specs.declared.errors.CoreError.{CoreError}
use Rattle.ir_core.specs.declared.edits.edit.Entity.{Entity}
use Rattle.ir_core.specs.edits.Answered.{Answered}

-- in a row of each operation: the uses of x that stand in a list of places, where `made` is what earlier edits made
pub record AreListedUses {X : Type 0} (made : List (Option Entity)) (places : List PlaceAt) (rows : Ptr Operation → List X) (x : X) (us : List (Use X)) : Type 0 where
  pub sound : (k : ℕ) (u : Use X) → slice_get us k ≡ Some u → IsUseIn rows u × (u.def ≡ x) × IsListed made places u.user_op u.index
  pub all : (u : Use X) → IsUseIn rows u → u.def ≡ x → IsListed made places u.user_op u.index → (k : ℕ) × (slice_get us k ≡ Some u)

module _ {O B T : Type 0} where
  -- another value in place of each operand that is the value
  abbrev pub AnswersReplaceAllUsesWith : ContextView O B T → Value → Value → ContextView O B T → Result (Option Entity) CoreError → Type 0
  AnswersReplaceAllUsesWith c v w n r =
      Answered (IsLiveValue c.program v × IsLiveValue c.program w) ⊥ ⊥
      (λ e. (e ≡ None) × ReplacesValue c.program n.program v w × KeepsValuesAndTypes c n)
      (IsSame c n) r

  -- another value in place of the value, at one of its uses
  abbrev pub AnswersReplaceUseWith : ContextView O B T → Value → Ptr Operation → ℕ → Value → ContextView O B T → Result (Option Entity) CoreError → Type 0
  AnswersReplaceUseWith c v p i w n r =
      Answered ((slice_get (operands_at c.program p) i ≡ Some v) × IsLiveValue c.program w) ⊥ ⊥
      (λ e. (e ≡ None) × ReplacesOperand c.program n.program p i w × KeepsValuesAndTypes c n)
      (IsSame c n) r

  -- another value in place of the value, at those of its uses that stand in the list
  abbrev pub ReplacesSomeUses : ContextView O B T → Value → List (Option Entity) → List PlaceAt → Value → ContextView O B T → Result (Option Entity) CoreError → Type 0
  ReplacesSomeUses c v made places w n r =
      Answered (IsLiveValue c.program v × IsLiveValue c.program w × NameEach (λ (at : PlaceAt). operation_named made at.user_op) (λ _. Unit {0}) places) (Unit {0}) ⊥
      (λ e. (e ≡ None) × (us : List (Use Value)) × AreListedUses made places (operands_at c.program) v us × ReplacesChosen c.program n.program (is_among us) w × KeepsValuesAndTypes c n)
      (IsSame c n) r

  -- each edge to a block leads to another
  abbrev pub AnswersRetargetAllPredsTo : ContextView O B T → Ptr BasicBlock → Ptr BasicBlock → ContextView O B T → Result (Option Entity) CoreError → Type 0
  AnswersRetargetAllPredsTo c b other n r =
      Answered (IsSome (block_at c.program b) × IsSome (block_at c.program other)) ⊥ ⊥
      (λ e. (e ≡ None) × RetargetsBlock c.program n.program b other × KeepsValuesAndTypes c n)
      (IsSame c n) r

  -- the edge to a block at one place leads to another
  abbrev pub AnswersRetargetPredTo : ContextView O B T → Ptr BasicBlock → Ptr Operation → ℕ → Ptr BasicBlock → ContextView O B T → Result (Option Entity) CoreError → Type 0
  AnswersRetargetPredTo c b p i other n r =
      Answered ((slice_get (successors_at c.program p) i ≡ Some b) × IsSome (block_at c.program other)) ⊥ ⊥
      (λ e. (e ≡ None) × ReplacesSuccessor c.program n.program p i other × KeepsValuesAndTypes c n)
      (IsSame c n) r

  -- the edges to a block lead to another, those that stand in the list
  abbrev pub RetargetsSome : ContextView O B T → Ptr BasicBlock → List (Option Entity) → List PlaceAt → Ptr BasicBlock → ContextView O B T → Result (Option Entity) CoreError → Type 0
  RetargetsSome c b made places other n r =
      Answered (IsSome (block_at c.program b) × IsSome (block_at c.program other) × NameEach (λ (at : PlaceAt). operation_named made at.user_op) (λ _. Unit {0}) places) (Unit {0}) ⊥
      (λ e. (e ≡ None) × (us : List (Use (Ptr BasicBlock))) × AreListedUses made places (successors_at c.program) b us × RetargetsChosen c.program n.program (is_among us) other × KeepsValuesAndTypes c n)
      (IsSame c n) r
