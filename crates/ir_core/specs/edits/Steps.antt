-- What an edit does and answers, and what a list of edits comes to.
use Rattle.std.specs.Prelude.{◌≡◌, ℕ, List, [], ◌∷◌, ◌++◌, Option, MatchOption, Result, Ok, Err, Vec, length}
use Rattle.ir_context.specs.Views.{ContextView}
use Rattle.ir_types.specs.Views.{TypesView}
use Rattle.ir_context.specs.declared.errors.CoreError.{CoreError}
use Rattle.ir_context.specs.declared.errors.CoreError.TheVariants.{EditNotAllowed}
use Rattle.ir_context.specs.declared.notes.OperationData.{OperationData}
use Rattle.ir_context.specs.declared.notes.BlockNotes.{BlockNotes}
use Rattle.ir_core.specs.declared.edits.edit.Entity.{Entity}
use Rattle.ir_core.specs.declared.edits.edit.Edit.{Edit}
use Rattle.ir_core.specs.declared.edits.edit.Edit.TheVariants as edit
use Rattle.ir_core.specs.declared.edits.direct_edit.DirectEdit.{DirectEdit}
use Rattle.ir_core.specs.declared.edits.direct_edit.DirectEdit.TheVariants as direct
use Rattle.ir_core.specs.edits.Naming.{block_named, value_named}
use Rattle.ir_core.specs.edits.Resolving.{resolved}
use Rattle.ir_core.specs.edits.Same.{IsSame}
use Rattle.ir_core.specs.edits.MakingEdits.{BuildsNewOperation, BuildsNewBlock}
use Rattle.ir_core.specs.edits.OperandEdits.{AnswersPushOperand, AnswersPopOperand, AnswersInsertOperand, AnswersRemoveOperand, AnswersReplaceOperand}
use Rattle.ir_core.specs.edits.SuccessorEdits.{AnswersPushSuccessor, AnswersPopSuccessor, AnswersInsertSuccessor, AnswersRemoveSuccessor, AnswersReplaceSuccessor}
use Rattle.ir_core.specs.edits.ResultEdits.{AnswersPushResult, AnswersPopResult, AnswersInsertResult, AnswersRemoveResult}
use Rattle.ir_core.specs.edits.ArgumentEdits.{AnswersPushArgument, AnswersPopArgument, AnswersInsertArgument, AnswersRemoveArgument}
use Rattle.ir_core.specs.edits.HolderEdits.{AnswersAddRegion, AnswersEraseRegion, AnswersEraseOperation, AnswersEraseBlock, AnswersDropAllUses, AnswersMoveRegionToOp}
use Rattle.ir_core.specs.edits.OperationListEdits.{AnswersInsertOperationAfter, AnswersInsertOperationBefore, AnswersInsertOperationAtFront, AnswersInsertOperationAtBack, AnswersUnlinkOperation, AnswersAppendOperations}
use Rattle.ir_core.specs.edits.BlockListEdits.{AnswersInsertBlockAfter, AnswersInsertBlockBefore, AnswersInsertBlockAtFront, AnswersInsertBlockAtBack, AnswersUnlinkBlock, AnswersAppendBlocks}
use Rattle.ir_core.specs.edits.UseEdits.{AnswersReplaceAllUsesWith, AnswersReplaceUseWith, ReplacesSomeUses, AnswersRetargetAllPredsTo, AnswersRetargetPredTo, RetargetsSome}

-- what is said of the entity that is named; where the name stands for nothing, the edit is refused and all is the same
abbrev pub IfNamed : {X O B T R : Type 0} → Option X → ContextView O B T → ContextView O B T → Result R CoreError → (X → Type 0) → Type 0
IfNamed x c n r P = MatchOption x ((r ≡ Err EditNotAllowed) × IsSame c n) P

-- the answer of a list of edits, with the list of what they made
abbrev pub listed : {Z E : Type 0} → Result (Vec (Option Entity) Z) E → Result (List (Option Entity)) E
listed (Ok made) = Ok made.items
listed (Err e) = Err e

-- `count` says how many types a table has
module _ {O B T : Type 0} (count : T → ℕ) where
  -- from the context c to n an edit of what is there answers r
  abbrev pub does : ContextView O B T → DirectEdit → ContextView O B T → Result (Option Entity) CoreError → Type 0
  does c (direct.PushResult p ty) n r = AnswersPushResult count c p ty n r
  does c (direct.PopResult p) n r = AnswersPopResult count c p n r
  does c (direct.InsertResult p i ty) n r = AnswersInsertResult count c p i ty n r
  does c (direct.RemoveResult p i) n r = AnswersRemoveResult count c p i n r
  does c (direct.PushArgument b ty) n r = AnswersPushArgument count c b ty n r
  does c (direct.PopArgument b) n r = AnswersPopArgument count c b n r
  does c (direct.InsertArgument b i ty) n r = AnswersInsertArgument count c b i ty n r
  does c (direct.RemoveArgument b i) n r = AnswersRemoveArgument count c b i n r
  does c (direct.PushOperand p v) n r = AnswersPushOperand c p v n r
  does c (direct.PopOperand p) n r = AnswersPopOperand c p n r
  does c (direct.InsertOperand p i v) n r = AnswersInsertOperand c p i v n r
  does c (direct.RemoveOperand p i) n r = AnswersRemoveOperand c p i n r
  does c (direct.ReplaceOperand p i v) n r = AnswersReplaceOperand c p i v n r
  does c (direct.PushSuccessor p b) n r = AnswersPushSuccessor c p b n r
  does c (direct.PopSuccessor p) n r = AnswersPopSuccessor c p n r
  does c (direct.InsertSuccessor p i b) n r = AnswersInsertSuccessor c p i b n r
  does c (direct.RemoveSuccessor p i) n r = AnswersRemoveSuccessor c p i n r
  does c (direct.ReplaceSuccessor p i b) n r = AnswersReplaceSuccessor c p i b n r
  does c (direct.AddRegion p) n r = AnswersAddRegion c p n r
  does c (direct.EraseRegion p i) n r = AnswersEraseRegion c p i n r
  does c (direct.EraseOperation p) n r = AnswersEraseOperation c p n r
  does c (direct.EraseBlock b) n r = AnswersEraseBlock c b n r
  does c (direct.MoveRegionToOp q p) n r = AnswersMoveRegionToOp c q p n r
  does c (direct.DropAllUses x) n r = AnswersDropAllUses c x n r
  does c (direct.InsertOperationAfter p m) n r = AnswersInsertOperationAfter c p m n r
  does c (direct.InsertOperationBefore p m) n r = AnswersInsertOperationBefore c p m n r
  does c (direct.InsertOperationAtFront p b) n r = AnswersInsertOperationAtFront c p b n r
  does c (direct.InsertOperationAtBack p b) n r = AnswersInsertOperationAtBack c p b n r
  does c (direct.UnlinkOperation p) n r = AnswersUnlinkOperation c p n r
  does c (direct.AppendOperations b to) n r = AnswersAppendOperations c b to n r
  does c (direct.InsertBlockAfter b to) n r = AnswersInsertBlockAfter c b to n r
  does c (direct.InsertBlockBefore b to) n r = AnswersInsertBlockBefore c b to n r
  does c (direct.InsertBlockAtFront b q) n r = AnswersInsertBlockAtFront c b q n r
  does c (direct.InsertBlockAtBack b q) n r = AnswersInsertBlockAtBack c b q n r
  does c (direct.UnlinkBlock b) n r = AnswersUnlinkBlock c b n r
  does c (direct.AppendBlocks q from) n r = AnswersAppendBlocks c q from n r
  does c (direct.ReplaceAllUsesWith v w) n r = AnswersReplaceAllUsesWith c v w n r
  does c (direct.ReplaceUseWith v p i w) n r = AnswersReplaceUseWith c v p i w n r
  does c (direct.RetargetAllPredsTo b to) n r = AnswersRetargetAllPredsTo c b to n r
  does c (direct.RetargetPredTo b p i to) n r = AnswersRetargetPredTo c b p i to n r

-- a dialect and its types
module _ {D TypeKind AttrKind TypeBody Saved Location OpKind Attr TypeKey K T S : Type 0} where
  -- from the context c to n an edit answers r, where `made` is what the edits before it made and `nowhere` is the location of what comes from no source: what its names stand for is found first, and then it is an edit of what is there
  abbrev pub step : Location
      → ContextView (OperationData D TypeKind AttrKind TypeBody Saved Location OpKind Attr TypeKey) (BlockNotes D TypeKind AttrKind TypeBody Saved Location OpKind Attr TypeKey) (TypesView K T S)
      → List (Option Entity) → Edit OpKind
      → ContextView (OperationData D TypeKind AttrKind TypeBody Saved Location OpKind Attr TypeKey) (BlockNotes D TypeKind AttrKind TypeBody Saved Location OpKind Attr TypeKey) (TypesView K T S)
      → Result (Option Entity) CoreError → Type 0
  step nowhere c made (edit.NewOperation kind result_types operands successors num_regions) n r = BuildsNewOperation nowhere c made kind result_types.items operands.items successors.items num_regions n r
  step nowhere c made (edit.NewBlock label argument_types) n r = BuildsNewBlock nowhere c label argument_types.items n r
  step nowhere c made (edit.RetargetSomePredsTo block places other) n r = IfNamed (block_named made block) c n r (λ b. IfNamed (block_named made other) c n r (λ to. RetargetsSome c b made places.items to n r))
  step nowhere c made (edit.ReplaceSomeUsesWith value places other) n r = IfNamed (value_named c.program made value) c n r (λ v. IfNamed (value_named c.program made other) c n r (λ w. ReplacesSomeUses c v made places.items w n r))
  step nowhere c made e n r = IfNamed (resolved c.program made e) c n r (λ d. does (λ types. length types.keys) c d n r)

  -- from the context c to n a list of edits answers so, where `made` is what the edits before it made: each edit is made in turn, up to the first that is refused, of which the number and the refusal are answered
  pub data RunsEdits (nowhere : Location) :
      ContextView (OperationData D TypeKind AttrKind TypeBody Saved Location OpKind Attr TypeKey) (BlockNotes D TypeKind AttrKind TypeBody Saved Location OpKind Attr TypeKey) (TypesView K T S)
      → List (Option Entity) → List (Edit OpKind)
      → ContextView (OperationData D TypeKind AttrKind TypeBody Saved Location OpKind Attr TypeKey) (BlockNotes D TypeKind AttrKind TypeBody Saved Location OpKind Attr TypeKey) (TypesView K T S)
      → Result (List (Option Entity)) (ℕ × CoreError) → Type 0 where
    ends : (c : _) (made : List (Option Entity)) → RunsEdits nowhere c made [] c (Ok made)
    goes_on : (c mid n : _) (made : List (Option Entity)) (e : Edit OpKind) (es : List (Edit OpKind)) (m : Option Entity) (answer : _) → step nowhere c made e mid (Ok m) → RunsEdits nowhere mid (made ++ m ∷ []) es n answer → RunsEdits nowhere c made (e ∷ es) n answer
    stops : (c n : _) (made : List (Option Entity)) (e : Edit OpKind) (es : List (Edit OpKind)) (refusal : CoreError) → step nowhere c made e n (Err refusal) → RunsEdits nowhere c made (e ∷ es) n (Err (length made, refusal))
