-- What was erased stays erased, whatever edit is made, and whatever list of edits.
use Rattle.std.proofs.Common.{◌≡◌, ◌≢◌, ◌⊎◌, inl, inr, ℕ, List, [], ◌∷◌, ◌++◌, Option, Some, None, MatchOption, Result, Ok, Err, remove, ⊎_elim, sym, ap, ◌∙◌, subst, slice_get, length}
use Rattle.ir_program.specs.Program.{Program, OperationView, BlockView}
use Rattle.ir_program.specs.Edits.{KeepsErased, EditsOperation, EditsBlock, MovesRegion}
use Rattle.ir_program.specs.Lists.{regions_in, StandsInOperation}
use Rattle.ir_program.specs.declared.handles.Ptr.{Ptr}
use Rattle.ir_program.specs.declared.handles.Operation.{Operation}
use Rattle.ir_program.specs.declared.handles.Region.{Region}
use Rattle.ir_program.specs.declared.handles.BasicBlock.{BasicBlock}
use Rattle.ir_program.specs.declared.handles.Value.{Value}
use Rattle.ir_program.proofs.made.AddSteps.{kept-erased, erased-then}
use Rattle.ir_program.proofs.made.Alike.{key_or_not}
use Rattle.ir_program.proofs.made.Frames.{same_handle}
use Rattle.ir_context.specs.Views.{ContextView}
use Rattle.ir_types.specs.Views.{TypesView}
use Rattle.ir_context.specs.declared.errors.CoreError.{CoreError}
use Rattle.ir_context.specs.declared.notes.OperationData.{OperationData}
use Rattle.ir_context.specs.declared.notes.BlockNotes.{BlockNotes}
use Rattle.ir_core.specs.declared.edits.edit.Entity.{Entity}
use Rattle.ir_core.specs.declared.edits.edit.Edit.{Edit}
use Rattle.ir_core.specs.declared.edits.edit.Edit.TheVariants as edit
use Rattle.ir_core.specs.declared.edits.direct_edit.DirectEdit.{DirectEdit}
use Rattle.ir_core.specs.declared.edits.direct_edit.DirectEdit.TheVariants as direct
use Rattle.ir_core.specs.edits.Naming.{block_named, value_named}
use Rattle.ir_core.specs.edits.Resolving.{resolved}
use Rattle.ir_core.specs.edits.Answered.{Answered}
use Rattle.ir_core.specs.edits.Same.{IsSame}
use Rattle.ir_core.specs.edits.Steps.{IfNamed, does, step, RunsEdits, ends, goes_on, stops}

-- operations are the same or not
same_operation : (p q : Ptr Operation) → (p ≡ q) ⊎ (p ≢ q)
same_operation p q = ⊎_elim (λ e. inl (same_handle p q e)) (λ ne. inr (λ h. ne (ap (λ (x : Ptr Operation). x.key) h))) (key_or_not p.key q.key)

-- a region that moves to an operation
pub moved_erased : {O B : Type 0} (c n : Program O B) (q : Ptr Region) (p from : Ptr Operation) → StandsInOperation c q from
    → ((from : Ptr Operation) (k : ℕ) → slice_get (regions_in c from) k ≡ Some q → from ≢ p → MovesRegion c n q from k p)
    → ((k : ℕ) → slice_get (regions_in c p) k ≡ Some q → EditsOperation c n p (λ (o : OperationView O). record o { regions = remove o.regions k ++ q ∷ [] }))
    → KeepsErased c n
moved_erased c n q p from stands elsewhere within = ⊎_elim
    (λ (same : from ≡ p). (within stands.index (ap (λ x. slice_get (regions_in c x) stands.index) (sym same) ∙ stands.here)).erased)
    (λ ne. (elsewhere from stands.index stands.here ne).erased)
    (same_operation from p)

module _ {O B T : Type 0} (c n : ContextView O B T) where
  -- an edit of what a name stands for
  named_kept : {X R : Type 0} (x : Option X) (r : Result R CoreError) (P : X → Type 0) → IfNamed x c n r P → ((y : X) → P y → KeepsErased c.program n.program) → KeepsErased c.program n.program
  named_kept None r P h kept = h.1.program.erased
  named_kept (Some y) r P h kept = kept y h

  -- an edit that was made, or refused
  answered_kept : {R : Type 0} (r : Result R CoreError) (may asks full : Type 0) (done : R → Type 0) → Answered may asks full done (IsSame c n) r → (may → (v : R) → done v → KeepsErased c.program n.program) → KeepsErased c.program n.program
  answered_kept (Ok v) may asks full done h kept = kept h.0 v h.1
  answered_kept (Err e) may asks full done h kept = h.1.program.erased

  -- where a value went, if there was one
  popped_operation : (o : Option Value) (p : Ptr Operation) (f : OperationView O → OperationView O) (F : Value → Type 0) → MatchOption o (n.program ≡ c.program) (λ v. EditsOperation c.program n.program p f × F v) → KeepsErased c.program n.program
  popped_operation None p f F same = subst (KeepsErased c.program) (sym same) (kept-erased c.program)
  popped_operation (Some v) p f F h = h.0.erased

  popped_block : (o : Option Value) (b : Ptr BasicBlock) (f : BlockView B → BlockView B) (F : Value → Type 0) → MatchOption o (n.program ≡ c.program) (λ v. EditsBlock c.program n.program b f × F v) → KeepsErased c.program n.program
  popped_block None b f F same = subst (KeepsErased c.program) (sym same) (kept-erased c.program)
  popped_block (Some v) b f F h = h.0.erased

  -- an edit of what is there
  does_kept : (count : T → ℕ) (d : DirectEdit) (r : Result (Option Entity) CoreError) → does count c d n r → KeepsErased c.program n.program
  does_kept count (direct.PushResult p ty) r h = answered_kept r _ _ _ _ h (λ m v d. d.4.erased)
  does_kept count (direct.PopResult p) r h = answered_kept r _ _ _ _ h (λ m v d. popped_operation _ _ _ _ d.1)
  does_kept count (direct.InsertResult p i ty) r h = answered_kept r _ _ _ _ h (λ m v d. d.4.erased)
  does_kept count (direct.RemoveResult p i) r h = answered_kept r _ _ _ _ h (λ m v d. d.1.erased)
  does_kept count (direct.PushArgument b ty) r h = answered_kept r _ _ _ _ h (λ m v d. d.4.erased)
  does_kept count (direct.PopArgument b) r h = answered_kept r _ _ _ _ h (λ m v d. popped_block _ _ _ _ d.1)
  does_kept count (direct.InsertArgument b i ty) r h = answered_kept r _ _ _ _ h (λ m v d. d.4.erased)
  does_kept count (direct.RemoveArgument b i) r h = answered_kept r _ _ _ _ h (λ m v d. d.1.erased)
  does_kept count (direct.PushOperand p v) r h = answered_kept r _ _ _ _ h (λ m v d. d.1.erased)
  does_kept count (direct.PopOperand p) r h = answered_kept r _ _ _ _ h (λ m v d. d.1.erased)
  does_kept count (direct.InsertOperand p i v) r h = answered_kept r _ _ _ _ h (λ m v d. d.1.erased)
  does_kept count (direct.RemoveOperand p i) r h = answered_kept r _ _ _ _ h (λ m v d. d.1.erased)
  does_kept count (direct.ReplaceOperand p i v) r h = answered_kept r _ _ _ _ h (λ m v d. d.1.erased)
  does_kept count (direct.PushSuccessor p b) r h = answered_kept r _ _ _ _ h (λ m v d. d.1.erased)
  does_kept count (direct.PopSuccessor p) r h = answered_kept r _ _ _ _ h (λ m v d. d.1.erased)
  does_kept count (direct.InsertSuccessor p i b) r h = answered_kept r _ _ _ _ h (λ m v d. d.1.erased)
  does_kept count (direct.RemoveSuccessor p i) r h = answered_kept r _ _ _ _ h (λ m v d. d.1.erased)
  does_kept count (direct.ReplaceSuccessor p i b) r h = answered_kept r _ _ _ _ h (λ m v d. d.1.erased)
  does_kept count (direct.AddRegion p) r h = answered_kept r _ _ _ _ h (λ m v d. d.2.erased)
  does_kept count (direct.EraseRegion p i) r h = answered_kept r _ _ _ _ h (λ m v d. (d.1 m.0 m.1).erased)
  does_kept count (direct.EraseOperation p) r h = answered_kept r _ _ _ _ h (λ m v d. d.1.erased)
  does_kept count (direct.EraseBlock b) r h = answered_kept r _ _ _ _ h (λ m v d. d.1.erased)
  does_kept count (direct.MoveRegionToOp q p) r h = answered_kept r _ _ _ _ h (λ m v d. d.3)
  does_kept count (direct.DropAllUses x) r h = answered_kept r _ _ _ _ h (λ m v d. d.1.erased)
  does_kept count (direct.InsertOperationAfter p m) r h = answered_kept r _ _ _ _ h (λ m v d. (d.1 m.2.0 m.2.1.index m.2.1.here).erased)
  does_kept count (direct.InsertOperationBefore p m) r h = answered_kept r _ _ _ _ h (λ m v d. (d.1 m.2.0 m.2.1.index m.2.1.here).erased)
  does_kept count (direct.InsertOperationAtFront p b) r h = answered_kept r _ _ _ _ h (λ m v d. d.1.erased)
  does_kept count (direct.InsertOperationAtBack p b) r h = answered_kept r _ _ _ _ h (λ m v d. d.1.erased)
  does_kept count (direct.UnlinkOperation p) r h = answered_kept r _ _ _ _ h (λ m v d. (d.1 m.0 m.1.index m.1.here).erased)
  does_kept count (direct.AppendOperations b to) r h = answered_kept r _ _ _ _ h (λ m v d. d.1.erased)
  does_kept count (direct.InsertBlockAfter b to) r h = answered_kept r _ _ _ _ h (λ m v d. (d.1 m.2.0 m.2.1.index m.2.1.here).erased)
  does_kept count (direct.InsertBlockBefore b to) r h = answered_kept r _ _ _ _ h (λ m v d. (d.1 m.2.0 m.2.1.index m.2.1.here).erased)
  does_kept count (direct.InsertBlockAtFront b q) r h = answered_kept r _ _ _ _ h (λ m v d. d.1.erased)
  does_kept count (direct.InsertBlockAtBack b q) r h = answered_kept r _ _ _ _ h (λ m v d. d.1.erased)
  does_kept count (direct.UnlinkBlock b) r h = answered_kept r _ _ _ _ h (λ m v d. (d.1 m.0 m.1.index m.1.here).erased)
  does_kept count (direct.AppendBlocks q from) r h = answered_kept r _ _ _ _ h (λ m v d. d.1.erased)
  does_kept count (direct.ReplaceAllUsesWith v w) r h = answered_kept r _ _ _ _ h (λ m v d. d.1.erased)
  does_kept count (direct.ReplaceUseWith v p i w) r h = answered_kept r _ _ _ _ h (λ m v d. d.1.erased)
  does_kept count (direct.RetargetAllPredsTo b to) r h = answered_kept r _ _ _ _ h (λ m v d. d.1.erased)
  does_kept count (direct.RetargetPredTo b p i to) r h = answered_kept r _ _ _ _ h (λ m v d. d.1.erased)

-- a dialect and its types
module _ {D TypeKind AttrKind TypeBody Saved Location OpKind Attr TypeKey K T S : Type 0} (nowhere : Location) where
  -- any edit
  step_kept : (c : ContextView (OperationData D TypeKind AttrKind TypeBody Saved Location OpKind Attr TypeKey) (BlockNotes D TypeKind AttrKind TypeBody Saved Location OpKind Attr TypeKey) (TypesView K T S)) (made : List (Option Entity)) (e : Edit OpKind)
      (n : ContextView (OperationData D TypeKind AttrKind TypeBody Saved Location OpKind Attr TypeKey) (BlockNotes D TypeKind AttrKind TypeBody Saved Location OpKind Attr TypeKey) (TypesView K T S)) (r : Result (Option Entity) CoreError)
      → step nowhere c made e n r → KeepsErased c.program n.program
  step_kept c made (edit.NewOperation kind result_types operands successors num_regions) n r h = answered_kept c n r _ _ _ _ h (λ m v d. d.6.erased)
  step_kept c made (edit.NewBlock label argument_types) n r h = answered_kept c n r _ _ _ _ h (λ m v d. d.4.erased)
  step_kept c made (edit.RetargetSomePredsTo block places other) n r h = named_kept c n (block_named made block) r _ h (λ x1 h1. named_kept c n (block_named made other) r _ h1 (λ x2 h2. answered_kept c n r _ _ _ _ h2 (λ m v d. d.3.erased)))
  step_kept c made (edit.ReplaceSomeUsesWith value places other) n r h = named_kept c n (value_named c.program made value) r _ h (λ x1 h1. named_kept c n (value_named c.program made other) r _ h1 (λ x2 h2. answered_kept c n r _ _ _ _ h2 (λ m v d. d.3.erased)))
  step_kept c made e n r h = named_kept c n (resolved c.program made e) r _ h (λ d h1. does_kept c n (λ types. length types.keys) d r h1)

  -- a list of edits
  pub runs_kept : (c : ContextView (OperationData D TypeKind AttrKind TypeBody Saved Location OpKind Attr TypeKey) (BlockNotes D TypeKind AttrKind TypeBody Saved Location OpKind Attr TypeKey) (TypesView K T S)) (made : List (Option Entity)) (es : List (Edit OpKind))
      (n : ContextView (OperationData D TypeKind AttrKind TypeBody Saved Location OpKind Attr TypeKey) (BlockNotes D TypeKind AttrKind TypeBody Saved Location OpKind Attr TypeKey) (TypesView K T S)) (answer : Result (List (Option Entity)) (ℕ × CoreError))
      → RunsEdits nowhere c made es n answer → KeepsErased c.program n.program
  runs_kept c made [] _ _ (ends _ _) = kept-erased c.program
  runs_kept c made (e ∷ es) n answer (goes_on _ mid _ _ _ _ m _ s rest) = erased-then c.program mid.program n.program (step_kept c made e mid (Ok m) s) (runs_kept mid (made ++ m ∷ []) es n answer rest)
  runs_kept c made (e ∷ es) n _ (stops _ _ _ _ _ refusal s) = step_kept c made e n (Err refusal) s
