-- Places that are there still after an operation was taken out of its block.
use Rattle.std.proofs.Common.{◌≡◌, ◌≢◌, ⊎_elim, ℕ, zero, suc, List, [], ◌∷◌, Option, Some, None, refl, sym, ap, ◌∙◌, subst}
use Rattle.std.specs.Prelude.{slice_get, option_map, unwrap_or, IsSome}
use Rattle.std.specs.List.{remove}
use Rattle.ir_program.specs.Edits.{EditsBlock}
use Rattle.ir_program.specs.ListEdits.{TakesOutOperation}
use Rattle.ir_program.specs.Lists.{IsLinkedOperation, StandsInBlock, StandsInside, itself, operations_in}
use Rattle.ir_program.specs.Program.{Program, BlockView, operation_at, block_at}
use Rattle.ir_program.specs.declared.handles.IRNode.TheVariants.{Operation as OperationNode}
use Rattle.ir_program.specs.declared.handles.BasicBlock.{BasicBlock}
use Rattle.ir_program.specs.declared.handles.Operation.{Operation}
use Rattle.ir_program.specs.declared.handles.Ptr.{Ptr}
use Rattle.ir_program.proofs.made.Frames.{same_or_not}
use Rattle.ir_opts.specs.rewriting.Points.{PointIsIn, PointIsThere}
use Rattle.ir_opts.specs.declared.rewriting.point.OpInsertionPoint.{OpInsertionPoint}
use Rattle.ir_opts.specs.declared.rewriting.point.OpInsertionPoint.TheVariants.{Unset, AtBlockStart, AtBlockEnd, BeforeOperation, AfterOperation}

no_some : {X : Type 0} {Y : Type 0} (x : X) → None ≡ Some x → Y
no_some x e = cc

same_some : {X : Type 0} (x y : X) → Some x ≡ Some y → x ≡ y
same_some x y e = cc

-- what is in a list, and isn't what is taken out of it, is in it still
still_listed : {X : Type 0} (xs : List X) (k j : ℕ) (p m : X) → slice_get xs k ≡ Some p → slice_get xs j ≡ Some m → m ≢ p → (i : ℕ) × (slice_get (remove xs k) i ≡ Some m)
still_listed [] k j p m a b n = no_some p a
still_listed (x ∷ xs) zero zero p m a b n = absurd (n (same_some m p (sym b ∙ a)))
still_listed (x ∷ xs) zero (suc j) p m a b n = (j, b)
still_listed (x ∷ xs) (suc k) zero p m a b n = (0, b)
still_listed (x ∷ xs) (suc k) (suc j) p m a b n = let r = still_listed xs k j p m a b n in (suc r.0, r.1)

module _ {O B : Type 0} (old new : Program O B) (op : Ptr Operation) (at : IsLinkedOperation old op) (out : TakesOutOperation old new op) where
  edit : EditsBlock old new at.0 (λ (v : BlockView B). record v { operations = remove v.operations at.1.index })
  edit = out at.0 at.1.index at.1.here

  same_operation : (p : Ptr Operation) → IsSome (operation_at old p) → IsSome (operation_at new p)
  same_operation p h = subst IsSome (sym (edit.operations p)) h

  edited : (o : Option (BlockView B)) → IsSome o → IsSome (option_map (λ (v : BlockView B). record v { operations = remove v.operations at.1.index }) o)
  edited None h = h
  edited (Some v) h = h

  same_block : (b : Ptr BasicBlock) → IsSome (block_at old b) → IsSome (block_at new b)
  same_block b h =
      ⊎_elim
      (λ (e : b ≡ at.0). subst (λ x. IsSome (block_at new x)) (sym e) (subst IsSome (sym edit.edited) (edited (block_at old at.0) at.1.block)))
      (λ (n : b ≢ at.0). subst IsSome (sym (edit.others b n)) h)
      (same_or_not b at.0)

  lists : (o : Option (BlockView B)) (k : ℕ) → unwrap_or (option_map (λ (v : BlockView B). v.operations) (option_map (λ (v : BlockView B). record v { operations = remove v.operations k }) o)) [] ≡ remove (unwrap_or (option_map (λ (v : BlockView B). v.operations) o) []) k
  lists None zero = refl
  lists None (suc k) = refl
  lists (Some v) k = refl

  still_in : (p : Ptr Operation) (b : Ptr BasicBlock) → p ≢ op → StandsInBlock old p b → IsLinkedOperation new p
  still_in p b other h =
      ⊎_elim
      (λ (e : b ≡ at.0).
      let here : slice_get (operations_in old at.0) h.index ≡ Some p = subst (λ x. slice_get (operations_in old x) h.index ≡ Some p) e h.here in
      let r = still_listed (operations_in old at.0) at.1.index h.index op p at.1.here here other in
      let l : operations_in new at.0 ≡ remove (operations_in old at.0) at.1.index = ap (λ o. unwrap_or (option_map (λ (v : BlockView B). v.operations) o) []) edit.edited ∙ lists (block_at old at.0) at.1.index in
      (at.0, record { operation = same_operation p h.operation; block = same_block at.0 at.1.block; index = r.0; here = ap (λ xs. slice_get xs r.0) l ∙ r.1 }))
      (λ (n : b ≢ at.0).
      (b, record { operation = same_operation p h.operation; block = same_block b h.block; index = h.index; here = ap (λ o. slice_get (unwrap_or (option_map (λ (v : BlockView B). v.operations) o) []) h.index) (edit.others b n) ∙ h.here }))
      (same_or_not b at.0)

  other_than : (p : Ptr Operation) → (StandsInside old (OperationNode op) (OperationNode p) → ⊥) → p ≢ op
  other_than p h e = h (subst (λ x. StandsInside old (OperationNode op) (OperationNode x)) (sym e) itself)

  pub still_place : (p : OpInsertionPoint) → PointIsThere old p → (PointIsIn old (OperationNode op) p → ⊥) → PointIsThere new p
  still_place Unset h n = h
  still_place (AtBlockStart b) h n = same_block b h
  still_place (AtBlockEnd b) h n = same_block b h
  still_place (BeforeOperation p) h n = still_in p h.0 (other_than p n) h.1
  still_place (AfterOperation p) h n = still_in p h.0 (other_than p n) h.1
