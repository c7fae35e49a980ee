use Rattle.std.proofs.Common.{rules, ◌≡◌, ℕ, Some, List, slice_get, ◌<◌, length, arith, subst}
use Rattle.std.proofs.lemmas.Option.{slice_get-get_or, slice_get_within}
use Rattle.ir_program.specs.Program.{Program}
use Rattle.ir_program.specs.Lists.{IsLinkedOperation}
use Rattle.ir_program.specs.declared.handles.Ptr.{Ptr}
use Rattle.ir_program.specs.declared.handles.BasicBlock.{BasicBlock}
use Rattle.ir_program.specs.declared.handles.Use.{Use}
use Rattle.ir_scripts.proofs.edges.are_linked.Goals as goal
use lib.ListN.{get_or}
use borrow.Author.Count.{below_more}

-- the operation of the place that is read is linked, and so is that of the use that stands there
linked-at : {O B : Type 0} (c : Program O B) (us : List (Use (Ptr BasicBlock))) (i : ℕ) (d : Use (Ptr BasicBlock)) → i < length us → IsLinkedOperation c (get_or us i d).user_op → (u : Use (Ptr BasicBlock)) → slice_get us i ≡ Some u → IsLinkedOperation c u.user_op
linked-at c us i d lt here u e =
    let s : slice_get us i ≡ Some (get_or us i d) = slice_get-get_or us i d lt in
    let same : get_or us i d ≡ u = cc in
    subst (λ (x : Use (Ptr BasicBlock)). IsLinkedOperation c x.user_op) same here

pub loop-index-init : goal.loop-index-init
loop-index-init c = λ k lt. absurd (omega (arith, lt))

pub loop-index-preserved : goal.loop-index-preserved
loop-index-preserved c =
    below_more (λ k. (u : Use (Ptr BasicBlock)) → slice_get c.args.places.now k ≡ Some u → IsLinkedOperation c.args.ctx.now.program u.user_op) c.loop-index.index c.loop-index.invariant (linked-at _ _ _ _ c.loop-index-test.true (c.is_linked.ensures.linked.0 (search rules)))

pub returns : goal.returns
returns c = λ _ i u e. c.loop-index.invariant i (let lt : i < length c.args.places.now = slice_get_within c.args.places.now i u e in omega (arith, lt, c.loop-index-test.false)) u e
