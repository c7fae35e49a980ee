use Rattle.std.proofs.Common.{◌≡◌, ℕ, Some, [], IsSome, slice_get, sym, ap, ◌∙◌, subst}
use Rattle.ir_program.specs.Program.{operation_at, block_at, IsLiveValue}
use Rattle.ir_program.specs.Rows.{operands_at, successors_at}
use Rattle.ir_program.specs.declared.handles.Ptr.{Ptr}
use Rattle.ir_program.specs.declared.handles.Operation.{Operation}
use Rattle.ir_program.specs.declared.handles.BasicBlock.{BasicBlock}
use Rattle.ir_program.specs.declared.handles.Value.{Value}
use Rattle.opt_trees.specs.Occurrences.{cons_if}
use Rattle.opt_decide.proofs.Folded.{something}
use Rattle.opt_decide.proofs.NewBranches.{live_operands, live_target, branch_built}
use Rattle.opt_decide.proofs.replacing.new_branch.Goals as goal

pub new_operation-requires-clause-operands : goal.new_operation-requires-clause-operands
new_operation-requires-clause-operands g c =
    let v = something (operation_at c.args.ctx.now.program c.args.decision.op) c.requires.there in
    live_operands c.args.ctx.now.program c.args.decision.op v.0 v.1
    (subst (λ p. (x : Ptr Operation) (k : ℕ) (u : Value) → slice_get (operands_at p x) k ≡ Some u → IsLiveValue p u) c.program-program.ensures c.know_operands.ensures)
    _ c.deref.result.now (c.deref.ensures.value ∙ c.in_ok-operands.ensures v.0 (ap (λ p. operation_at p c.args.decision.op) c.program.ensures ∙ v.1))

pub new_operation-requires-clause-successors : goal.new_operation-requires-clause-successors
new_operation-requires-clause-successors g c =
    live_target c.args.ctx.now.program c.args.decision.op
    (subst (λ p. (x : Ptr Operation) (k : ℕ) (b : Ptr BasicBlock) → slice_get (successors_at p x) k ≡ Some b → IsSome (block_at p b)) c.program-program.ensures c.know_successors.ensures)
    c.args.decision.edge c.deref-2.result.now (c.deref-2.ensures.value ∙ c.in_ok-successors.ensures ∙ ap (λ p. cons_if (slice_get (successors_at p c.args.decision.op) c.args.decision.edge) []) c.program-2.ensures)

pub returns-clause-built : goal.returns-clause-built
returns-clause-built g c =
    let v = something (operation_at c.args.ctx.now.program c.args.decision.op) c.requires.there in
    branch_built g.D.Meanings.meaning c.args.ctx.now.program c.new_operation.new.self.program c.args.decision c.in_ok-branch.branch c.in-Some.payload v.0 c.deref.result.now c.deref-2.result.now (sym c.in_ok-payload.ensures ∙ c.in-Some.is) v.1
    (c.deref.ensures.value ∙ c.in_ok-operands.ensures v.0 (ap (λ p. operation_at p c.args.decision.op) c.program.ensures ∙ v.1))
    (c.deref-2.ensures.value ∙ c.in_ok-successors.ensures ∙ ap (λ p. cons_if (slice_get (successors_at p c.args.decision.op) c.args.decision.edge) []) c.program-2.ensures) c.in_ok-branch.ensures.built
