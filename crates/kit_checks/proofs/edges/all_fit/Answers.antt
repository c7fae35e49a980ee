use Rattle.kit_checks.proofs.Rows.{each_none, each_more, each_all, not_each}
use Rattle.kit_checks.specs.World.{world_of}
use Rattle.kit_checks.specs.Handing.{FitBlockArguments}
use Rattle.ir_program.specs.declared.handles.BasicBlock.{BasicBlock}
use Rattle.ir_program.specs.declared.handles.Ptr.{Ptr}
use Rattle.ir_program.specs.Rows.{operands_at, successors_at}
use Rattle.std.proofs.Math.Seq.{take-length}
use Rattle.std.proofs.Common.{arith, ◌∙◌, ℕ, ap, take, sym, subst, true≢false}
use Rattle.kit_checks.proofs.edges.all_fit.Goals as goal

pub loop-index-init : goal.loop-index-init
loop-index-init c = each_none (λ (edge : ℕ) (b : Ptr BasicBlock). FitBlockArguments (world_of c.args.ctx.now) c.args.ctx.now.program (operands_at c.args.ctx.now.program c.args.op) b) (successors_at c.args.ctx.now.program c.args.op)

pub loop-index-preserved : goal.loop-index-preserved
loop-index-preserved c =
    let p = c.args.ctx.now.program in
    each_more (λ (edge : ℕ) (b : Ptr BasicBlock). FitBlockArguments (world_of c.args.ctx.now) p (operands_at p c.args.op) b) (successors_at p c.args.op) c.loop-index.index c.get_successor.result
    c.get_successor.ensures.exact
    (subst (λ l. FitBlockArguments (world_of c.args.ctx.now) p l c.get_successor.result)
    (ap (λ n. take n (operands_at p c.args.op)) c.get_num_operands-count.ensures ∙ take-length (operands_at p c.args.op)) (c.fit_arguments.ensures.0 c.if-not-fit_arguments.false)) c.loop-index.invariant

pub returns-then-not-fit_arguments : goal.returns-then-not-fit_arguments
returns-then-not-fit_arguments c =
    let p = c.args.ctx.now.program in
    not_each (λ (edge : ℕ) (b : Ptr BasicBlock). FitBlockArguments (world_of c.args.ctx.now) p (operands_at p c.args.op) b) (successors_at p c.args.op) c.loop-index.index c.get_successor.result
    c.get_successor.ensures.exact
    (λ fit. true≢false (sym (c.fit_arguments.ensures.1 (subst (λ l. FitBlockArguments (world_of c.args.ctx.now) p l c.get_successor.result)
    (sym (ap (λ n. take n (operands_at p c.args.op)) c.get_num_operands-count.ensures ∙ take-length (operands_at p c.args.op))) fit)) ∙ c.if-not-fit_arguments.true))

pub returns : goal.returns
returns c =
    let p = c.args.ctx.now.program in
    each_all (λ (edge : ℕ) (b : Ptr BasicBlock). FitBlockArguments (world_of c.args.ctx.now) p (operands_at p c.args.op) b) (successors_at p c.args.op) c.loop-index.index
    (let many = c.get_num_successors-index-end.ensures in let end = c.loop-index-test.false in omega arith) c.loop-index.invariant
