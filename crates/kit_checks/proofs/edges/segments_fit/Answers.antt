use Rattle.std.proofs.Common.{arith, ◌≡◌, ◌+◌, ◌-◌, ◌∙◌, ℕ, ap, get_or, length, min, sym, subst, true≢false}
use Rattle.ir_program.specs.Rows.{operands_at, successors_at}
use Rattle.ir_program.specs.declared.handles.Ptr.{Ptr}
use Rattle.ir_program.specs.declared.handles.BasicBlock.{BasicBlock}
use Rattle.kit_checks.specs.Handing.{FitBlockArguments, segment_of}
use Rattle.kit_checks.specs.World.{world_of}
use Rattle.kit_checks.proofs.Handed.{behind_next, run_is, behind_first}
use Rattle.kit_checks.proofs.Rows.{each_more, each_all, not_each, each_none}
use Rattle.kit_checks.proofs.edges.segments_fit.Goals as goal

pub loop-index-preserved : goal.loop-index-preserved
loop-index-preserved c =
    let p = c.args.ctx.now.program in
    let is : c.size_at-count.result ≡ min (get_or c.args.sizes.now (c.loop-index.index + 1) 0) (length (operands_at p c.args.op) - c.loop-index.first) =
    c.size_at-count.ensures ∙ ap (λ n. min (get_or c.args.sizes.now (c.loop-index.index + 1) 0) (n - c.loop-index.first)) c.get_num_operands-operands.ensures in
    let run = run_is (operands_at p c.args.op) c.args.sizes.now c.loop-index.index c.loop-index.first c.size_at-count.result is c.loop-index.invariant.next in
    record {
      fit = each_more (λ (edge : ℕ) (b : Ptr BasicBlock). FitBlockArguments (world_of c.args.ctx.now) p (segment_of (operands_at p c.args.op) c.args.sizes.now edge) b) (successors_at p c.args.op) c.loop-index.index c.get_successor.result
          c.get_successor.ensures.exact (subst (λ l. FitBlockArguments (world_of c.args.ctx.now) p l c.get_successor.result) run (c.fit_arguments.ensures.0 c.if-not-fit_arguments.false)) c.loop-index.invariant.fit;
      next = behind_next (operands_at p c.args.op) c.args.sizes.now c.loop-index.index c.loop-index.first c.size_at-count.result is c.loop-index.invariant.next;
    }

pub returns-then-not-fit_arguments : goal.returns-then-not-fit_arguments
returns-then-not-fit_arguments c =
    let p = c.args.ctx.now.program in
    let is : c.size_at-count.result ≡ min (get_or c.args.sizes.now (c.loop-index.index + 1) 0) (length (operands_at p c.args.op) - c.loop-index.first) =
    c.size_at-count.ensures ∙ ap (λ n. min (get_or c.args.sizes.now (c.loop-index.index + 1) 0) (n - c.loop-index.first)) c.get_num_operands-operands.ensures in
    let run = run_is (operands_at p c.args.op) c.args.sizes.now c.loop-index.index c.loop-index.first c.size_at-count.result is c.loop-index.invariant.next in
    not_each (λ (edge : ℕ) (b : Ptr BasicBlock). FitBlockArguments (world_of c.args.ctx.now) p (segment_of (operands_at p c.args.op) c.args.sizes.now edge) b) (successors_at p c.args.op) c.loop-index.index c.get_successor.result
    c.get_successor.ensures.exact
    (λ fit. true≢false (sym (c.fit_arguments.ensures.1 (subst (λ l. FitBlockArguments (world_of c.args.ctx.now) p l c.get_successor.result) (sym run) fit)) ∙ c.if-not-fit_arguments.true))

pub returns : goal.returns
returns c =
    let p = c.args.ctx.now.program in
    each_all (λ (edge : ℕ) (b : Ptr BasicBlock). FitBlockArguments (world_of c.args.ctx.now) p (segment_of (operands_at p c.args.op) c.args.sizes.now edge) b) (successors_at p c.args.op) c.loop-index.index
    (let many = c.get_num_successors-index-end.ensures in let end = c.loop-index-test.false in omega arith) c.loop-index.invariant.fit

pub loop-index-init : goal.loop-index-init
loop-index-init c =
    let p = c.args.ctx.now.program in
    record {
      fit = each_none (λ (edge : ℕ) (b : Ptr BasicBlock). FitBlockArguments (world_of c.args.ctx.now) p (segment_of (operands_at p c.args.op) c.args.sizes.now edge) b) (successors_at p c.args.op);
      next = behind_first (operands_at p c.args.op) c.args.sizes.now c.size_at-first.result (c.size_at-first.ensures ∙ ap (min (get_or c.args.sizes.now 0 0)) c.get_num_operands-operands.ensures);
    }
