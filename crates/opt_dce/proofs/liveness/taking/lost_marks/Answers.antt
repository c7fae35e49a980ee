use Rattle.std.proofs.Common.{◌≡◌, ◌<◌, true, length, refl, sym, ap, subst, ◌∙◌, arith}
use Rattle.std.specs.Prelude.{◌↔◌}
use Rattle.std.proofs.lemmas.Option.{same_Some, slice_get_within}
use Rattle.opt_rows.specs.declared.dead_problem.Operand.{Operand}
use Rattle.opt_dce.specs.liveness.Taken.{HasMarkAt, OperandGoes}
use Rattle.opt_dce.proofs.LivenessLemmas.Partway.{pushed_len, item_at, marks_push}
use Rattle.opt_dce.proofs.liveness.taking.lost_marks.Goals as goal

pub loop-operand-preserved : goal.loop-operand-preserved
loop-operand-preserved c =
    let here = item_at c.args.operands.now c.args.operands.now c.loop-operand.operand-index _ refl c.loop-operand-test.true in
    record {
      len = pushed_len c.loop-operand.marks.items c.push.new.self.items c.is_marked.result c.loop-operand.operand-index c.in_ok-push.ensures.items c.loop-operand.invariant.len;
      goes = λ i. subst (λ xs. HasMarkAt xs i ↔ ((i < length xs) × OperandGoes c.args.operands.now c.args.arguments.now i)) (sym c.in_ok-push.ensures.items)
          (marks_push (OperandGoes c.args.operands.now c.args.arguments.now) c.loop-operand.marks.items c.is_marked.result c.loop-operand.invariant.goes
          (subst (λ k. (c.is_marked.result ≡ true) ↔ OperandGoes c.args.operands.now c.args.arguments.now k) (sym c.loop-operand.invariant.len) (
            λ e. let w = c.is_marked.ensures.0 e in (_, w.0, here, w.1, w.2),
            λ w. c.is_marked.ensures.1 (w.1, ap (λ (o : Operand). o.argument) (same_Some _ w.0 (sym here ∙ w.2)) ∙ w.3, w.4),
          )) i);
    }

pub returns : goal.returns
returns c =
    let len : length c.loop-operand.marks.items ≡ length c.args.operands.now = (let a = c.loop-operand.invariant.len in let b = c.loop-operand.auto.operand-index-end in let e = c.loop-operand-test.false in omega arith) in
    record {
      len = len;
      marks = λ i. (λ m. ((c.loop-operand.invariant.goes i).0 m).1, λ w. (c.loop-operand.invariant.goes i).1 ((let lt = slice_get_within c.args.operands.now i w.0 w.2 in omega arith), w));
    }
