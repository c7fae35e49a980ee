use Rattle.std.proofs.Common.{◌+◌, sym, subst, arith}
use Rattle.std.proofs.lemmas.Option.{slice_get_within}
use Rattle.ir_program.specs.Rows.{operands_at}
use Rattle.opt_inside.specs.Numbered.{numbers_of}
use Rattle.opt_dce.specs.liveness.Problems.{ListsDefiners}
use Rattle.opt_dce.proofs.LivenessLemmas.Kept.{ValuesBelow, keeps_if, keeps_step, below_split, below_up, below_here}
use Rattle.opt_dce.proofs.liveness.keeping.root_operands.Goals as goal

pub loop-index-preserved : goal.loop-index-preserved
loop-index-preserved g c =
    subst (ListsDefiners (numbers_of c.args.inside.now) (ValuesBelow (operands_at c.args.program.now c.args.op) (λ v. Unit {0}) (c.loop-index.index + 1))) (sym c.in_ok-push.ensures.items)
    (keeps_step (numbers_of c.args.inside.now) (ValuesBelow (operands_at c.args.program.now c.args.op) (λ v. Unit {0}) c.loop-index.index) (ValuesBelow (operands_at c.args.program.now c.args.op) (λ v. Unit {0}) (c.loop-index.index + 1)) (Unit {0}) c.operand.result c.loop-index.kept.items _
    (λ w h. below_split (operands_at c.args.program.now c.args.op) (λ v. Unit {0}) c.loop-index.index c.operand.result w c.operand.ensures.exact h)
    (λ w h. below_up (operands_at c.args.program.now c.args.op) (λ v. Unit {0}) c.loop-index.index w h)
    (λ so. below_here (operands_at c.args.program.now c.args.op) (λ v. Unit {0}) c.loop-index.index c.operand.result c.operand.ensures.exact tt)
    c.loop-index.invariant
    (keeps_if (numbers_of c.args.inside.now) (Unit {0}) c.operand.result c.definer_of.result c.loop-index.kept.items tt c.definer_of.ensures))

pub returns : goal.returns
returns g c = record {
  sound = λ x h. let w = c.loop-index.invariant.sound x h in (w.0, (w.1.0, w.1.2), w.2);
  all = λ v l. c.loop-index.invariant.all v (l.0, (let lt = slice_get_within (operands_at c.args.program.now c.args.op) l.0 v l.1 in let end = c.loop-index-test.false in let count = c.operand_count-index-end.ensures in omega arith), l.1, tt);
}
