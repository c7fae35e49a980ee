use Rattle.std.proofs.Common.{◌<◌, ◌-◌, false, length, refl, ◌∙◌, arith}
use Rattle.std.proofs.lemmas.Option.{unwrap_or-slice_get}
use Rattle.ir_program.specs.Rows.{operands_at}
use Rattle.opt_dce.proofs.Lost.{begins, within_now, one_goes, one_stays}
use Rattle.opt_dce.proofs.operands.remove_operands.Goals as goal

pub loop-i-init : goal.loop-i-init
loop-i-init g c = record { removed = begins c.args.ctx.now.program c.args.op c.args.marks.now c.requires.count; types = refl; numbers = refl }

pub remove_operand-requires : goal.remove_operand-requires
remove_operand-requires g c =
    let lt : c.loop-i.i - 1 < length (operands_at c.args.ctx.now.program c.args.op) = omega (arith, c.requires.count) in
    within_now c.args.ctx.now.program c.loop-i.ctx.program c.args.op c.args.marks.now (c.loop-i.i - 1) c.loop-i.i (omega arith) c.loop-i.invariant.removed lt

pub loop-i-preserved-then-marks-i : goal.loop-i-preserved-then-marks-i
loop-i-preserved-then-marks-i g c = record {
  removed = one_goes c.args.ctx.now.program c.loop-i.ctx.program c.args.op c.args.marks.now (c.loop-i.i - 1) c.loop-i.i (omega arith) c.loop-i.invariant.removed
      c.remove_operand.new.ctx.program (unwrap_or-slice_get c.args.marks.now (c.loop-i.i - 1) false ∙ c.if-marks-i.true) c.remove_operand.ensures.removed;
  types = c.remove_operand.ensures.types ∙ c.loop-i.invariant.types;
  numbers = c.remove_operand.ensures.values.counter ∙ c.loop-i.invariant.numbers;
}

pub loop-i-preserved : goal.loop-i-preserved
loop-i-preserved g c = record {
  removed = one_stays c.args.ctx.now.program c.loop-i.ctx.program c.args.op c.args.marks.now (c.loop-i.i - 1) c.loop-i.i (omega arith) c.loop-i.invariant.removed
      (unwrap_or-slice_get c.args.marks.now (c.loop-i.i - 1) false ∙ c.if-marks-i.false);
  types = c.loop-i.invariant.types;
  numbers = c.loop-i.invariant.numbers;
}
