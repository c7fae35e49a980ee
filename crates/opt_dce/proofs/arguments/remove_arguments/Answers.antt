use Rattle.std.proofs.Common.{◌≡◌, ◌<◌, ◌-◌, true, false, length, refl, ◌∙◌, arith}
use Rattle.std.proofs.lemmas.Option.{unwrap_or-slice_get}
use Rattle.ir_program.specs.Program.{arguments_at}
use Rattle.opt_dialect.specs.Masks.{marked}
use Rattle.opt_dce.proofs.LostArguments.{begins, there_now, within_now, unused_now, one_goes, one_stays}
use Rattle.opt_dce.proofs.Picking.{is_marked}
use Rattle.opt_dce.proofs.arguments.remove_arguments.Goals as goal

pub loop-i-init : goal.loop-i-init
loop-i-init g c = record { removed = begins c.args.ctx.now.program c.args.block c.args.marks.now c.requires.count; types = refl; numbers = refl }

pub remove_argument-requires-clause-block : goal.remove_argument-requires-clause-block
remove_argument-requires-clause-block g c =
    there_now c.args.ctx.now.program c.loop-i.ctx.program c.args.block c.args.marks.now (c.loop-i.i - 1) c.loop-i.i (omega arith) c.loop-i.invariant.removed c.requires.there

pub remove_argument-requires-clause-within : goal.remove_argument-requires-clause-within
remove_argument-requires-clause-within g c =
    let lt : c.loop-i.i - 1 < length (arguments_at c.args.ctx.now.program c.args.block) = omega (arith, c.requires.count) in
    within_now c.args.ctx.now.program c.loop-i.ctx.program c.args.block c.args.marks.now (c.loop-i.i - 1) c.loop-i.i (omega arith) c.loop-i.invariant.removed lt

pub remove_argument-requires-clause-unused : goal.remove_argument-requires-clause-unused
remove_argument-requires-clause-unused g c =
    let mark : marked c.args.marks.now (c.loop-i.i - 1) ≡ true = unwrap_or-slice_get c.args.marks.now (c.loop-i.i - 1) false ∙ c.if-marks-i.true in
    unused_now c.args.ctx.now.program c.loop-i.ctx.program c.args.block c.args.marks.now (c.loop-i.i - 1) c.loop-i.i (omega arith) c.loop-i.invariant.removed c.requires.unused (is_marked c.args.marks.now (c.loop-i.i - 1) mark)

pub loop-i-preserved-then-marks-i : goal.loop-i-preserved-then-marks-i
loop-i-preserved-then-marks-i g c = record {
  removed = one_goes c.args.ctx.now.program c.loop-i.ctx.program c.args.block c.args.marks.now (c.loop-i.i - 1) c.loop-i.i (omega arith) c.loop-i.invariant.removed
      c.remove_argument.new.ctx.program (unwrap_or-slice_get c.args.marks.now (c.loop-i.i - 1) false ∙ c.if-marks-i.true) c.remove_argument.ensures.removed;
  types = c.remove_argument.ensures.types ∙ c.loop-i.invariant.types;
  numbers = c.remove_argument.ensures.counter ∙ c.loop-i.invariant.numbers;
}

pub loop-i-preserved : goal.loop-i-preserved
loop-i-preserved g c = record {
  removed = one_stays c.args.ctx.now.program c.loop-i.ctx.program c.args.block c.args.marks.now (c.loop-i.i - 1) c.loop-i.i (omega arith) c.loop-i.invariant.removed
      (unwrap_or-slice_get c.args.marks.now (c.loop-i.i - 1) false ∙ c.if-marks-i.false);
  types = c.loop-i.invariant.types;
  numbers = c.loop-i.invariant.numbers;
}
