use Rattle.std.proofs.Common.{refl, get_or, arith}
use Rattle.std.proofs.lemmas.Bool.{false≢true}
use Rattle.std.proofs.lemmas.Option.{slice_get-get_or, slice_get_within}
use Rattle.ir_program.specs.Program.{TypedValue, arguments_at}
use Rattle.kit_places.specs.Store.{width_at}
use Rattle.kit_interpreter.specs.Running.{FitsWidth}
use Rattle.kit_interpreter.proofs.Fitting.{next_pair}
use Rattle.kit_interpreter.proofs.executing.are_fitting.Goals as goal

pub returns-then-not-fits_argument : goal.returns-then-not-fits_argument
returns-then-not-fits_argument c = (
  λ e. absurd (false≢true e),
  λ a. c.if-not-fits_argument.ensures.1 (λ t e. a.each c.loop-i.i (get_or c.args.numbers.now c.loop-i.i 0) t
      (slice_get-get_or c.args.numbers.now c.loop-i.i 0 (omega arith)) e),
)

pub loop-i-preserved : goal.loop-i-preserved
loop-i-preserved c = next_pair (λ x (t : TypedValue). FitsWidth x (width_at c.args.ctx.now t.ty)) c.args.numbers.now
    (arguments_at c.args.ctx.now.program c.args.block) c.loop-i.i (omega arith) c.loop-i.invariant
    (c.if-not-fits_argument.ensures.0 refl)

pub returns : goal.returns
returns c = (
  λ _. record {
    count = omega arith;
    each = λ k x t e f. let w = slice_get_within c.args.numbers.now k x e in c.loop-i.invariant k x t
        (omega (arith, w)) e f;
  },
  λ _. refl,
)
