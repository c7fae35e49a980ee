use Rattle.std.proofs.Common.{◌<◌, length, arith, sym, ◌∙◌}
use Rattle.ir_characters.specs.Texts.{codes_of}
use Rattle.text_marking.proofs.Numbers.{too_large_times, too_large_more, small_enough, value_more}
use Rattle.text_marking.proofs.taking.number_of.Goals as goal

pub returns-in_err-checked_mul : goal.returns-in_err-checked_mul
returns-in_err-checked_mul c =
    let inside : c.loop-place.place < length (codes_of c.args.digits) = omega arith in
    c.from_residual.ensures
    ∙ sym (too_large_times (codes_of c.args.digits) c.loop-place.place c.loop-place.number c.loop-place.invariant.0 inside
    (c.requires c.loop-place.place (omega arith) inside) (λ small. c.in_err-checked_mul.ensures small))

pub returns-in_err-number : goal.returns-in_err-number
returns-in_err-number c =
    let inside : c.loop-place.place < length (codes_of c.args.digits) = omega arith in
    c.from_residual-in_err-number.ensures
    ∙ sym (too_large_more (codes_of c.args.digits) c.loop-place.place c.loop-place.number c.loop-place.invariant.0 inside
    (c.requires c.loop-place.place (omega arith) inside) (λ small. c.in_err-number.ensures (omega arith)))

pub loop-place-preserved : goal.loop-place-preserved
loop-place-preserved c =
    let inside : c.loop-place.place < length (codes_of c.args.digits) = omega arith in
    let more = value_more (codes_of c.args.digits) c.loop-place.place inside (c.requires c.loop-place.place (omega arith) inside) in
    (omega arith, omega arith)

pub returns : goal.returns
returns c = sym (small_enough (codes_of c.args.digits) c.loop-place.place c.loop-place.number c.loop-place.invariant.0 (omega arith) c.loop-place.invariant.1)
