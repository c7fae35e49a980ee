use Rattle.std.proofs.Common.{◌≡◌, inl, inr, true, refl, sym, subst, arith}
use Rattle.std.proofs.lemmas.Option.{slice_get_within}
use Rattle.ir_program.specs.Program.{arguments_at}
use Rattle.opt_dce.specs.liveness.Taken.{HasMarkAt}
use Rattle.opt_dce.proofs.LivenessLemmas.Marking.{value_there}
use Rattle.opt_dce.proofs.liveness.taking.take_arguments.Goals as goal

pub returns-in_ok-push : goal.returns-in_ok-push
returns-in_ok-push g c =
    let m = c.has_mark.ensures.0 c.if-has_mark.true in
    let mark = subst (λ xs. HasMarkAt xs m.0) c.deref.ensures.value m.1 in
    let v = value_there (arguments_at c.args.program.now c.args.block) m.0 (let lt = slice_get_within c.in_ok-marks.marks.items m.0 true mark in let len = c.in_ok-marks.ensures.len in omega arith) in
    inl (
      (m.0, v.0, v.1, (c.in_ok-marks.ensures.marks m.0 v.0 v.1).0 mark),
      (record { block = c.args.block; marks = c.in_ok-marks.marks }, refl, c.in_ok-marks.ensures, c.in_ok-push.ensures.items),
    )

pub returns-else-has_mark : goal.returns-else-has_mark
returns-else-has_mark g c = inr (
  λ w.
      let yes_is : c.has_mark.result ≡ true = c.has_mark.ensures.1 (w.0, subst (λ xs. HasMarkAt xs w.0) (sym c.deref.ensures.value) ((c.in_ok-marks.ensures.marks w.0 w.1 w.2).1 w.3)) in
      absurd (cc (yes_is, c.if-has_mark.false)),
  refl,
)
