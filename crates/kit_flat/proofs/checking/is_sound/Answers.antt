use Rattle.std.proofs.Common.{◌≡◌, ◌∙◌, sym, ap, subst, ℕ, ◌<◌, ◌≤◌, length, slice_get, ⊎_elim, arith}
use Rattle.std.proofs.lemmas.Bool.{cases_lt}
use Rattle.std.proofs.lemmas.Option.{same_Some, slice_get_within}
use Rattle.kit_flat.specs.Sound.{FunctionFits}
use Rattle.kit_flat.proofs.Places.{got}
use Rattle.kit_flat.proofs.checking.is_sound.Goals as goal

pub loop-function-preserved : goal.loop-function-preserved
loop-function-preserved c =
    let fs = c.args.code.now.functions.items in
    let k = c.loop-function.function-index in
    let at = got c.deref-function-items.result.now fs k c.function-item.result c.deref-function-items.ensures.value
    (omega arith) c.function-item.is in
    let n : c.len.result ≡ length fs = omega arith in
    let here = subst (λ (m : ℕ). FunctionFits m c.function-item.result) n
    (c.function_fits.ensures c.if-not-function_fits.false) in
    λ i f h e.
    ⊎_elim
    (λ (l : i < k). c.loop-function.invariant i f l e)
    (λ (l : k ≤ i).
    let s : i ≡ k = omega (arith, h, l) in
    subst (FunctionFits (length fs)) (same_Some c.function-item.result f (sym at ∙ ap (slice_get fs) (sym s) ∙ e)) here)
    (cases_lt i k)

pub returns : goal.returns
returns c = λ _. record {
  functions_fit = λ i f e.
      let l = slice_get_within c.args.code.now.functions.items i f e in
      let n = ap length c.deref-function-items.ensures.value in
      c.loop-function.invariant i f (omega (arith, l, n)) e;
}
