use Rattle.std.proofs.Common.{◌≡◌, ◌<◌, ◌+◌, ◌⊎◌, ⊎_elim, ◌∙◌, ℕ, Some, slice_get, true, true≢false, refl, sym, ap, subst, arith}
use Rattle.std.proofs.lemmas.Option.{same_Some, slice_get_within}
use Rattle.opt_rows.specs.declared.dead_problem.Operand.{Operand}
use Rattle.opt_dce.proofs.LivenessLemmas.Partway.{item_at}
use Rattle.opt_dce.proofs.liveness.taking.loses_some.Goals as goal

pub loop-operand-preserved : goal.loop-operand-preserved
loop-operand-preserved c k less w =
    let operands = c.args.operands.now in
    let here = item_at operands operands c.loop-operand.operand-index _ refl c.loop-operand-test.true in
    ⊎_elim
    (λ (before : k < c.loop-operand.operand-index). c.loop-operand.invariant k before w)
    (λ (last : k ≡ c.loop-operand.operand-index).
    let at : slice_get operands c.loop-operand.operand-index ≡ Some w.0 = subst (λ i. slice_get operands i ≡ Some w.0) last w.2 in
    let yes : c.is_marked.result ≡ true =
    c.is_marked.ensures.1 (w.1, ap (λ (o : Operand). o.argument) (same_Some _ w.0 (sym here ∙ at)) ∙ w.3, w.4) in
    absurd (cc (yes, c.if-is_marked.false)))
    (before_or_last k c.loop-operand.operand-index less)
  where
    before_or_last : (a b : ℕ) → a < b + 1 → (a < b) ⊎ (a ≡ b)
    before_or_last a b h = grind arith

pub returns-then-is_marked : goal.returns-then-is_marked
returns-then-is_marked c =
    let here = item_at c.args.operands.now c.args.operands.now c.loop-operand.operand-index _ refl c.loop-operand-test.true in
    let marked = c.is_marked.ensures.0 c.if-is_marked.true in
    (λ holds. (c.loop-operand.operand-index, (_, marked.0, here, marked.1, marked.2)), λ w. refl)

pub returns : goal.returns
returns c = (
  λ holds. absurd (true≢false (sym holds)),
  λ w.
      let within = slice_get_within c.args.operands.now w.0 w.1.0 w.1.2 in
      let end = c.loop-operand-test.false in
      absurd (c.loop-operand.invariant w.0 (omega arith) w.1),
)
