use Rattle.std.proofs.Common.{◌≡◌, ℕ, ◌++◌, ◌∷◌, List, [], Option, Some, None, slice_get, get_or, length, arith, sym, ap, subst, ◌∙◌}
use Rattle.opt_inside.specs.Numbered.{numbers_of}
use Rattle.opt_rows.specs.declared.dead_problem.Operand.{Operand}
use Rattle.opt_dce.specs.liveness.Problems.{IsOperandOf}
use Rattle.opt_dce.proofs.LivenessLemmas.Partway.{pushed_len, item_at, each_push}
use Rattle.opt_dce.proofs.LivenessLemmas.Plain.{not_branch}
use Rattle.opt_dce.proofs.liveness.candidates.operands_of.Goals as goal

pub plain_operands-requires-clause-plain : goal.plain_operands-requires-clause-plain
plain_operands-requires-clause-plain g c =
    not_branch g.D.Meanings.meaning c.args.program.now c.args.op c.payload.result.now c.is_branch.result
    c.payload.ensures c.is_branch.ensures c.if-not-is_branch.true

pub operand-requires : goal.operand-requires
operand-requires g c = let e = ap length c.deref-target-items.ensures.value in omega (arith, e, c.in_ok-targets.ensures.len, c.loop-index-test.true)

pub loop-index-preserved : goal.loop-index-preserved
loop-index-preserved g c =
    let target : Option ℕ = get_or c.deref-target-items.result.now c.loop-index.index None in
    let operand : Operand = record { definer = c.definer_of.result; argument = target } in
    let at : slice_get c.in_ok-targets.targets.items c.loop-index.index ≡ Some target = item_at c.deref-target-items.result.now c.in_ok-targets.targets.items c.loop-index.index None c.deref-target-items.ensures.value c.loop-index-test.true in
    let items : c.push.new.self.items ≡ c.loop-index.operands.items ++ operand ∷ [] = c.in_ok-push.ensures.items in
    let P : ℕ → Operand → Type 0 = (λ k o. IsOperandOf g.D.Meanings.meaning c.args.program.now (numbers_of c.args.inside.now) c.args.op k o) in
    let here : P c.loop-index.index operand = record {
      value = c.operand.result;
      there = c.operand.ensures.exact;
      definer = c.definer_of.ensures;
      argument = λ x e. c.in_ok-targets.ensures.found c.loop-index.index x (at ∙ ap Some e);
      no_argument = λ e x. c.in_ok-targets.ensures.none c.loop-index.index x (at ∙ ap Some e);
    } in
    record {
      len = pushed_len c.loop-index.operands.items c.push.new.self.items operand c.loop-index.index items c.loop-index.invariant.len;
      operands = λ k o h. each_push P c.loop-index.operands.items operand c.loop-index.invariant.operands (subst (λ i. P i operand) (sym c.loop-index.invariant.len) here) k o (ap (λ (xs : List Operand). slice_get xs k) (sym items) ∙ h);
    }

pub returns-clause-operands : goal.returns-clause-operands
returns-clause-operands g c = c.loop-index.invariant.operands

pub returns-clause-len : goal.returns-clause-len
returns-clause-len g c = let e = ap length c.deref-target-items.ensures.value in omega (arith, e, c.in_ok-targets.ensures.len, c.loop-index-test.false, c.loop-index.invariant.len, c.loop-index.auto.index-end)
