use Rattle.std.proofs.Common.{◌≡◌, ◌≢◌, ◌++◌, false, Some, None, length, slice_get, true≢false, rules, tests, refl, sym, ap, subst, ◌∙◌, ⊎_elim}
use Rattle.std.specs.Prelude.{is_some}
use Rattle.ir_program.specs.Lists.{StandsInside, itself}
use Rattle.ir_program.specs.Rows.{operands_at}
use Rattle.ir_program.specs.Uses.{AreUsesOf}
use Rattle.ir_program.specs.declared.handles.IRNode.TheVariants.{Operation as OperationNode}
use Rattle.ir_program.specs.declared.handles.Use.{Use}
use Rattle.ir_program.specs.declared.handles.Value.{Value}
use Rattle.opt_dce.proofs.LivenessLemmas.Ground.{none_or}
use Rattle.opt_dce.proofs.LivenessLemmas.Partway.{at_middle, each_push, moved, ended}
use Rattle.opt_dce.proofs.liveness.keeping.is_pinned.Goals as goal
use Rattle.opt_dce.proofs.liveness.keeping.is_pinned.Goals.{else-ne-via-then-ne+else-is_none, else-ne-via-else-ne}

pub returns-then-is_none : goal.returns-then-is_none
returns-then-is_none g c =
    let uses = subst (λ r. AreUsesOf c.args.program.now c.args.value (c.loop-place.yielded ++ r)) c.in-Some.ensures.steps c.loop-place.invariant.uses in
    let use_here = uses.sound (length c.loop-place.yielded) c.in-Some.place (at_middle c.loop-place.yielded _ c.in-Some.place) in
    let other : c.user_op-user.result ≢ c.args.op = (λ e. search (rules, tests)) in
    let none : c.operation_number.result ≡ None = search (rules, tests) in (
      λ h. (
        c.user_op-user.result,
        λ i. c.operation_number.ensures.none none ((c.requires.numbers.operations c.user_op-user.result).1 (record { inside = i; other = other })),
        (c.in-Some.place.index, ap (λ p. slice_get (operands_at c.args.program.now p) c.in-Some.place.index) c.user_op-user.ensures ∙ (use_here.0 ∙ ap Some use_here.1)),
      ),
      λ h. refl,
    )

pub returns : goal.returns
returns g c =
    let uses = ended (AreUsesOf c.args.program.now c.args.value) c.loop-place.yielded _ c.in-None.ensures.steps.0 c.loop-place.invariant.uses in (
      λ h. absurd (true≢false (sym h)),
      λ w.
          let u : Use Value = record { user_op = w.0; index = w.2.0; def = c.args.value } in
          let at = uses.all u w.2.1 refl in
          absurd (w.1 (c.loop-place.invariant.inside at.0 u at.1)),
    )

pub loop-place-preserved : goal.loop-place-preserved
loop-place-preserved g c = record {
  uses = moved (AreUsesOf c.args.program.now c.args.value) c.loop-place.yielded _ _ c.in-Some.place c.in-Some.ensures.steps c.loop-place.invariant.uses;
  inside = each_push (λ k (u : Use Value). StandsInside c.args.program.now (OperationNode c.args.op) (OperationNode u.user_op)) c.loop-place.yielded c.in-Some.place c.loop-place.invariant.inside
      (subst (λ z. StandsInside c.args.program.now (OperationNode c.args.op) (OperationNode z)) c.user_op-user.ensures
      (elim c.else-ne.branch [
        | else-ne-via-then-ne+else-is_none w ↦ ⊎_elim
            (λ none. let gone : is_some w.operation_number.result ≡ false = ap is_some none in let there = w.if-is_none.ensures in absurd (cc (gone, there)))
            (λ k. ((c.requires.numbers.operations c.user_op-user.result).0 (k.0, w.operation_number.ensures.found k.0 k.1)).inside)
            (none_or w.operation_number.result)
        | else-ne-via-else-ne w ↦
            let same : c.args.op ≡ c.user_op-user.result = search (rules, tests) in
            subst (λ z. StandsInside c.args.program.now (OperationNode c.args.op) (OperationNode z)) same itself
      ]));
}
