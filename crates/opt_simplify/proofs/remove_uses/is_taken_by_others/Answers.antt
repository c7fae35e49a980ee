use Rattle.std.proofs.Common.{◌≡◌, ◌++◌, ◌∙◌, ⊎_elim, true, false, sym, refl, ap, subst}
use Rattle.ir_program.specs.Order.{uses_listed}
use Rattle.ir_program.specs.Uses.{AreUsesOf}
use Rattle.ir_program.specs.declared.handles.IRNode.TheVariants.{Operation as OperationNode}
use Rattle.ir_program.specs.declared.handles.Use.{Use}
use Rattle.ir_program.specs.declared.handles.Value.{Value}
use Rattle.ir_trees.specs.Searched.{Lists}
use Rattle.opt_inside.proofs.ReachLemmas.Lists.{moved}
use Rattle.opt_simplify.proofs.RemovedUses.{taken_here, taken_nowhere, lists_more, none_yet, whole}
use Rattle.opt_simplify.proofs.remove_uses.is_taken_by_others.Goals as goal

pub loop-place-init : goal.loop-place-init
loop-place-init g c = record { listed = c.into_iter-place-iterator.ensures.into_iter_gives ∙ c.uses_of-place-items.ensures.order; inside = λ u l. absurd (none_yet c.args.program.now u l) }

pub loop-place-preserved : goal.loop-place-preserved
loop-place-preserved g c = record {
  listed = moved (λ us. us ≡ uses_listed c.args.program.now c.args.value) c.loop-place.yielded _ _ c.in-Some.place c.in-Some.ensures.steps c.loop-place.invariant.listed;
  inside = λ u l. ⊎_elim
      (λ (m : Lists c.loop-place.yielded u). c.loop-place.invariant.inside u m)
      (λ (e : u ≡ c.in-Some.place). subst (λ (w : Use Value). Lists c.args.nodes.now.keys (OperationNode w.user_op)) (sym e) (subst (λ q. Lists c.args.nodes.now.keys (OperationNode q)) c.user_op.ensures (c.has_node.ensures.0 c.if-not-has_node.false)))
      ((lists_more c.loop-place.yielded c.in-Some.place u).0 l);
}

pub returns-then-not-has_node : goal.returns-then-not-has_node
returns-then-not-has_node g c = (
  λ h. taken_here c.args.program.now c.args.nodes.now.keys c.args.value (uses_listed c.args.program.now c.args.value) (subst (λ us. AreUsesOf c.args.program.now c.args.value us) c.uses_of-place-items.ensures.order c.uses_of-place-items.ensures.uses)
      c.loop-place.yielded c.next.new.self c.in-Some.place (ap (λ us. c.loop-place.yielded ++ us) (sym c.in-Some.ensures.steps) ∙ c.loop-place.invariant.listed)
      (λ l. let t : true ≡ false = sym (c.has_node.ensures.1 (subst (λ q. Lists c.args.nodes.now.keys (OperationNode q)) (sym c.user_op.ensures) l)) ∙ c.if-not-has_node.true in cc),
  λ h. refl,
)

pub returns : goal.returns
returns g c = (
  λ h. cc,
  λ t. absurd (taken_nowhere c.args.program.now c.args.nodes.now.keys c.args.value (uses_listed c.args.program.now c.args.value) (subst (λ us. AreUsesOf c.args.program.now c.args.value us) c.uses_of-place-items.ensures.order c.uses_of-place-items.ensures.uses)
      (subst (λ us. (u : Use Value) → Lists us u → Lists c.args.nodes.now.keys (OperationNode u.user_op)) (whole c.args.program.now c.loop-place.yielded _ (uses_listed c.args.program.now c.args.value) c.loop-place.invariant.listed c.in-None.ensures.steps.0) c.loop-place.invariant.inside) t),
)
