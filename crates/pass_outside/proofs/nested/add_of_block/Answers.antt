use Rattle.std.proofs.Common.{◌∙◌, sym, append-nil}
use Rattle.pass_outside.proofs.Lists.{step_past, all_past, grown_one, grown_all}
use Rattle.pass_outside.proofs.nested.add_of_block.Goals as goal

pub loop-op-init : goal.loop-op-init
loop-op-init g c = record { listed = c.into_iter-op-iterator.ensures.into_iter_gives ∙ c.operations-op-items.ensures.list; row = sym (append-nil _) }

pub loop-op-preserved : goal.loop-op-preserved
loop-op-preserved g c = record {
  listed = step_past _ c.loop-op.yielded _ _ c.in-Some.op c.in-Some.ensures.steps c.loop-op.invariant.listed;
  row = grown_one _ _ _ c.loop-op.yielded c.in-Some.op c.loop-op.invariant.row c.in_ok-push.ensures.items;
}

pub returns : goal.returns
returns g c =
    let all = all_past _ c.loop-op.yielded c.loop-op.op-iterator c.in-None.ensures.steps.0 c.loop-op.invariant.listed in
    grown_all _ _ c.loop-op.yielded _ c.loop-op.invariant.row all
