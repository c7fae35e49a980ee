use Rattle.std.proofs.Common.{◌∙◌, [], length}
use Rattle.pass_outside.specs.Nested.{operations_of_region}
use Rattle.pass_outside.proofs.Lists.{step_past, all_past, next_at, joined_one, joined_all}
use Rattle.pass_outside.proofs.nested.nested_operations.Goals as goal

pub loop-region-init : goal.loop-region-init
loop-region-init g c = record { listed = c.into_iter-region-iterator.ensures.into_iter_gives ∙ c.regions-region-items.ensures.list; row = c.new-nested.ensures.items }

pub add_of_region-requires : goal.add_of_region-requires
add_of_region-requires g c =
    let at = next_at _ c.loop-region.yielded _ _ c.in-Some.region c.in-Some.ensures.steps c.loop-region.invariant.listed in
    (c.know_lists.ensures.regions c.args.op (length c.loop-region.yielded) c.in-Some.region at).region

pub loop-region-preserved : goal.loop-region-preserved
loop-region-preserved g c = record {
  listed = step_past _ c.loop-region.yielded _ _ c.in-Some.region c.in-Some.ensures.steps c.loop-region.invariant.listed;
  row = joined_one (operations_of_region c.args.program.now) [] _ _ c.loop-region.yielded c.in-Some.region c.loop-region.invariant.row c.in_ok-add_of_region.ensures;
}

pub returns : goal.returns
returns g c =
    let all = all_past _ c.loop-region.yielded c.loop-region.region-iterator c.in-None.ensures.steps.0 c.loop-region.invariant.listed in
    joined_all (operations_of_region c.args.program.now) [] _ c.loop-region.yielded _ c.loop-region.invariant.row all
