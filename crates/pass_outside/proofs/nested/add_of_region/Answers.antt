use Rattle.std.proofs.Common.{◌∙◌, sym, append-nil, length}
use Rattle.ir_program.specs.Lists.{operations_in}
use Rattle.pass_outside.proofs.Lists.{step_past, all_past, next_at, joined_one, joined_all}
use Rattle.pass_outside.proofs.nested.add_of_region.Goals as goal

pub loop-block-init : goal.loop-block-init
loop-block-init g c = record { listed = c.into_iter-block-iterator.ensures.into_iter_gives ∙ c.blocks-block-items.ensures.list; row = sym (append-nil _) }

pub add_of_block-requires : goal.add_of_block-requires
add_of_block-requires g c =
    let at = next_at _ c.loop-block.yielded _ _ c.in-Some.block c.in-Some.ensures.steps c.loop-block.invariant.listed in
    (c.know_lists.ensures.blocks c.args.region (length c.loop-block.yielded) c.in-Some.block at).block

pub loop-block-preserved : goal.loop-block-preserved
loop-block-preserved g c = record {
  listed = step_past _ c.loop-block.yielded _ _ c.in-Some.block c.in-Some.ensures.steps c.loop-block.invariant.listed;
  row = joined_one (operations_in c.args.program.now) _ _ _ c.loop-block.yielded c.in-Some.block c.loop-block.invariant.row c.in_ok-add_of_block.ensures;
}

pub returns : goal.returns
returns g c =
    let all = all_past _ c.loop-block.yielded c.loop-block.block-iterator c.in-None.ensures.steps.0 c.loop-block.invariant.listed in
    joined_all (operations_in c.args.program.now) _ _ c.loop-block.yielded _ c.loop-block.invariant.row all
