use Rattle.ir_program.specs.Erases.{value_place, block_place}
use Rattle.ir_program.proofs.erased.ForgetThreads.{values-at, blocks-at}
use Rattle.ir_program.proofs.erased.ForgetWalks.{at-first, all-first, at-next, at-less, unnamed-here, step-here, forgets-begins}
use Rattle.ir_program.proofs.forgetting.forget_inside.Goals as goal

pub places-init : goal.places-init
places-init g c = record {
  at = at-first c.args.forest.now c.args.x c.requires.used c.know_walk.ensures.once;
  values = forgets-begins _ _ _ _ _ (all-first c.args.forest.now c.args.x c.know_walk.ensures.all c.know_walk.ensures.begins);
  targets = forgets-begins _ _ _ _ _ (all-first c.args.forest.now c.args.x c.know_walk.ensures.all c.know_walk.ensures.begins);
}

pub forget_at-requires-clause-values : goal.forget_at-requires-clause-values
forget_at-requires-clause-values g c = unnamed-here c.args.forest.now c.args.x c.in-Some.place c.places.at c.next_inside-next.result c.in-Some.is c.places.invariant.at c.next_inside-next.ensures.rest value_place c.args.values.now c.places.values _ c.places.invariant.values (values-at c.args.forest.now c.args.values.now c.args.targets.now c.requires.sound c.in-Some.place) c.requires.values

pub forget_at-requires-clause-targets : goal.forget_at-requires-clause-targets
forget_at-requires-clause-targets g c = unnamed-here c.args.forest.now c.args.x c.in-Some.place c.places.at c.next_inside-next.result c.in-Some.is c.places.invariant.at c.next_inside-next.ensures.rest block_place c.args.targets.now c.places.targets _ c.places.invariant.targets (blocks-at c.args.forest.now c.args.values.now c.args.targets.now c.requires.sound c.in-Some.place) c.requires.blocks

pub places-preserved : goal.places-preserved
places-preserved g c = record {
  at = at-next c.args.forest.now c.args.x c.in-Some.place c.places.at c.next_inside-next.result c.in-Some.is c.places.invariant.at c.next_inside-next.ensures.rest c.next_inside-next.ensures.inside;
  values = step-here c.args.forest.now c.args.x c.in-Some.place c.places.at c.next_inside-next.result c.in-Some.is c.places.invariant.at c.next_inside-next.ensures.rest value_place c.args.values.now c.places.values _ c.places.invariant.values (values-at c.args.forest.now c.args.values.now c.args.targets.now c.requires.sound c.in-Some.place) c.forget_at.new.values c.forget_at.ensures.values;
  targets = step-here c.args.forest.now c.args.x c.in-Some.place c.places.at c.next_inside-next.result c.in-Some.is c.places.invariant.at c.next_inside-next.ensures.rest block_place c.args.targets.now c.places.targets _ c.places.invariant.targets (blocks-at c.args.forest.now c.args.values.now c.args.targets.now c.requires.sound c.in-Some.place) c.forget_at.new.targets c.forget_at.ensures.targets;
}

pub places-smaller : goal.places-smaller
places-smaller g c = at-less c.args.forest.now c.args.x c.in-Some.place c.places.at c.next_inside-next.result c.in-Some.is c.places.invariant.at c.next_inside-next.ensures.rest
