use Rattle.ir_program.proofs.erased.ForgetWalks.{at-first, at-next, at-less}
use Rattle.ir_program.proofs.used.UserWalks.{apart-begins, apart-next}
use Rattle.ir_program.proofs.users.is_apart.Goals as goal

pub places-init : goal.places-init
places-init g c = record {
  at = at-first c.args.forest.now c.args.x c.requires.used c.know_walk.ensures.once;
  apart = apart-begins c.args.forest.now c.args.values.now c.args.targets.now c.args.x c.know_walk.ensures.all c.know_walk.ensures.begins;
}

pub places-preserved : goal.places-preserved
places-preserved g c = record {
  at = at-next c.args.forest.now c.args.x c.in-Some.place c.places.at c.next_inside-at.result c.in-Some.is c.places.invariant.at c.next_inside-at.ensures.rest c.next_inside-at.ensures.inside;
  apart = apart-next c.args.forest.now c.args.values.now c.args.targets.now c.args.x c.in-Some.place c.places.at c.next_inside-at.result c.in-Some.is c.next_inside-at.ensures.rest (c.is_apart_at.ensures.0 c.if-not-is_apart_at.false) c.places.invariant.apart;
}

pub places-smaller : goal.places-smaller
places-smaller g c = at-less c.args.forest.now c.args.x c.in-Some.place c.places.at c.next_inside-at.result c.in-Some.is c.places.invariant.at c.next_inside-at.ensures.rest
