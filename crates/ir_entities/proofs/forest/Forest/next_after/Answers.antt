use Rattle.std.proofs.Common.{◌∙◌, ap, refl, false, length, arith, ◌<◌}
use Rattle.std.proofs.lemmas.Bool.{both_ways}
use Rattle.ir_entities.specs.Forest.{Forest, shape_of}
use Rattle.ir_entities.proofs.Climb.{climb_starts, climbed_plain, climbed_op, room}
use Rattle.ir_entities.proofs.Orders.{sibling_found, sibling_none, no_holder, at_top}
use Rattle.ir_entities.proofs.forest.Forest.next_after.Goals as goal

pub up-init : goal.up-init
up-init g c = (climb_starts c.args.self.now c.args.x c.args.at c.slots-left.result (c.slots-left.ensures ∙ ap (λ (w : Forest _ _ _). length w.ops) c.self.view_is) c.requires.used, λ rest r. r)

pub returns-in-Some : goal.returns-in-Some
returns-in-Some g c rest r = sibling_found (shape_of c.args.self.now) c.args.x c.up.from rest (c.up.invariant.1 rest r) (λ e. both_ways false refl (c.up-test.ensures.1 e)) c.in-Some.next c.in-Some.ensures

pub returns-in_default-parent : goal.returns-in_default-parent
returns-in_default-parent g c rest r = absurd (no_holder (shape_of c.args.self.now) c.args.x c.up.from rest (c.up.invariant.1 rest r) (λ e. both_ways false refl (c.up-test.ensures.1 e)) c.in_default-parent.ensures)

pub unreachable-requires : goal.unreachable-requires
unreachable-requires g c =
    let r : 0 < c.up.left = room c.args.self.now c.know_forest.ensures c.args.x c.args.at c.up.from c.up.left c.up.invariant.0 c.in-Some-parent.holder c.in-Some-parent.ensures.0 c.in-Some-parent.ensures.1 c.in-Some-parent.ensures.2 (λ e. both_ways false refl (c.up-test.ensures.1 e)) c.in-Op.field-0 c.in-Op.is in
    omega (arith, r, c.if-left-eq0.true)

pub up-preserved-else-left-eq0 : goal.up-preserved-else-left-eq0
up-preserved-else-left-eq0 g c = (climbed_op c.args.self.now c.know_forest.ensures c.args.x c.args.at c.up.from c.up.left c.up.invariant.0 c.in-Some-parent.holder c.in-Some-parent.ensures.0 c.in-Some-parent.ensures.1 c.in-Some-parent.ensures.2 (λ e. both_ways false refl (c.up-test.ensures.1 e)) c.in-Op.field-0 c.in-Op.is, (λ rest r. sibling_none (shape_of c.args.self.now) c.know_parents.ensures.one c.args.x c.up.from rest (c.up.invariant.1 rest r) (λ e. both_ways false refl (c.up-test.ensures.1 e)) c.in_default.ensures c.in-Some-parent.holder c.in-Some-parent.ensures.0))

pub up-preserved : goal.up-preserved
up-preserved g c = (climbed_plain c.args.self.now c.know_forest.ensures c.args.x c.args.at c.up.from c.up.left c.up.invariant.0 c.in-Some-parent.holder c.in-Some-parent.ensures.0 c.in-Some-parent.ensures.1 c.in-Some-parent.ensures.2 (λ e. both_ways false refl (c.up-test.ensures.1 e)) (λ o e. c.in_default-holder.not-Op o e), (λ rest r. sibling_none (shape_of c.args.self.now) c.know_parents.ensures.one c.args.x c.up.from rest (c.up.invariant.1 rest r) (λ e. both_ways false refl (c.up-test.ensures.1 e)) c.in_default.ensures c.in-Some-parent.holder c.in-Some-parent.ensures.0))

pub returns : goal.returns
returns g c rest r = at_top (shape_of c.args.self.now) c.know_forest.ensures.grounded c.args.x c.up.from rest (c.up.invariant.1 rest r) (c.up-test.ensures.0 refl)
