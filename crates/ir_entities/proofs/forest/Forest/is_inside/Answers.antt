use Rattle.std.proofs.Common.{◌∙◌, ap, refl, false, length, arith, ◌<◌}
use Rattle.std.proofs.lemmas.Bool.{both_ways}
use Rattle.ir_entities.specs.Forest.{Forest}
use Rattle.ir_entities.proofs.Climb.{climb_starts, climb_ends, climbed_plain, climbed_op, room, forest_seen}
use Rattle.ir_entities.proofs.forest.Forest.is_inside.Goals as goal

pub up-init : goal.up-init
up-init g c = climb_starts c.args.self.now c.args.x c.args.c c.slots-left.result (c.slots-left.ensures ∙ ap (λ (w : Forest _ _ _). length w.ops) c.self.view_is) c.requires

pub returns-in-None : goal.returns-in-None
returns-in-None g c = ((λ f. absurd (both_ways false refl f)), (λ w. absurd (climb_ends c.args.self.now c.args.x c.args.c c.up.at c.up.left c.up.invariant (λ e. both_ways false refl (c.up-test.ensures.1 e)) c.in-None.ensures w)))

pub unreachable-requires : goal.unreachable-requires
unreachable-requires g c =
    let r : 0 < c.up.left = room c.args.self.now (forest_seen _ c.args.self.now c.self.view_is c.self.invariant) c.args.x c.args.c c.up.at c.up.left c.up.invariant c.in-Some.up c.in-Some.ensures.0 c.in-Some.ensures.1 c.in-Some.ensures.2 (λ e. both_ways false refl (c.up-test.ensures.1 e)) c.in-Op.field-0 c.in-Op.is in
    omega (arith, r, c.if-left-eq0.true)

pub up-preserved-else-left-eq0 : goal.up-preserved-else-left-eq0
up-preserved-else-left-eq0 g c = climbed_op c.args.self.now (forest_seen _ c.args.self.now c.self.view_is c.self.invariant) c.args.x c.args.c c.up.at c.up.left c.up.invariant c.in-Some.up c.in-Some.ensures.0 c.in-Some.ensures.1 c.in-Some.ensures.2 (λ e. both_ways false refl (c.up-test.ensures.1 e)) c.in-Op.field-0 c.in-Op.is

pub up-preserved : goal.up-preserved
up-preserved g c = climbed_plain c.args.self.now (forest_seen _ c.args.self.now c.self.view_is c.self.invariant) c.args.x c.args.c c.up.at c.up.left c.up.invariant c.in-Some.up c.in-Some.ensures.0 c.in-Some.ensures.1 c.in-Some.ensures.2 (λ e. both_ways false refl (c.up-test.ensures.1 e)) (λ o e. c.in_default.not-Op o e)
