use Rattle.std.proofs.Common.{ap}
use Rattle.ir_program.specs.Program.{Program}
use Rattle.ir_program.proofs.erased.DropWalks.{come-first, come-next, come-less}
use Rattle.ir_program.proofs.program.Program.drop_inside.Goals as goal

pub places-init : goal.places-init
places-init g c = come-first c.self.inside.forest c.args.self.now c.args.x (ap (λ (p : Program _ _). p.forest) c.self.view_is) c.requires c.know_walk.ensures.once c.know_walk.ensures.all c.know_walk.ensures.begins

pub places-smaller : goal.places-smaller
places-smaller g c = come-less c.args.self.now c.places.self c.drop_at.new.self c.args.x c.in-Some.place c.places.at c.next_inside-at.result c.in-Some.is c.places.invariant c.drop_at.ensures c.self-in-Some.inside.forest (ap (λ (p : Program _ _). p.forest) c.self-in-Some.view_is) c.next_inside-at.ensures.rest c.next_inside-at.ensures.inside

pub places-preserved : goal.places-preserved
places-preserved g c = come-next c.args.self.now c.places.self c.drop_at.new.self c.args.x c.in-Some.place c.places.at c.next_inside-at.result c.in-Some.is c.places.invariant c.drop_at.ensures c.self-in-Some.inside.forest (ap (λ (p : Program _ _). p.forest) c.self-in-Some.view_is) c.next_inside-at.ensures.rest c.next_inside-at.ensures.inside
