use Rattle.std.proofs.Common.{subst}
use Rattle.ir_entities.specs.Forest.{shape_of}
use Rattle.ir_entities.specs.Walk.{StandInOne}
use Rattle.ir_program.specs.Program.{Program}
use Rattle.ir_program.proofs.lists.WaysUp.{from-inner, way-up}
use Rattle.ir_program.proofs.program.Program.nodes_around.Goals as goal

pub returns-clause-list : goal.returns-clause-list
returns-clause-list g c = rw c.place.ensures (from-inner c.args.self.now c.args.inner)

pub returns-clause-way : goal.returns-clause-way
returns-clause-way g c =
    let one = subst (λ (w : Program _ _). StandInOne (shape_of w.forest)) c.self.view_is c.know_parents.ensures.one in
    way-up c.args.self.now c.know_listed.ensures one c.args.inner c.requires
