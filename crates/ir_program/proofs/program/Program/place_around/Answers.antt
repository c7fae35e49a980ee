use Rattle.std.proofs.Common.{subst}
use Rattle.ir_entities.specs.Forest.{shape_of}
use Rattle.ir_entities.specs.Walk.{StandInOne}
use Rattle.ir_program.specs.Program.{Program}
use Rattle.ir_program.proofs.lists.WaysUp.{answered, climb-answered}
use Rattle.ir_program.proofs.program.Program.place_around.Goals as goal

pub returns-clause-rest : goal.returns-clause-rest
returns-clause-rest g c =
    let one = subst (λ (w : Program _ _). StandInOne (shape_of w.forest)) c.self.view_is c.know_parents.ensures.one in
    let parent = answered _ c.args.self.now c.self.view_is c.args.place c.parent.result c.parent.ensures in
    climb-answered c.args.self.now.forest c.know_listed.ensures.forest one c.args.place c.parent.result c.requires parent
