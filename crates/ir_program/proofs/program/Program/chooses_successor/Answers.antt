use Rattle.std.proofs.Common.{refl}
use Rattle.ir_program.specs.Spots.{successor_use}
use Rattle.ir_program.proofs.used.Choices.{answers-called}
use Rattle.ir_program.proofs.program.Program.chooses_successor.Goals as goal

pub returns : goal.returns
returns g c = answers-called g.F.Fn c.args.self.now (successor_use c.args.self.now c.args.place) c.predicate.ensures refl refl c.successor_use.ensures
