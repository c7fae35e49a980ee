use Rattle.std.proofs.Common.{refl}
use Rattle.ir_program.specs.Spots.{operand_use}
use Rattle.ir_program.proofs.used.Choices.{answers-called}
use Rattle.ir_program.proofs.program.Program.chooses_operand.Goals as goal

pub returns : goal.returns
returns g c = answers-called g.F.Fn c.args.self.now (operand_use c.args.self.now c.args.place) c.predicate.ensures refl refl c.operand_use.ensures
