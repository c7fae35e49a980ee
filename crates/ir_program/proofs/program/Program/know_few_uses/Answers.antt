use Rattle.ir_program.proofs.used.FewUses.{few_uses}
use Rattle.ir_program.proofs.program.Program.know_few_uses.Goals as goal

pub returns : goal.returns
returns g c = few_uses _ c.args.self.now c.self.view_is c.self.invariant c.know_few.ensures
