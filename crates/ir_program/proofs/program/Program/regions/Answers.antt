use Rattle.ir_program.proofs.lists.InOperations.{all_regions_stand}
use Rattle.ir_program.proofs.program.Program.regions.Goals as goal

pub returns-clause-stand : goal.returns-clause-stand
returns-clause-stand g c = all_regions_stand c.args.self.now c.know_listed.ensures c.args.op
