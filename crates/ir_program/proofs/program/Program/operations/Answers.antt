use Rattle.ir_program.proofs.lists.InBlocks.{all_operations_stand}
use Rattle.ir_program.proofs.program.Program.operations.Goals as goal

pub returns-clause-stand : goal.returns-clause-stand
returns-clause-stand g c = all_operations_stand c.args.self.now c.know_listed.ensures c.args.block
