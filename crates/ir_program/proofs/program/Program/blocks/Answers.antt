use Rattle.ir_program.proofs.lists.InRegions.{all_blocks_stand}
use Rattle.ir_program.proofs.program.Program.blocks.Goals as goal

pub returns-clause-stand : goal.returns-clause-stand
returns-clause-stand g c = all_blocks_stand c.args.self.now c.know_listed.ensures c.args.region
