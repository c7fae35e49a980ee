use Rattle.ir_program.specs.Lists.{operations_in, blocks_in, regions_in}
use Rattle.ir_program.proofs.lists.Returns.{both-ways}
use Rattle.ir_program.proofs.program.Program.know_both_ways.Goals as goal

pub returns-clause-operations : goal.returns-clause-operations
returns-clause-operations g c block = both-ways (operations_in c.args.self.now block)

pub returns-clause-blocks : goal.returns-clause-blocks
returns-clause-blocks g c region = both-ways (blocks_in c.args.self.now region)

pub returns-clause-regions : goal.returns-clause-regions
returns-clause-regions g c op = both-ways (regions_in c.args.self.now op)
