use Rattle.ir_program.proofs.lists.Returns.{returns-operations, returns-blocks}
use Rattle.ir_program.proofs.program.Program.know_returns.Goals as goal

pub returns-clause-operations : goal.returns-clause-operations
returns-clause-operations g c = returns-operations c.args.self.now

pub returns-clause-blocks : goal.returns-clause-blocks
returns-clause-blocks g c = returns-blocks c.args.self.now
