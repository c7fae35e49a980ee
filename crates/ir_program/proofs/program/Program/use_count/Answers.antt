use Rattle.ir_program.specs.Rows.{operands_at}
use Rattle.ir_program.proofs.used.Counts.{one-count}
use Rattle.ir_program.proofs.used.ListedUses.{counted-uses}
use Rattle.ir_program.proofs.used.SeenUses.{value-count}
use Rattle.ir_program.proofs.program.Program.use_count.Goals as goal

pub returns-clause-count : goal.returns-clause-count
returns-clause-count g c = value-count _ c.args.self.now c.self.view_is c.self.invariant c.thread.result c.args.value c.thread.ensures c.know_named.ensures c.count.result c.count.ensures.count

pub returns-clause-only : goal.returns-clause-only
returns-clause-only g c n counted = one-count (operands_at c.args.self.now) _ n c.count.result counted (returns-clause-count g c)

pub returns-clause-listed : goal.returns-clause-listed
returns-clause-listed g c = counted-uses _ c.args.self.now c.self.view_is c.self.invariant c.thread.result c.args.value c.thread.ensures c.count.result c.count.ensures.listed
