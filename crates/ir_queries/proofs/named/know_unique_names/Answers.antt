use Rattle.ir_queries.proofs.OwnNames.{own_names}
use Rattle.ir_queries.proofs.named.know_unique_names.Goals as goal

pub returns : goal.returns
returns g c = own_names _ _ c.args.ctx.now.program (rw c.program.ensures at c.know_values.ensures.own)
