use Rattle.ir_program.proofs.used.SeenUses.{block-used}
use Rattle.ir_program.proofs.program.Program.has_predecessor.Goals as goal

pub returns : goal.returns
returns g c =
    let used = block-used _ c.args.self.now c.self.view_is c.self.invariant c.edge_thread.result c.args.block c.edge_thread.ensures c.know_named.ensures in
    (λ h. used.0 (c.is_used.ensures.0 h), λ h. c.is_used.ensures.1 (used.1 h))
