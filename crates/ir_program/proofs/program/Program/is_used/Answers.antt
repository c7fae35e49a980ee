use Rattle.ir_program.proofs.used.SeenUses.{value-used}
use Rattle.ir_program.proofs.program.Program.is_used.Goals as goal

pub returns : goal.returns
returns g c =
    let used = value-used _ c.args.self.now c.self.view_is c.self.invariant c.thread.result c.args.value c.thread.ensures c.know_named.ensures in
    (λ h. used.0 (c.is_used.ensures.0 h), λ h. c.is_used.ensures.1 (used.1 h))
