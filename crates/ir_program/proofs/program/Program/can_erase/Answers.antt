use Rattle.ir_program.proofs.used.UserHandles.{apart-told}
use Rattle.ir_program.proofs.program.Program.can_erase.Goals as goal

pub returns : goal.returns
returns g c =
    let told = rw c.place.ensures at c.is_apart.ensures in
    apart-told _ c.args.self.now c.self.view_is c.self.invariant c.know_listed.ensures c.args.node c.requires c.know_named.ensures c.know_named-2.ensures c.is_apart.result told
