use Rattle.ir_program.proofs.lists.Inside.{slots_inside, handles_inside}
use Rattle.ir_program.proofs.program.Program.is_inside.Goals as goal

pub returns : goal.returns
returns g c =
    let by_slots = rw (c.place.ensures, c.place-2.ensures) at c.is_inside.ensures in (
      λ t. handles_inside _ c.args.self.now c.self.view_is c.know_listed.ensures c.args.outer c.args.inner c.requires.outer c.requires.inner (by_slots.0 t),
      λ s. by_slots.1 (slots_inside _ c.args.self.now c.self.view_is c.args.outer c.args.inner s),
    )
