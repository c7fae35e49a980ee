use Rattle.ir_arena.proofs.Vacant.{vacant_exactly}
use Rattle.ir_arena.proofs.arena.Arena.is_vacant.Goals as goal

pub returns : goal.returns
returns g c = vacant_exactly c.args.self.now c.has_no_value.result c.has_no_value.ensures
