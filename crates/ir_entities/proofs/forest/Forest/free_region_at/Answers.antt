use Rattle.ir_entities.proofs.Takes.{region_freed_seen}
use Rattle.ir_entities.proofs.forest.Forest.free_region_at.Goals as goal

pub returns-clause-erased : goal.returns-clause-erased
returns-clause-erased g c = region_freed_seen _ c.args.self.now c.self.view_is c.args.region c.erase.new.self c.key_of-key.result c.key_of-key.ensures.slot c.key_of-key.ensures.live c.erase.ensures.slot c.requires.bare c.erase.ensures.spent c.erase.ensures.spent_now
