use Rattle.std.proofs.Common.{ap}
use Rattle.ir_program.specs.Program.{Program}
use Rattle.ir_program.proofs.lists.MovingRegions.{apart_in_mid, region_types, region_moved_program, region_moved, region_rotated}
use Rattle.ir_program.proofs.program.Program.move_region.Goals as goal

pub insert_region_at_back-requires-clause-apart : goal.insert_region_at_back-requires-clause-apart
insert_region_at_back-requires-clause-apart g c = apart_in_mid _ c.args.self.now c.self.view_is c.know_listed.ensures c.args.region c.args.op c.requires.region c.requires.op c.unlink_region.new.self c.unlink_region.ensures.lists c.unlink_region.ensures.rest c.requires.apart

pub invariant_of-self : goal.invariant_of-self
invariant_of-self g c = region_moved_program _ c.args.self.now c.self.view_is c.know_listed.ensures c.args.region c.args.op c.requires.region c.requires.op c.unlink_region.new.self c.unlink_region.ensures.lists c.unlink_region.ensures.rest c.insert_region_at_back.new.self c.insert_region_at_back.ensures.lists c.insert_region_at_back.ensures.rest c.self.invariant

pub returns-clause-elsewhere : goal.returns-clause-elsewhere
returns-clause-elsewhere g c from k at ne = region_moved _ c.args.self.now c.self.view_is c.know_listed.ensures c.args.region c.args.op c.requires.region c.requires.op c.unlink_region.new.self c.unlink_region.ensures.lists c.unlink_region.ensures.rest c.insert_region_at_back.new.self c.insert_region_at_back.ensures.lists c.insert_region_at_back.ensures.rest from k at ne

pub returns-clause-within : goal.returns-clause-within
returns-clause-within g c k at = region_rotated _ c.args.self.now c.self.view_is c.know_listed.ensures c.args.region c.args.op c.requires.region c.requires.op c.unlink_region.new.self c.unlink_region.ensures.lists c.unlink_region.ensures.rest c.insert_region_at_back.new.self c.insert_region_at_back.ensures.lists c.insert_region_at_back.ensures.rest k at

pub returns-clause-values : goal.returns-clause-values
returns-clause-values g c = record {
  types = λ v. region_types _ c.args.self.now c.self.view_is c.know_listed.ensures c.args.region c.args.op c.requires.region c.requires.op c.unlink_region.new.self c.unlink_region.ensures.lists c.unlink_region.ensures.rest c.insert_region_at_back.new.self c.insert_region_at_back.ensures.lists c.insert_region_at_back.ensures.rest v;
  counter = ap (λ (w : Program _ _). w.counter) c.self.view_is;
}
