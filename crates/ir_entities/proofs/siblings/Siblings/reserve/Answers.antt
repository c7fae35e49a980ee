use Rattle.std.proofs.Common.{refl}
use Rattle.ir_entities.proofs.Writes.{seen_alike}
use Rattle.ir_entities.proofs.siblings.Siblings.reserve.Goals as goal

pub returns-in_err-reserve : goal.returns-in_err-reserve
returns-in_err-reserve c = record { same = seen_alike c.self.inside c.args.self.now c.self.view_is c.reserve.new.self.items c.self.inside.ends.items _ (assumption c) c.reserve.ensures.items refl }

pub returns-in_err-reserve-2 : goal.returns-in_err-reserve-2
returns-in_err-reserve-2 c = record { same = seen_alike c.self.inside c.args.self.now c.self.view_is c.reserve.new.self.items c.reserve-2.new.self.items _ (assumption c) c.reserve.ensures.items c.reserve-2.ensures.items }

pub returns : goal.returns
returns c = record { same = seen_alike c.self.inside c.args.self.now c.self.view_is c.reserve.new.self.items c.reserve-2.new.self.items _ (assumption c) c.reserve.ensures.items c.reserve-2.ensures.items }
