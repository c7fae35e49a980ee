use Rattle.std.proofs.Common.{refl}
use Rattle.std.specs.Vec.{with_item}
use Rattle.kit_checks.proofs.Numbering.{number_written}
use Rattle.kit_checks.proofs.walk_order.WalkOrder.set_number.Goals as goal

pub returns : goal.returns
returns c =
    number_written c.args.self.now c.make_room.new.self
    (record { numbers = with_item c.make_room.new.self.numbers c.slot-slot.result c.args.number })
    c.args.op c.slot-slot.result c.args.number c.slot-slot.ensures c.in_ok-make_room.ensures.room refl
    c.in_ok-make_room.ensures.kept
