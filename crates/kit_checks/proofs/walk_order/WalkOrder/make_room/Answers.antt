use Rattle.kit_checks.proofs.Numbering.{room_keeps}
use Rattle.kit_checks.proofs.walk_order.WalkOrder.make_room.Goals as goal

pub loop-self-preserved : goal.loop-self-preserved
loop-self-preserved c =
    room_keeps c.args.self.now c.loop-self.self (record { numbers = c.push.new.self }) c.in_ok-push.ensures.items
    c.loop-self.invariant
