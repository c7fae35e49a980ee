use Rattle.std.proofs.Common.{ap, subst}
use Rattle.ir_program.specs.Program.{Program}
use Rattle.ir_program.specs.Drops.{DropsInside}
use Rattle.ir_program.specs.Lists.{place_of_node}
use Rattle.ir_program.proofs.erased.DropWalks.{frame-same}
use Rattle.ir_program.proofs.erased.Erasures.{decided}
use Rattle.ir_program.proofs.erased.DroppedUses.{dropped-seen}
use Rattle.ir_program.proofs.program.Program.drop_all_uses.Goals as goal

pub returns : goal.returns
returns g c =
    let all = rw c.place-place.ensures at c.know_walk.ensures.all in
    let drops : DropsInside c.args.self.now c.drop_inside.new.self (place_of_node c.args.node) = subst (DropsInside c.args.self.now c.drop_inside.new.self) c.place-place.ensures c.drop_inside.ensures in
    dropped-seen c.args.self.now c.drop_inside.new.self c.args.node c.requires c.know_listed.ensures
    (decided c.args.self.now c.args.self.now (place_of_node c.args.node) c.self.inside.forest (ap (λ (p : Program _ _). p.forest) c.self.view_is) (frame-same c.args.self.now) all)
    drops
