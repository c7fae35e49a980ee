use Rattle.std.proofs.Common.{refl}
use Rattle.kit.specs.Parts.{AreSizeParts}
use Rattle.kit.proofs.AttributeParts.{pairs_next, pairs_all}
use Rattle.kit.proofs.parts.size_list.Goals as goal

pub loop-size-preserved : goal.loop-size-preserved
loop-size-preserved c =
    pairs_next (λ m n. AreSizeParts m.items n) c.loop-size.members.items c.push.new.self.items c.args.sizes.now c.loop-size.size-index c.in_ok-vec.field-0 0 c.loop-size-test.true c.in_ok-push.ensures.items c.loop-size.invariant c.in_ok-vec.ensures.items

pub returns : goal.returns
returns c = (c.loop-size.members, refl, pairs_all (λ m n. AreSizeParts m.items n) c.loop-size.members.items c.args.sizes.now c.loop-size.size-index c.loop-size-test.false c.loop-size.invariant)
