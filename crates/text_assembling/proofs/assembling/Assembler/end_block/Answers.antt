use Rattle.std.proofs.Common.{refl}
use Rattle.text_assembling.proofs.assembling.Assembler.end_block.Goals as goal

pub returns-in_ok-push-clause-here : goal.returns-in_ok-push-clause-here
returns-in_ok-push-clause-here g c bs e = (c.push.new.self, refl, rw c.in-Some.is (cc (e, c.in-Region.is, c.in_ok-push.ensures.items)))

pub returns-in_default-block-clause-here : goal.returns-in_default-block-clause-here
returns-in_default-block-clause-here g c bs e = (_, refl, rw c.in_default-block.is (cc (e, c.in-Region.is)))
