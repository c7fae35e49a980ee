use Rattle.std.proofs.Common.{refl}
use Rattle.text_assembling.proofs.assembling.Assembler.operand.Goals as goal

pub returns-in_ok-push-in-Operands-clause-here : goal.returns-in_ok-push-in-Operands-clause-here
returns-in_ok-push-in-Operands-clause-here g c ks e = (_, refl, cc (e, c.in-Operands.is, c.in-Operands.tokens-is, c.in_ok-push-in-Operands.ensures.items, c.last-token.ensures))

pub returns-in_ok-push-in-Successor-clause-handed_on : goal.returns-in_ok-push-in-Successor-clause-handed_on
returns-in_ok-push-in-Successor-clause-handed_on g c ks e = (_, refl, cc (e, c.in-Successor.is, c.in-Successor.tokens-is, c.in_ok-push-in-Successor.ensures.items, c.last-token.ensures))
