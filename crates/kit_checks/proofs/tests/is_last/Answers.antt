use Rattle.std.proofs.Common.{◌∙◌, sym}
use Rattle.ir_program.specs.Lists.{operations_in}
use Rattle.kit_checks.proofs.Local.{not_last, last_if_none}
use Rattle.kit_checks.proofs.tests.is_last.Goals as goal

pub returns-in-Some : goal.returns-in-Some
returns-in-Some g c block k here = not_last (operations_in c.args.ctx.now.program block) k c.args.op c.in-Some.field-0 here (sym (c.get_next.ensures.next block k here) ∙ c.in-Some.is)

pub returns-in-None : goal.returns-in-None
returns-in-None g c block k here = last_if_none (operations_in c.args.ctx.now.program block) k c.args.op here (sym (c.get_next.ensures.next block k here) ∙ c.in-None.is)
