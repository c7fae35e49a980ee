use Rattle.std.proofs.Common.{◌≡◌, Some, None, refl, sym, ◌∙◌}
use Rattle.ir_core.proofs.VerificationLemmas.Flaws.{needs-held}
use Rattle.ir_core.proofs.verification.blocks.needs_terminator.Goals as goal

pub returns-in-Some : goal.returns-in-Some
returns-in-Some g c = needs-held g.D.DialectTables.op_has c.args.ctx.now.program c.args.block c.in-Some.op c.get_parent_op.result c.implements.result c.in-Some.is c.implements.ensures c.in-Some.ensures.found c.get_parent_op.ensures.only

pub returns-in-None : goal.returns-in-None
returns-in-None g c = (λ t op h. let s : None ≡ Some op = sym c.in-None.is ∙ c.get_parent_op.ensures.only op h in cc, λ n. refl)
