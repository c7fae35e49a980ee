use Rattle.std.proofs.Common.{refl}
use Rattle.opt_rows.proofs.FactsFalling.{lowered, not_lowered}
use Rattle.opt_rows.proofs.facts_found.Found.lower.Goals as goal

pub returns-in_ok-push : goal.returns-in_ok-push
returns-in_ok-push g c = lowered c.args.self.now _ c.args.value c.index.result.now c.args.fact c.in-Some.new c.requires.in_range c.index.ensures c.in-Some.ensures refl refl refl c.in_ok-push.ensures.items

pub returns-in_default : goal.returns-in_default
returns-in_default g c = not_lowered c.args.self.now c.args.value c.index.result.now c.args.fact c.requires.in_range c.index.ensures c.in_default.ensures
