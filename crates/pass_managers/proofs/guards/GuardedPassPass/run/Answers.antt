use Rattle.std.proofs.Common.{rules, refl}
use Rattle.pass_managers.specs.Running.{let_through, kept_out}
use Rattle.pass_managers.proofs.guards.GuardedPassPass.run.Goals as goal

pub returns-then-is_allowed : goal.returns-then-is_allowed
returns-then-is_allowed g c = (refl, let_through (search rules) c.run_pass.ensures.runs)

pub returns-else-is_allowed : goal.returns-else-is_allowed
returns-else-is_allowed g c = (refl, kept_out (search rules) (record { unchanged = c.new.ensures.status; lists_none = c.new.ensures.listed }))
