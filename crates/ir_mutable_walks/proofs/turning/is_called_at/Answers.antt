use Rattle.std.proofs.Common.{sym, ◌∙◌}
use Rattle.ir_mutable_walks.proofs.OneTurn.{called_here}
use Rattle.ir_mutable_walks.proofs.turning.is_called_at.Goals as goal

pub returns-in-Some-clause-yes : goal.returns-in-Some-clause-yes
returns-in-Some-clause-yes c = λ h. called_here c.args.config.now c.args.at _ _ c.called_at.ensures c.in-Some.is

pub returns-in-None-clause-no : goal.returns-in-None-clause-no
returns-in-None-clause-no c = λ h. sym c.called_at.ensures ∙ c.in-None.is
