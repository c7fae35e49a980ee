use Rattle.std.proofs.Common.{◌≡◌, ◌∷◌, ◌++◌, subst}
use Rattle.ir_program.specs.Lists.{regions_in}
use Rattle.ir_walks.specs.Levels.{directed}
use Rattle.ir_walks.proofs.lists.region_beside.Goals as goal

pub returns-in-Forward : goal.returns-in-Forward
returns-in-Forward g c = λ op before after h. c.region_after.ensures op before after (subst (λ way. directed way (regions_in c.args.program.now op) ≡ before ++ c.args.region ∷ after) c.in-Forward.is h)

pub returns-in-Reverse : goal.returns-in-Reverse
returns-in-Reverse g c = λ op before after h. c.region_before.ensures op before after (subst (λ way. directed way (regions_in c.args.program.now op) ≡ before ++ c.args.region ∷ after) c.in-Reverse.is h)
