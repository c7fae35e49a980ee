use Rattle.opt_chains.proofs.StandInsLemmas.FollowingLemmas.{number_of_some, number_of_none}
use Rattle.opt_chains.proofs.stand_ins.following.number_if.Goals as goal

pub returns-in-Some : goal.returns-in-Some
returns-in-Some c = number_of_some c.args.inside.now.values.keys c.args.value c.in-Some.value c.value_number.result c.in-Some.is c.value_number.ensures

pub returns-in-None : goal.returns-in-None
returns-in-None c = number_of_none c.args.inside.now.values.keys c.args.value c.in-None.is
