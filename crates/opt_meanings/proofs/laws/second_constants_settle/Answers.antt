use Rattle.opt_meanings.proofs.SettledSccp.{second_settles}
use Rattle.opt_meanings.proofs.laws.second_constants_settle.Goals as goal

pub returns : goal.returns
returns g c = λ d law tests w z t u put again p s unpinned y. second_settles d law tests w z t u put again p s unpinned y
