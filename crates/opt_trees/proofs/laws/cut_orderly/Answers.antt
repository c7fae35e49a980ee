use Rattle.opt_trees.proofs.Orderly.{phases_orderly, phases_local, phases_last}
use Rattle.opt_trees.proofs.laws.cut_orderly.Goals as goal

pub returns : goal.returns
returns g c = record {
  orderly = λ d p w t u cut o. phases_orderly d p w t u cut o;
  local = λ d p w t u cut l. phases_local d p w t u cut l;
  last = λ d p w t u cut l. phases_last d p w t u cut l;
}
