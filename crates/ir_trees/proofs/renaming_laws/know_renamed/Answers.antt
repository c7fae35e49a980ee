use Rattle.ir_trees.proofs.Renamed.{own_root, root_twice}
use Rattle.ir_trees.proofs.renaming_laws.know_renamed.Goals as goal

pub returns-clause-own : goal.returns-clause-own
returns-clause-own g c t = own_root t

pub returns-clause-twice : goal.returns-clause-twice
returns-clause-twice g c m n t = root_twice n m t
