use Rattle.ir_trees.proofs.Same.{same_itself, same_back, same_on}
use Rattle.ir_trees.proofs.renaming_laws.know_same.Goals as goal

pub returns-clause-reflexive : goal.returns-clause-reflexive
returns-clause-reflexive g c t = same_itself t

pub returns-clause-symmetric : goal.returns-clause-symmetric
returns-clause-symmetric g c t u s = same_back t u s

pub returns-clause-transitive : goal.returns-clause-transitive
returns-clause-transitive g c t u v s r = same_on t u v s r
