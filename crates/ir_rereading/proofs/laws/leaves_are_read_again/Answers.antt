use Rattle.ir_rereading.proofs.layouts.LayoutNumbers.{leaf_again}
use Rattle.ir_rereading.proofs.layouts.LeafTokens.{leaf_token}
use Rattle.ir_rereading.proofs.laws.leaves_are_read_again.Goals as goal

pub returns-clause-token : goal.returns-clause-token
returns-clause-token c = λ x h. leaf_token x h

pub returns-clause-says : goal.returns-clause-says
returns-clause-says c = λ x h. leaf_again x h
