use Rattle.kit_behaviour.proofs.PassListLemmas.{after_cut}
use Rattle.kit_behaviour.proofs.lists_cut.Goals as goal

pub returns : goal.returns
returns c = λ xs ys p n r s fit first whole rest. after_cut xs ys p n r s fit first whole rest
