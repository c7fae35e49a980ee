use Rattle.kit_optimiser.proofs.CutLists.{cut}
use Rattle.kit_optimiser.proofs.optimised_lists_cut.Goals as goal

pub returns : goal.returns
returns c = λ xs ys start mid again end other new root root_again root_there numbered begun whole rest one same.
    cut xs ys start mid again end other new root root_again root_there numbered begun whole rest one same
