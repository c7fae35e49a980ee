use Rattle.std.specs.Prelude.{◌++◌}
use Rattle.kit_behaviour.proofs.PassListLemmas.{after_cut}
use Rattle.kit_ruled_views.proofs.programs.ListsOnTrees.{list_on, is_after}
use Rattle.kit_ruled_views.proofs.tree_lists_cut.Goals as goal

pub returns : goal.returns
returns g c = λ told leads numbered xs ys t m r s p q k first whole rest a b c rules.
    let n = list_on told leads numbered xs t m p first a in
    after_cut xs ys p n.0 q k rules n.2 (is_after told leads numbered (xs ++ ys) t r p q whole a b)
    (is_after told leads numbered ys m s n.0 k rest n.1 c)
