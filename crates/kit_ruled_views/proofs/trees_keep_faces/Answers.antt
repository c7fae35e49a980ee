use Rattle.kit_behaviour.proofs.PassListLemmas.{after_faces}
use Rattle.kit_ruled_views.proofs.programs.ListsOnTrees.{is_after}
use Rattle.kit_ruled_views.proofs.trees_keep_faces.Goals as goal

pub returns : goal.returns
returns g c = λ told leads numbered xs t r p q after a b fit. after_faces xs p q fit
    (is_after told leads numbered xs t r p q after a b)
