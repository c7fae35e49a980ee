use Rattle.kit_behaviour.proofs.ControlFlow.NamedMerging.{merges_by_place}
use Rattle.kit_behaviour.proofs.merging_by_place.Goals as goal

pub returns : goal.returns
returns g c = λ same true_same same_true f h defined rules m. merges_by_place same
    (record { true_same = true_same; same_true = same_true }) f h defined rules m
