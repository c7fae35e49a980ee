use Rattle.kit_behaviour.proofs.Propagation.NamedPropagation.{propagates_by_place, propagation_defines}
use Rattle.kit_behaviour.proofs.propagation_by_place.Goals as goal

pub returns-clause-places : goal.returns-clause-places
returns-clause-places g c = λ same true_same same_true f h defined rules m. propagates_by_place same
    (record { true_same = true_same; same_true = same_true }) f h defined rules m

pub returns-clause-defined : goal.returns-clause-defined
returns-clause-defined g c = λ same true_same same_true f h defined rules m. propagation_defines same
    (record { true_same = true_same; same_true = same_true }) f h defined rules m
