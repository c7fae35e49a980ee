use Rattle.kit_behaviour.proofs.ControlFlow.NamedDefined.{simplified_defined}
use Rattle.kit_behaviour.proofs.simplifying_defines.Goals as goal

pub returns : goal.returns
returns g c = λ same true_same same_true f h defined rules m. simplified_defined same
    (record { true_same = true_same; same_true = same_true }) f h defined rules m
