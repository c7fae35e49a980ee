use Rattle.kit_behaviour.proofs.ControlFlow.NamedPlacing.{placed_on}
use Rattle.kit_behaviour.specs.Numbering.{HasPlace}
use Rattle.kit_behaviour.proofs.numbering_forgets_defined.Goals as goal

pub returns : goal.returns
returns g c = λ same other r f defined apart. placed_on same other r (HasPlace same f) apart f
    (record { ops = defined.ops; arguments = defined.arguments })
