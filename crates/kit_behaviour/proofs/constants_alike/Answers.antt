use Rattle.std.proofs.Common.{◌≡◌, ◌*◌, subst, arith}
use Rattle.kit_behaviour.specs.Machine.{Alike}
use Rattle.kit_behaviour.specs.InsertedConstants.{same_name, with_constants}
use Rattle.kit_behaviour.specs.Places.{same_place}
use Rattle.kit_behaviour.proofs.Numbering.PlaceEquality.{place_law}
use Rattle.kit_behaviour.proofs.Propagation.PropagationBehaviour.{sccp_alike}
use Rattle.kit_behaviour.proofs.constants_alike.Goals as goal

pub returns : goal.returns
returns c = λ p k m n law few.
    let e : 1 * n * 1 ≡ n = omega arith in
    subst (λ x. Alike same_place (same_name same_place) x p (with_constants m p)) e (sccp_alike same_place place_law p k m law.closed law.scoped law.put n few)
