use Rattle.std.proofs.Common.{refl}
use Rattle.ir_locations.proofs.location.clone_option.Goals as goal

pub returns-in_ok-copy-in-Some : goal.returns-in_ok-copy-in-Some
returns-in_ok-copy-in-Some g c =
    rw c.in-Some.is (c.requires.copies c.in-Some.attribute c.in_ok-copy-in-Some.copy
    record { shown = _; shows = refl; says = record { met = c.in_ok-copy-in-Some.ensures } })
