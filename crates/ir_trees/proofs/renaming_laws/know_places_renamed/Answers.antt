use Rattle.std.proofs.Common.{◌∙◌, ap, sym}
use Rattle.ir_trees.specs.Places.{at_place}
use Rattle.ir_trees.specs.Renames.{forget}
use Rattle.ir_trees.proofs.Placed.{place_renamed}
use Rattle.ir_trees.proofs.renaming_laws.know_places_renamed.Goals as goal

pub returns-clause-renamed : goal.returns-clause-renamed
returns-clause-renamed g c m t p = place_renamed m t p

pub returns-clause-same : goal.returns-clause-same
returns-clause-same g c t u s p = sym (place_renamed forget t p) ∙ ap (λ x. at_place x p) s.shape ∙ place_renamed forget u p
