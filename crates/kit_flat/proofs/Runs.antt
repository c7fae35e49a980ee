-- Runs that begin.
use Rattle.std.proofs.Common.{◌≡◌, ℕ, List, [], ◌∷◌, nat_eq, map, reverse}
use Rattle.kit_flat.specs.Machine.{Going, start, first_frame}
use Rattle.kit_flat.specs.declared.flat.FlatFunction.{FlatFunction}
use Rattle.kit_flat.specs.declared.interpreter.Running.{Running}
use Rattle.kit_flat.specs.View.{flat_code, state_view, frame_view}

pub started : (fs : List FlatFunction) (i : ℕ) (xs : List ℕ) (r : Running)
    → frame_view r.top ≡ first_frame nat_eq (flat_code fs) i xs 0 → r.waiting.items ≡ [] → r.emissions.items ≡ []
    → state_view r ≡ start nat_eq (flat_code fs) i xs
started fs i xs r g h o = λ j. Going (g j ∷ map frame_view (reverse (h j))) (o j)
