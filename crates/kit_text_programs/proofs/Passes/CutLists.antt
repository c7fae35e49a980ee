-- A list of passes on a tree is its beginning and then its rest.
use Rattle.std.proofs.Common.{[], ◌∷◌, refl}
use Rattle.kit_text_programs.specs.SameLaws.{ListsOfPassesCut}

-- by induction on the beginning
pub lists_cut : ListsOfPassesCut
lists_cut leads numbered [] ys t r a = (t, refl, a)
lists_cut leads numbered (x ∷ xs) ys t r a =
    let rest = lists_cut leads numbered xs ys a.1.0 r a.1.2 in
    (rest.0, (a.0, (a.1.0, a.1.1, rest.1)), rest.2)
