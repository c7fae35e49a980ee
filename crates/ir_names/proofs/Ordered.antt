-- References to texts in order are texts in order.
use Rattle.std.proofs.Common.{◌≡◌, ℕ, ◌+◌, ◌<◌, List, [], ◌∷◌, length, slice_index_or, is_lt, ◌∙◌, arith}
use Rattle.std.proofs.lemmas.List.{get_or-map, length-map}
use Rattle.std.specs.Borrow.{Bor}
use Rattle.std.specs.Cmp.Lexicographic.{slice_cmp}
use Rattle.std.specs.List.Sorted.{IsSorted, IsSortedByKey}
use Rattle.std.specs.Ordering.{nat_cmp}
use Rattle.ir_names.specs.Dictionary.{texts}

pub IsSorted-texts : (names : List (Bor (List ℕ))) → IsSortedByKey (λ (name : Bor (List ℕ)). name.now) (slice_cmp nat_cmp) names → IsSorted (slice_cmp nat_cmp) (texts names)
IsSorted-texts [] h k d low high = let no : k + 1 < 0 = high in absurd (omega (arith, no))
IsSorted-texts (name ∷ names) h k d low high =
    let all = name ∷ names in
    let within : k + 1 < length all = omega (arith, high, length-map all (λ (name : Bor (List ℕ)). name.now)) in
    let before : k < length all = omega (arith, within) in
    let text : Bor (List ℕ) → List ℕ = λ name. name.now in
    let second : slice_index_or (texts all) (k + 1) d ≡ text (slice_index_or all (k + 1) name) = get_or-map text all (k + 1) name d within in
    let first : slice_index_or (texts all) k d ≡ text (slice_index_or all k name) = get_or-map text all k name d before in
    (λ j. is_lt (slice_cmp nat_cmp (second j) (first j))) ∙ h k name low within
